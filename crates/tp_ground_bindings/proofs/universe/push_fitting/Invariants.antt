use Rattle.std.proofs.Common.{◌≡◌, ◌++◌, map, drop, string_bytes}
use Rattle.tp_syntax_ast.specs.Symbols.{typed_view}
use Rattle.tp_syntax_types.specs.TypeViews.{types_view}
use Rattle.tp_ground_bindings.specs.Bindings.{fitting}
use Rattle.tp_ground_bindings.specs.KnownChoices.{of_types}
use Rattle.tp_ground_bindings.proofs.universe.push_fitting.Given as goal

abbrev pub invariant-loop-object : goal.invariant-loop-object
invariant-loop-object l = map (λ o. o.now) l.names.items ++ fitting (types_view l.types) (map typed_view (drop l.object-index l.objects)) (of_types (map string_bytes l.wanted)) ≡ map (λ o. o.now) l.initial.names.items ++ fitting (types_view l.types) (map typed_view l.objects) (of_types (map string_bytes l.wanted))
