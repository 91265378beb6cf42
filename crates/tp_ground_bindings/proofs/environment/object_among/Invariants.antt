use Rattle.std.proofs.Common.{◌≡◌, map, drop}
use Rattle.tp_syntax_ast.specs.Symbols.{typed_view}
use Rattle.tp_ground_bindings.specs.Bindings.{bound, object_among}
use Rattle.tp_ground_bindings.proofs.environment.object_among.Given as goal

abbrev pub invariant-loop-variable : goal.invariant-loop-variable
invariant-loop-variable l = object_among (bound (map typed_view (drop l.variable-index l.variables)) (map (λ o. o.now) l.left)) l.name ≡ object_among (bound (map typed_view l.variables) (map (λ o. o.now) l.objects)) l.name
