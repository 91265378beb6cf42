use Rattle.std.proofs.Common.{◌≡◌, map, take}
use Rattle.tp_syntax_ast.specs.Symbols.{typed_view}
use Rattle.tp_ground_bindings.specs.Bindings.{choices}
use Rattle.tp_ground_bindings.specs.Views.{universe_view}
use Rattle.tp_ground_bindings.specs.Rows.{lists_of}
use Rattle.tp_ground_bindings.proofs.rows.lists_of.Given as goal

abbrev pub invariant-loop-variable : goal.invariant-loop-variable
invariant-loop-variable l = lists_of l.lists.items ≡ map (choices (universe_view l.universe)) (map typed_view (take l.variable-index l.variables))
