use Rattle.std.proofs.Common.{map}
use Rattle.tp_syntax_ast.specs.DomainViews.{action_view, initial_view}
use Rattle.tp_ground_joins.specs.Levels.{AreStatic}
use Rattle.tp_ground_joins.proofs.levels.statics_of.Given as goal

abbrev pub invariant-loop-atom : goal.invariant-loop-atom
invariant-loop-atom l = AreStatic (map action_view l.actions) (map initial_view l.entries) (action_view l.action) l.statics.items
