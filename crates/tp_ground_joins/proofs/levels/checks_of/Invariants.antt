use Rattle.std.proofs.Common.{map}
use Rattle.tp_syntax_ast.specs.Symbols.{typed_view}
use Rattle.tp_ground_joins.specs.Levels.{AreFair}
use Rattle.tp_ground_joins.proofs.levels.checks_of.Given as goal

abbrev pub invariant-loop-one : goal.invariant-loop-one
invariant-loop-one l = AreFair (map typed_view l.parameters) l.statics l.many l.checks.items
