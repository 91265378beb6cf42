use Rattle.std.proofs.Common.{map}
use Rattle.tp_syntax_ast.specs.Symbols.{typed_view}
use Rattle.tp_syntax_ast.specs.Terms.{term_view}
use Rattle.tp_ground_joins.specs.Levels.{AreSame}
use Rattle.tp_ground_joins.proofs.levels.columns_of.Given as goal

abbrev pub invariant-loop-column : goal.invariant-loop-column
invariant-loop-column l = AreSame (map typed_view l.parameters) (map term_view l.terms) l.many l.columns.items l.places.items
