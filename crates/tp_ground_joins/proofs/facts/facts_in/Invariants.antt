use Rattle.std.proofs.Common.{◌≡◌, map, take}
use Rattle.tp_syntax_ast.specs.DomainViews.{initial_view}
use Rattle.tp_ground_joins.specs.Facts.{keyed_row, facts_of}
use Rattle.tp_ground_joins.proofs.facts.facts_in.Given as goal

abbrev pub invariant-loop-entry : goal.invariant-loop-entry
invariant-loop-entry l = map keyed_row l.rows.items ≡ facts_of l.name (map initial_view (take l.entry-index l.entries))
