use Rattle.std.proofs.Common.{◌≡◌, drop}
use Rattle.std.specs.List.{list_any}
use Rattle.tp_syntax_ast.specs.PartViews.{joined_view}
use Rattle.tp_ground_laws.specs.Needed.{some_part}
use Rattle.tp_ground_joins.proofs.needed.+part_adds.Given as goal

abbrev pub invariant-some_part_adds-loop-part : goal.invariant-some_part_adds-loop-part
invariant-some_part_adds-loop-part g l = list_any (λ p. some_part (g.P.Adding.adds l.name) (joined_view g.P.Adding.seen p)) (drop l.part-index l.parts) ≡ list_any (λ p. some_part (g.P.Adding.adds l.name) (joined_view g.P.Adding.seen p)) l.parts
