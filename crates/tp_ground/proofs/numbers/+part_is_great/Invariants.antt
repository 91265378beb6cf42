use Rattle.std.proofs.Common.{◌≡◌, drop}
use Rattle.std.specs.List.{list_any}
use Rattle.tp_syntax_ast.specs.PartViews.{joined_view}
use Rattle.tp_ground.specs.Great.{great_part}
use Rattle.tp_ground.proofs.numbers.+part_is_great.Given as goal

abbrev pub invariant-some_part_is_great-loop-part : goal.invariant-some_part_is_great-loop-part
invariant-some_part_is_great-loop-part g l = list_any (λ p. great_part g.P.Numbers.great (joined_view g.P.Numbers.seen p)) (drop l.part-index l.parts) ≡ list_any (λ p. great_part g.P.Numbers.great (joined_view g.P.Numbers.seen p)) l.parts
