use Rattle.std.proofs.Common.{◌≡◌, ℕ, List, map, take}
use Rattle.tp_ground_named.specs.Picks.{tails, row_words}
use Rattle.tp_ground_named.specs.Groups.{behind}
use Rattle.tp_ground_named.proofs.groups.groups_of.Given as goal

abbrev pub invariant-loop-row : goal.invariant-loop-row
invariant-loop-row l = (n : List ℕ) → behind l.groups n ≡ tails n (map row_words (take l.row-index l.rows))
