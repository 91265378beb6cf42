use Rattle.std.proofs.Common.{◌≡◌, ◌∷◌, length, map, filter, take}
use Rattle.std.specs.List.{flat_map}
use Rattle.tp_task.specs.Words.{has_words}
use Rattle.tp_ground_named.specs.Picks.{row_words}
use Rattle.tp_ground_bindings.specs.Rows.{names_of, product, lists_of}
use Rattle.tp_ground_named.proofs.picks.+pick.Given as goal

abbrev pub decreases-pick : goal.decreases-pick
decreases-pick l = length l.lists.now

abbrev pub invariant-loop-name : goal.invariant-loop-name
invariant-loop-name l = map names_of l.picked.items ≡ filter (has_words (map row_words l.rows)) (flat_map (λ b. map (λ r. b.now ∷ r) (product (lists_of l.rest))) (take l.name-index l.names))
