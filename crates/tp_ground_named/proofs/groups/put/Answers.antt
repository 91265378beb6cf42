use Rattle.std.proofs.Common.{◌≡◌, ℕ, List, Bor, ◌∷◌, [], ◌++◌, map, ap, ◌∙◌}
use Rattle.std.proofs.lemmas.List.{map-append}
use Rattle.std.proofs.lemmas.Map.Text.{btree_map_updates_str}
use Rattle.tp_ground_named.specs.Picks.{row_words}
use Rattle.tp_ground_named.specs.Groups.{Tails, tail_words, behind}
use Rattle.tp_ground_named.proofs.OnGroups.{put_behind}
use Rattle.tp_ground_named.proofs.groups.put.Goals as goal
use Rattle.tp_ground_named.proofs.groups.put.Goals.{in-Some, in-None}

pub returns : goal.returns
returns c =
    let name = c.args.name.now in
    let before : map row_words c.match-remove.tails.items ≡ behind c.args.groups.now name = elim c.match-remove.branch [
      | in-Some w ↦ ap (λ (v : Tails). map row_words v.items) w.tails-is ∙ ap tail_words w.in-Some.ensures.value
      | in-None w ↦ ap (λ (v : Tails). map row_words v.items) w.tails-is ∙ (ap (map row_words) w.new-tails.ensures.items ∙ ap tail_words w.in-None.ensures.value)
    ] in
    put_behind c.args.groups.now c.remove.new.self c.insert.new.self name c.push.new.self (map (λ (w : Bor (List ℕ)). w.now) c.args.tail.now)
    (btree_map_updates_str name c.args.groups.now c.remove.new.self _ c.remove.ensures.updates)
    (btree_map_updates_str name c.remove.new.self c.insert.new.self _ c.in_ok-insert.ensures.updates)
    (ap (map row_words) c.in_ok-push.ensures.items ∙ map-append row_words _ _ ∙ ap (λ ws. ws ++ map (λ (w : Bor (List ℕ)). w.now) c.args.tail.now ∷ []) before)
