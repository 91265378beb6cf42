use Rattle.std.proofs.Common.{◌≡◌, ◌∷◌, map, drop, string_bytes}
use Rattle.std.specs.List.{position_from}
use Rattle.tp_task.specs.Words.{same_words}
use Rattle.tp_task.specs.Labels.{named}
use Rattle.tp_task.proofs.lookup.find_by_names.Given as goal

abbrev pub invariant-loop-place : goal.invariant-loop-place
invariant-loop-place l = position_from (same_words (l.name ∷ map (λ w. w.now) l.args)) l.place (map (named (map string_bytes l.names.keys)) (drop l.place l.labels)) ≡ position_from (same_words (l.name ∷ map (λ w. w.now) l.args)) 0 (map (named (map string_bytes l.names.keys)) l.labels)
