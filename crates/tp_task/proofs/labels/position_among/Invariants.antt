use Rattle.std.proofs.Common.{◌≡◌, map, drop, nat_eq}
use Rattle.std.specs.List.{position_from}
use Rattle.std.specs.Cmp.Lexicographic.{pointwise}
use Rattle.tp_task.proofs.labels.position_among.Given as goal

abbrev pub invariant-loop-place : goal.invariant-loop-place
invariant-loop-place l = position_from (pointwise nat_eq l.label.items) l.place (map (λ k. k.items) (drop l.place l.labels)) ≡ position_from (pointwise nat_eq l.label.items) 0 (map (λ k. k.items) l.labels)
