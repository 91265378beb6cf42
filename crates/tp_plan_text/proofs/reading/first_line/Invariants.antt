use Rattle.std.proofs.Common.{◌≡◌, take, All}
use Rattle.tp_plan_text.proofs.reading.first_line.Given as goal

abbrev pub invariant-loop-n : goal.invariant-loop-n
invariant-loop-n l = All (λ b. b ≡ 10 → ⊥) (take l.n l.bytes)
