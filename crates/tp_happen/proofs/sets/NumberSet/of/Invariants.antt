use Rattle.std.proofs.Common.{◌≡◌, ℕ, ◌==◌, take}
use Rattle.std.specs.List.{list_any}
use Rattle.tp_happen.specs.Sets.{has_number}
use Rattle.tp_happen.proofs.sets.NumberSet.of.Given as goal

abbrev pub invariant-loop-number : goal.invariant-loop-number
invariant-loop-number l = (n : ℕ) → has_number l.set n ≡ list_any (λ x. x == n) (take l.number-index l.numbers)
