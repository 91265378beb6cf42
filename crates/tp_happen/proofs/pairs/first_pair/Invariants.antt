use Rattle.std.proofs.Common.{◌≡◌, drop}
use Rattle.tp_happen.specs.Fault.{first_pair}
use Rattle.tp_happen.proofs.pairs.first_pair.Given as goal

abbrev pub invariant-loop-i : goal.invariant-loop-i
invariant-loop-i l = first_pair l.i (drop l.i l.events) ≡ first_pair 0 l.events
