use Rattle.std.proofs.Common.{◌≡◌, ℕ, ◌<◌, Some, get_or, length}
use Rattle.tp_bounds.specs.Setting.{fixed_at}
use Rattle.tp_exec.proofs.run_plans.dispatched.Given as goal

abbrev pub invariant-loop-e : goal.invariant-loop-e
invariant-loop-e g l =
    record {
      count : length l.moments.items ≡ l.e;
      each : (e : ℕ) → e < length l.moments.items → fixed_at (g.N.Net.seen l.net) e ≡ Some (get_or l.moments.items e 0);
    }
