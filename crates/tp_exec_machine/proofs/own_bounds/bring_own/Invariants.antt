use Rattle.std.proofs.Common.{◌≡◌, ◌≢◌, ◌<◌, ℕ, None, get_or, slice_get}
use Rattle.std.specs.FinMap as map
use Rattle.tp_exec_machine.specs.Partly.{IsPartly}
use Rattle.tp_exec_machine.proofs.own_bounds.bring_own.Given as goal

abbrev pub invariant-loop-place : goal.invariant-loop-place
invariant-loop-place g l =
    record {
      partly : IsPartly (g.N.Net.seen l.fn.net) (g.N.Net.seen l.net) (slice_get l.network.bounds.items);
      there : (k : ℕ) → k < l.place-index → map.get (g.N.Net.seen l.net).bounds (get_or l.place-items k 0) ≢ None;
    }
