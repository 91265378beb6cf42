use Rattle.std.proofs.Common.{◌≡◌, ◌-◌, ℕ, List}
use Rattle.tp_bounds.specs.Setting.{event_count}
use Rattle.tp_exec_machine.specs.Machine.{IsFresh}
use Rattle.tp_script.specs.Lags.{TakesLags}
use Rattle.tp_script.proofs.lags.read_lags.Given as goal

abbrev pub invariant-loop-e : goal.invariant-loop-e
invariant-loop-e g l =
    record {
      lags : (lines : List (List ℕ)) × TakesLags l.fn.lines l.lines (g.N.Net.seen l.fn.net) (g.N.Net.seen l.net) lines;
      start : (g.N.Net.seen l.net).clock ≡ 0;
      new : IsFresh (g.N.Net.seen l.fn.net) → IsFresh (g.N.Net.seen l.net);
      events : event_count (g.N.Net.seen l.net) ≡ event_count (g.N.Net.seen l.fn.net);
      horizon : (g.N.Net.seen l.net).horizon ≡ (g.N.Net.seen l.fn.net).horizon;
      longest : l.lines.longest ≡ l.fn.lines.longest;
      most : l.lines.most ≡ l.fn.lines.most;
      source : l.lines.source ≡ l.fn.lines.source;
      failures : l.lines.failures ≡ l.fn.lines.failures;
    }

abbrev pub decreases-loop-e : goal.decreases-loop-e
decreases-loop-e g l = l.lines.most - l.lines.taken
