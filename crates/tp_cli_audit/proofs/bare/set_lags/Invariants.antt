use Rattle.std.proofs.Common.{◌≡◌, drop}
use Rattle.tp_bounds.specs.Setting.{event_count}
use Rattle.tp_exec_machine.specs.Machine.{IsFresh}
use Rattle.tp_cli_audit.specs.Bare.{lagged}
use Rattle.tp_cli_audit.proofs.bare.set_lags.Given as goal

abbrev pub invariant-loop-lag : goal.invariant-loop-lag
invariant-loop-lag g l = record {
  rest : lagged (g.N.Net.seen l.net) (drop l.lag-index l.lags) ≡ lagged (g.N.Net.seen l.initial.net) l.lags;
  start : (g.N.Net.seen l.net).clock ≡ 0;
  count : event_count (g.N.Net.seen l.net) ≡ event_count (g.N.Net.seen l.initial.net);
  horizon : (g.N.Net.seen l.net).horizon ≡ (g.N.Net.seen l.initial.net).horizon;
  new : IsFresh (g.N.Net.seen l.initial.net) → IsFresh (g.N.Net.seen l.net);
}
