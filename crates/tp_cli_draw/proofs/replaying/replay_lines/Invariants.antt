use Rattle.std.proofs.Common.{◌≡◌}
use Rattle.tp_cli_draw.proofs.replaying.replay_lines.Given as goal

abbrev pub invariant-loop-number : goal.invariant-loop-number
invariant-loop-number g l = record {
  count : l.lines.failures ≡ l.initial.lines.failures;
  source : l.lines.source ≡ l.initial.lines.source;
}
