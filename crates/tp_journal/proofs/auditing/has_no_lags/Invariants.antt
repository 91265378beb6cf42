use Rattle.std.proofs.Common.{◌≡◌, ℕ, ◌<◌}
use Rattle.tp_bounds.specs.Setting.{lag_of}
use Rattle.tp_journal.proofs.auditing.has_no_lags.Given as goal

abbrev pub invariant-loop-e : goal.invariant-loop-e
invariant-loop-e g l = (k : ℕ) → k < l.e → lag_of l.executive.setting k ≡ 0
