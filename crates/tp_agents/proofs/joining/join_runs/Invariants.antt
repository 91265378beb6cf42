use Rattle.std.proofs.Common.{ℕ, ◌<◌, slice_index_or}
use Rattle.tp_exec_machine.specs.declared.command.Report.{Report}
use Rattle.tp_agents.specs.Joined.{IsComplete}
use Rattle.tp_agents.proofs.joining.join_runs.Given as goal

abbrev pub invariant-loop-report : goal.invariant-loop-report
invariant-loop-report l = (k : ℕ) (d : Report) → k < l.report-index → IsComplete (slice_index_or l.reports k d)
