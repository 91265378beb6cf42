use Rattle.std.proofs.Common.{sym, ◌∙◌}
use Rattle.std.proofs.lemmas.Bool.{true≢false}
use Rattle.tp_task.proofs.Relaxed.{goal_met}
use Rattle.tp_task.proofs.laws.unreachable_has_no_plan.Goals as goal

pub returns : goal.returns
returns c scale initial g acts reach closed unmet plan own v = true≢false (sym (goal_met scale initial g plan v.0 v.1 acts own reach closed) ∙ unmet)
