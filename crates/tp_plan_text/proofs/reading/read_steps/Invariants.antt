use Rattle.std.proofs.Common.{◌≡◌, ◌+◌, ◌≤◌, true, length}
use Rattle.std.specs.List.{list_all}
use Rattle.tp_plan_text.specs.Steps.{ends_in_time}
use Rattle.tp_plan_text.specs.PlanTexts.{lines_of, AreKnown}
use Rattle.tp_plan_text.specs.TaskWords.{readable}
use Rattle.tp_plan_text.proofs.OnPlans.{HasRead}
use Rattle.tp_plan_text.proofs.reading.read_steps.Given as goal

abbrev pub invariant-lines : goal.invariant-lines
invariant-lines l = record {
  read : HasRead (readable l.fn.task) (lines_of l.fn.text) (lines_of l.rest) l.steps.items l.number;
  few : length l.steps.items ≤ 512;
  ends : list_all ends_in_time l.steps.items ≡ true;
  known : AreKnown (readable l.fn.task) l.steps.items;
  room : l.number + length l.rest ≤ length l.fn.text;
}

abbrev pub decreases-lines : goal.decreases-lines
decreases-lines l = length l.rest
