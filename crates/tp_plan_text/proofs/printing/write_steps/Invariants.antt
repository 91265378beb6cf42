use Rattle.std.proofs.Common.{◌≡◌, take}
use Rattle.std.specs.Io.KnownBytes.{Appends}
use Rattle.tp_plan_text.specs.PlanPrints.{plan_text}
use Rattle.tp_plan_text.specs.TaskWords.{readable}
use Rattle.tp_plan_text.proofs.printing.write_steps.Given as goal

abbrev pub invariant-loop-step : goal.invariant-loop-step
invariant-loop-step g l = record {
  held : Appends (g.W.Sink.held l.fn.writer) (g.W.Sink.held l.writer) (plan_text (readable l.fn.task) (take l.step-index l.steps));
  count : g.W.Sink.failures l.writer ≡ g.W.Sink.failures l.fn.writer;
}
