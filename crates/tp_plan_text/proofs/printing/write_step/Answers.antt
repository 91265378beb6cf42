use Rattle.std.proofs.Common.{◌++◌, codes, refl}
use Rattle.tp_device.proofs.Parts.{writes_after}
use Rattle.tp_plan_text.specs.PlanPrints.{time_text, words_text, end_text}
use Rattle.tp_plan_text.specs.TaskWords.{readable}
use Rattle.tp_plan_text.proofs.printing.write_step.Goals as goal

pub returns-clause-bytes : goal.returns-clause-bytes
returns-clause-bytes g c =
    let task = readable c.args.task.now in
    writes_after c.write_action.result (g.W.Sink.held c.args.writer.now) (g.W.Sink.held c.write_time_before.new.writer) (g.W.Sink.held c.write_action.new.writer) (time_text task.scale c.args.step.tick ++ codes ": (") (words_text (task.words c.args.step.action) ++ end_text task.scale (task.is_durative c.args.step.action) c.args.step.duration) _ refl
    c.in_ok-write_time_before.ensures.bytes
    c.write_action.ensures.bytes
