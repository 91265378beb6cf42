use Rattle.std.proofs.Common.{refl}
use Rattle.tp_device.specs.Bytes.{Writes}
use Rattle.tp_device.proofs.Parts.{writes_after}
use Rattle.tp_plan_text.specs.PlanPrints.{words_text, end_text}
use Rattle.tp_plan_text.specs.TaskWords.{readable}
use Rattle.tp_plan_text.proofs.printing.write_action.Goals as goal

pub returns-clause-bytes : goal.returns-clause-bytes
returns-clause-bytes g c =
    let task = readable c.args.task.now in
    let more : Writes (g.W.Sink.held c.write_words.new.writer) (g.W.Sink.held c.write_end.new.writer) (end_text task.scale (task.is_durative c.args.step.action) c.args.step.duration) c.write_end.result = rw (← c.is_durative.ensures) c.write_end.ensures.bytes in
    writes_after c.write_end.result (g.W.Sink.held c.args.writer.now) (g.W.Sink.held c.write_words.new.writer) (g.W.Sink.held c.write_end.new.writer) (words_text (task.words c.args.step.action)) (end_text task.scale (task.is_durative c.args.step.action) c.args.step.duration) _ refl c.in_ok-write_words.ensures.bytes more
