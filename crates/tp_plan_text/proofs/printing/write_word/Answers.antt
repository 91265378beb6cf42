use Rattle.std.proofs.Common.{refl}
use Rattle.tp_device.specs.Bytes.{Writes}
use Rattle.tp_device.proofs.Parts.{writes_after}
use Rattle.tp_plan_text.proofs.printing.write_word.Goals as goal

pub returns-clause-bytes : goal.returns-clause-bytes
returns-clause-bytes g c =
    let more : Writes (g.W.Sink.held c.push_all.new.writer) (g.W.Sink.held c.push_all-2.new.writer) c.args.word.now c.push_all-2.result = rw (← c.as_bytes.ensures.value) c.push_all-2.ensures.bytes in
    writes_after c.push_all-2.result (g.W.Sink.held c.args.writer.now) (g.W.Sink.held c.push_all.new.writer) (g.W.Sink.held c.push_all-2.new.writer) c.args.before.now c.args.word.now _ refl c.in_ok-push_all.ensures.bytes more
