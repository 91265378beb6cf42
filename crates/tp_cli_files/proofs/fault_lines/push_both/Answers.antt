use Rattle.std.proofs.Common.{refl}
use Rattle.tp_device.specs.Bytes.{Writes}
use Rattle.tp_device.proofs.Parts.{writes_after}
use Rattle.tp_cli_files.proofs.fault_lines.push_both.Goals as goal

pub returns-clause-bytes : goal.returns-clause-bytes
returns-clause-bytes g c =
    let more : Writes (g.F.Sink.held c.push_all.new.writer) (g.F.Sink.held c.push_all-2.new.writer) c.args.text.now c.push_all-2.result = rw (← c.as_bytes.ensures.value) c.push_all-2.ensures.bytes in
    writes_after c.push_all-2.result (g.F.Sink.held c.args.faults.now) (g.F.Sink.held c.push_all.new.writer) (g.F.Sink.held c.push_all-2.new.writer) c.args.before.now c.args.text.now _ refl c.in_ok-push_all.ensures.bytes more
