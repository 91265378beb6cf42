use Rattle.std.proofs.Common.{codes, refl}
use Rattle.tp_device.proofs.Parts.{writes_after}
use Rattle.tp_cli_files.specs.FaultLines.{detail_text}
use Rattle.tp_cli_files.proofs.fault_lines.FaultLine.write_rest.Goals as goal

pub returns-clause-bytes : goal.returns-clause-bytes
returns-clause-bytes g c =
    writes_after c.push_all.result (g.F.Sink.held c.args.faults.now) (g.F.Sink.held c.write_detail.new.faults) (g.F.Sink.held c.push_all.new.writer) (detail_text c.args.self.now.detail) (codes "\n") _ refl c.in_ok-write_detail.ensures.bytes c.push_all.ensures.bytes
