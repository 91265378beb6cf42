use Rattle.std.proofs.Common.{refl}
use Rattle.tp_device.proofs.Parts.{writes_after}
use Rattle.tp_cli_files.specs.FaultLines.{fault_text}
use Rattle.tp_cli_files.proofs.FaultLemmas.{stops_first}
use Rattle.tp_cli_files.proofs.fault_lines.FaultLine.write_more.Goals as goal

pub returns-in_err-write-clause-bytes : goal.returns-in_err-write-clause-bytes
returns-in_err-write-clause-bytes g c =
    stops_first _ c.from_residual.result (g.F.Sink.held c.args.faults.now) (g.F.Sink.held c.write.new.faults) (fault_text c.args.self.now) (c.args.more.now) c.from_residual.ensures.1 c.in_err-write.ensures.bytes

pub returns-clause-bytes : goal.returns-clause-bytes
returns-clause-bytes g c =
    writes_after c.push_all.result (g.F.Sink.held c.args.faults.now) (g.F.Sink.held c.write.new.faults) (g.F.Sink.held c.push_all.new.writer) (fault_text c.args.self.now) (c.args.more.now) _ refl c.in_ok-write.ensures.bytes (rw (← c.as_bytes.ensures.value) c.push_all.ensures.bytes)
