use Rattle.std.proofs.Common.{◌++◌, codes, refl}
use Rattle.tp_device.proofs.Parts.{writes_after}
use Rattle.tp_cli_files.specs.FaultLines.{detail_text, head_text}
use Rattle.tp_cli_files.proofs.FaultLemmas.{stops_first}
use Rattle.tp_cli_files.proofs.fault_lines.FaultLine.write.Goals as goal

pub returns-in_err-write_head-clause-bytes : goal.returns-in_err-write_head-clause-bytes
returns-in_err-write_head-clause-bytes g c =
    stops_first _ c.from_residual.result (g.F.Sink.held c.args.faults.now) (g.F.Sink.held c.write_head.new.faults) (head_text c.args.self.now) (detail_text c.args.self.now.detail ++ codes "\n") c.from_residual.ensures.1 c.in_err-write_head.ensures.bytes

pub returns-clause-bytes : goal.returns-clause-bytes
returns-clause-bytes g c =
    writes_after c.write_rest.result (g.F.Sink.held c.args.faults.now) (g.F.Sink.held c.write_head.new.faults) (g.F.Sink.held c.write_rest.new.faults) (head_text c.args.self.now) (detail_text c.args.self.now.detail ++ codes "\n") _ refl c.in_ok-write_head.ensures.bytes c.write_rest.ensures.bytes
