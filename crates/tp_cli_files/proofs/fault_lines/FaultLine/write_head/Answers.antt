use Rattle.std.proofs.Common.{◌++◌, codes, refl}
use Rattle.tp_device.proofs.Parts.{writes_after}
use Rattle.tp_cli_files.proofs.FaultLemmas.{stops_first}
use Rattle.tp_cli_files.proofs.fault_lines.FaultLine.write_head.Goals as goal

pub returns-in_err-push_both-clause-bytes : goal.returns-in_err-push_both-clause-bytes
returns-in_err-push_both-clause-bytes g c =
    stops_first _ c.from_residual.result (g.F.Sink.held c.args.faults.now) (g.F.Sink.held c.push_both.new.faults) (codes "fault " ++ c.args.self.now.part.now) (codes " " ++ c.args.self.now.words.now) c.from_residual.ensures.1 c.in_err-push_both.ensures.bytes

pub returns-clause-bytes : goal.returns-clause-bytes
returns-clause-bytes g c =
    writes_after c.push_both-2.result (g.F.Sink.held c.args.faults.now) (g.F.Sink.held c.push_both.new.faults) (g.F.Sink.held c.push_both-2.new.faults) (codes "fault " ++ c.args.self.now.part.now) (codes " " ++ c.args.self.now.words.now) _ refl c.in_ok-push_both.ensures.bytes c.push_both-2.ensures.bytes
