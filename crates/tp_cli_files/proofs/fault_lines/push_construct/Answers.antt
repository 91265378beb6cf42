use Rattle.std.proofs.Common.{◌++◌, codes, decimal, refl}
use Rattle.tp_device.proofs.Parts.{writes_after}
use Rattle.tp_cli_files.proofs.FaultLemmas.{stops_first}
use Rattle.tp_cli_files.proofs.fault_lines.push_construct.Goals as goal

pub returns-in_err-push_number-clause-bytes : goal.returns-in_err-push_number-clause-bytes
returns-in_err-push_number-clause-bytes g c =
    stops_first _ c.from_residual.result (g.F.Sink.held c.args.faults.now) (g.F.Sink.held c.push_number.new.faults) (codes " " ++ decimal c.args.at) (codes " " ++ c.args.what.now) c.from_residual.ensures.1 c.in_err-push_number.ensures.bytes

pub returns-clause-bytes : goal.returns-clause-bytes
returns-clause-bytes g c =
    writes_after c.push_both.result (g.F.Sink.held c.args.faults.now) (g.F.Sink.held c.push_number.new.faults) (g.F.Sink.held c.push_both.new.faults) (codes " " ++ decimal c.args.at) (codes " " ++ c.args.what.now) _ refl c.in_ok-push_number.ensures.bytes c.push_both.ensures.bytes
