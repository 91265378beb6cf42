use Rattle.std.proofs.Common.{◌++◌, codes, decimal, refl}
use Rattle.tp_device.proofs.Parts.{writes_after}
use Rattle.tp_cli_files.proofs.FaultLemmas.{stops_first}
use Rattle.tp_cli_plan.proofs.found_text.write_spent.Goals as goal

pub returns-clause-bytes : goal.returns-clause-bytes
returns-clause-bytes g c =
    writes_after c.write_number.result (g.W.Sink.held c.args.writer.now) (g.W.Sink.held c.push_all.new.writer) (g.W.Sink.held c.write_number.new.writer) (codes "spent ") (decimal c.args.expanded ++ codes "\n") _ refl c.in_ok-push_all.ensures.bytes c.write_number.ensures.bytes

pub returns-in_err-push_all-clause-bytes : goal.returns-in_err-push_all-clause-bytes
returns-in_err-push_all-clause-bytes g c =
    stops_first _ c.from_residual.result (g.W.Sink.held c.args.writer.now) (g.W.Sink.held c.push_all.new.writer) (codes "spent ") (decimal c.args.expanded ++ codes "\n") c.from_residual.ensures.1 c.in_err-push_all.ensures.bytes
