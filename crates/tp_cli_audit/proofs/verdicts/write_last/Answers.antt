use Rattle.std.proofs.Common.{codes, refl}
use Rattle.tp_device.proofs.Parts.{writes_after}
use Rattle.tp_cli_audit.proofs.verdicts.write_last.Goals as goal

pub returns-clause-bytes : goal.returns-clause-bytes
returns-clause-bytes g c =
    writes_after c.push_all-2.result (g.O.Sink.held c.args.output.now) (g.O.Sink.held c.push_all.new.writer) (g.O.Sink.held c.push_all-2.new.writer) c.args.text.now (codes "\n") _ refl c.in_ok-push_all.ensures.bytes c.push_all-2.ensures.bytes
