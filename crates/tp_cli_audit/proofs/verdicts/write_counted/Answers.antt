use Rattle.std.proofs.Common.{◌++◌, codes, decimal, refl}
use Rattle.tp_device.proofs.Parts.{writes_after}
use Rattle.tp_cli_audit.proofs.verdicts.write_counted.Goals as goal

pub returns-clause-bytes : goal.returns-clause-bytes
returns-clause-bytes g c =
    writes_after c.write_number.result (g.O.Sink.held c.args.output.now) (g.O.Sink.held c.push_all.new.writer) (g.O.Sink.held c.write_number.new.output) c.args.words.now (decimal c.args.n ++ codes "\n") _ refl c.in_ok-push_all.ensures.bytes c.write_number.ensures.bytes
