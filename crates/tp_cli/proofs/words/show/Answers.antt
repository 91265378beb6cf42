use Rattle.std.proofs.Common.{◌∙◌, ℕ, List, subst}
use Rattle.tp_device.specs.Bytes.{AppendsPart}
use Rattle.tp_cli_files.specs.FaultLines.{Tells}
use Rattle.tp_cli.proofs.words.show.Goals as goal

pub returns-in-Err-clause-stopped : goal.returns-in-Err-clause-stopped
returns-in-Err-clause-stopped g c =
    λ no.
    record {
      three = c.complain.ensures.status ∙ c.line.ensures.status;
      part = subst (λ (t : List ℕ). AppendsPart (g.O.Sink.held c.args.output.now) (g.O.Sink.held c.push_all.new.writer) t) c.as_bytes.ensures.value c.in-Err.ensures.bytes;
      told = subst (λ (t : List ℕ). Tells t (g.F.Sink.failures c.args.faults.now) (g.F.Sink.held c.args.faults.now) (g.F.Sink.failures c.complain.new.faults) (g.F.Sink.held c.complain.new.faults)) c.line.ensures.text c.complain.ensures.told;
    }
