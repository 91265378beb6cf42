use Rattle.std.proofs.Common.{ℕ, List, refl, subst}
use Rattle.std.specs.Io.KnownBytes.{Appends}
use Rattle.tp_device.specs.Bytes.{AppendsPart}
use Rattle.tp_cli_draw.proofs.answers.write_picture.Goals as goal

pub returns-in-Ok-clause-written : goal.returns-in-Ok-clause-written
returns-in-Ok-clause-written g c = (
  refl,
  subst (λ (bytes : List ℕ). Appends (g.O.Sink.held c.args.output.now) (g.O.Sink.held c.push_all.new.writer) bytes) c.as_bytes.ensures.value c.in-Ok.ensures.bytes,
)

pub returns-in-Err-clause-part : goal.returns-in-Err-clause-part
returns-in-Err-clause-part g c = (
  refl,
  subst (λ (bytes : List ℕ). AppendsPart (g.O.Sink.held c.args.output.now) (g.O.Sink.held c.push_all.new.writer) bytes) c.as_bytes.ensures.value c.in-Err.ensures.bytes,
)
