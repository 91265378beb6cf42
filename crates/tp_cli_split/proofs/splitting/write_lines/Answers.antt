use Rattle.std.proofs.Common.{ℕ, List, subst, string_bytes}
use Rattle.std.specs.Io.KnownBytes.{Appends}
use Rattle.tp_device.specs.Bytes.{AppendsPart}
use Rattle.tp_cli_split.proofs.splitting.write_lines.Goals as goal

pub returns-in-Ok-push_all-clause-written : goal.returns-in-Ok-push_all-clause-written
returns-in-Ok-push_all-clause-written g c = (
  string_bytes c.in-Ok.text,
  c.in-Ok.ensures.lines,
  subst (λ (bytes : List ℕ). Appends (g.O.Sink.held c.args.output.now) (g.O.Sink.held c.push_all.new.writer) bytes) c.as_bytes.ensures.value c.in-Ok-push_all.ensures.bytes,
)

pub returns-in-Ok-clause-cause : goal.returns-in-Ok-clause-cause
returns-in-Ok-clause-cause g c = (
  string_bytes c.in-Ok.text,
  c.in-Ok.ensures.lines,
  subst (λ (bytes : List ℕ). AppendsPart (g.O.Sink.held c.args.output.now) (g.O.Sink.held c.push_all.new.writer) bytes) c.as_bytes.ensures.value c.in-Err-push_all.ensures.bytes,
)
