use Rattle.std.proofs.Common.{◌≡◌, ◌∙◌, codes, decimal, refl}
use Rattle.std.specs.Io.KnownBytes.{Appends}
use Rattle.tp_device.proofs.Parts.{writes_after}
use Rattle.tp_cli_plan.proofs.found_text.write_number.Goals as goal

pub returns-clause-bytes : goal.returns-clause-bytes
returns-clause-bytes g c =
    let digits : c.as_bytes.result.now ≡ decimal c.args.n = c.as_bytes.ensures.value ∙ c.format.ensures.text in
    let first : Appends (g.W.Sink.held c.args.writer.now) (g.W.Sink.held c.push_all.new.writer) (decimal c.args.n) = rw (← digits) c.in_ok-push_all.ensures.bytes in
    writes_after c.push_all-2.result (g.W.Sink.held c.args.writer.now) (g.W.Sink.held c.push_all.new.writer) (g.W.Sink.held c.push_all-2.new.writer) (decimal c.args.n) (codes "\n") _ refl first c.push_all-2.ensures.bytes
