use Rattle.std.proofs.Common.{◌≡◌, ◌/◌, ap, ◌∙◌, refl, subst, decimal}
use Rattle.std.specs.Io.KnownBytes.{Appends}
use Rattle.tp_text.specs.Scales.{scale_ticks}
use Rattle.tp_device.proofs.Parts.{writes_after}
use Rattle.tp_plan_text.specs.PlanPrints.{decimals}
use Rattle.tp_plan_text.proofs.printing.write_time.Goals as goal

pub returns-clause-bytes : goal.returns-clause-bytes
returns-clause-bytes g c =
    let whole : c.as_bytes.result.now ≡ decimal (c.args.n / scale_ticks c.args.scale) = c.as_bytes.ensures.value ∙ (c.format.ensures.text ∙ ap (λ u. decimal (c.args.n / u)) c.ticks.ensures) in
    writes_after c.write_decimals.result (g.W.Sink.held c.args.writer.now) (g.W.Sink.held c.push_all.new.writer) (g.W.Sink.held c.write_decimals.new.writer) (decimal (c.args.n / scale_ticks c.args.scale)) (decimals c.args.scale c.args.n) _ refl
    (subst (λ t. Appends (g.W.Sink.held c.args.writer.now) (g.W.Sink.held c.push_all.new.writer) t) whole c.in_ok-push_all.ensures.bytes)
    c.write_decimals.ensures.bytes
