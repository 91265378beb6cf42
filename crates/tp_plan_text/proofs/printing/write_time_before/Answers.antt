use Rattle.std.proofs.Common.{refl}
use Rattle.tp_device.proofs.Parts.{writes_after}
use Rattle.tp_plan_text.specs.PlanPrints.{time_text}
use Rattle.tp_plan_text.proofs.printing.write_time_before.Goals as goal

pub returns-clause-bytes : goal.returns-clause-bytes
returns-clause-bytes g c =
    writes_after c.push_all.result (g.W.Sink.held c.args.writer.now) (g.W.Sink.held c.write_time.new.writer) (g.W.Sink.held c.push_all.new.writer) (time_text c.args.scale c.args.n) c.args.behind.now _ refl c.in_ok-write_time.ensures.bytes c.push_all.ensures.bytes
