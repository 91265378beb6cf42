use Rattle.std.proofs.Common.{◌++◌, ◌∷◌, [], codes, refl}
use Rattle.std.proofs.lemmas.Result.{err_from_is_err_and}
use Rattle.tp_device.proofs.Parts.{writes_after, part_first}
use Rattle.tp_plan_text.specs.PlanPrints.{time_text}
use Rattle.tp_plan_text.proofs.printing.write_duration.Goals as goal

pub returns-in_err-push_all-clause-bytes : goal.returns-in_err-push_all-clause-bytes
returns-in_err-push_all-clause-bytes g c =
    let p = err_from_is_err_and c.from_residual.result c.from_residual.ensures.1 in
    rw p.1 (part_first _ _ (codes ") [") (time_text c.args.scale c.args.duration ++ 93 ∷ 10 ∷ []) _ refl c.in_err-push_all.ensures.bytes)

pub returns-clause-bytes : goal.returns-clause-bytes
returns-clause-bytes g c =
    writes_after c.write_time_before.result (g.W.Sink.held c.args.writer.now) (g.W.Sink.held c.push_all.new.writer) (g.W.Sink.held c.write_time_before.new.writer) (codes ") [") (time_text c.args.scale c.args.duration ++ 93 ∷ 10 ∷ []) _ refl c.in_ok-push_all.ensures.bytes c.write_time_before.ensures.bytes
