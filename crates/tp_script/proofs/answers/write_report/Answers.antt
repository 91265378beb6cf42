use Rattle.std.proofs.Common.{◌++◌, ◌∷◌, [], codes, decimal, flat_map, refl, append_assoc}
use Rattle.std.proofs.lemmas.Result.{err_from_is_err_and}
use Rattle.std.proofs.KnownBytes.{Appends-trans}
use Rattle.tp_device.proofs.Parts.{part_first, part_after, writes_after}
use Rattle.tp_script.specs.Transcript.{kind_text, moment_text}
use Rattle.tp_script.proofs.answers.write_report.Goals as goal

pub returns-in_err-push_all-clause-bytes : goal.returns-in_err-push_all-clause-bytes
returns-in_err-push_all-clause-bytes g c =
    let p = err_from_is_err_and c.from_residual.result c.from_residual.ensures.1 in
    let flat = flat_map moment_text c.args.report.now.moments.items in
    let head = codes "report " ++ decimal c.args.report.now.now ++ codes " " ++ kind_text c.args.report.now.kind in
    rw p.1 (part_first _ _ head (flat ++ 10 ∷ []) _ (append_assoc head flat (10 ∷ [])) (rw (← c.report_head-head.ensures, ← c.as_slice.ensures) c.in_err-push_all.ensures.bytes))

pub returns-in_err-write_moments-clause-bytes : goal.returns-in_err-write_moments-clause-bytes
returns-in_err-write_moments-clause-bytes g c =
    let p = err_from_is_err_and c.from_residual-in_err-write_moments.result c.from_residual-in_err-write_moments.ensures.1 in
    let flat = flat_map moment_text c.args.report.now.moments.items in
    let head = codes "report " ++ decimal c.args.report.now.now ++ codes " " ++ kind_text c.args.report.now.kind in
    rw p.1 (part_after (g.W.Sink.held c.args.writer.now) (g.W.Sink.held c.push_all.new.writer) (g.W.Sink.held c.write_moments.new.writer) head flat (10 ∷ []) _ (append_assoc head flat (10 ∷ [])) (rw (← c.report_head-head.ensures, ← c.as_slice.ensures) c.in_ok-push_all.ensures.bytes) (rw (← c.as_slice-2.ensures.value) c.in_err-write_moments.ensures.bytes))

pub returns-clause-bytes : goal.returns-clause-bytes
returns-clause-bytes g c =
    let flat = flat_map moment_text c.args.report.now.moments.items in
    let head = codes "report " ++ decimal c.args.report.now.now ++ codes " " ++ kind_text c.args.report.now.kind in
    writes_after c.push_all-2.result _ _ _ (head ++ flat) (10 ∷ []) _ refl
    (Appends-trans (g.W.Sink.held c.args.writer.now) (g.W.Sink.held c.push_all.new.writer) (g.W.Sink.held c.write_moments.new.writer) head flat (rw (← c.report_head-head.ensures, ← c.as_slice.ensures) c.in_ok-push_all.ensures.bytes) (rw (← c.as_slice-2.ensures.value) c.in_ok-write_moments.ensures.bytes))
    c.push_all-2.ensures.bytes
