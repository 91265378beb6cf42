use Rattle.std.proofs.Common.{codes, refl}
use Rattle.std.proofs.lemmas.Result.{err_from_is_err_and}
use Rattle.tp_device.proofs.Parts.{part_first, writes_after}
use Rattle.tp_script.specs.Transcript.{line_of}
use Rattle.tp_journal_pairs.proofs.writing.write_reply.Goals as goal

pub returns-in_err-push_all-clause-bytes : goal.returns-in_err-push_all-clause-bytes
returns-in_err-push_all-clause-bytes g c =
    let p = err_from_is_err_and c.from_residual.result c.from_residual.ensures.1 in
    rw p.1 (part_first _ _ (codes "< ") (line_of c.args.answer.now) _ refl c.in_err-push_all.ensures.bytes)

pub returns-clause-bytes : goal.returns-clause-bytes
returns-clause-bytes g c = writes_after c.write_answer.result _ _ _ (codes "< ") (line_of c.args.answer.now) _ refl c.in_ok-push_all.ensures.bytes c.write_answer.ensures.bytes
