use Rattle.std.proofs.Common.{codes, ◌++◌}
use Rattle.std.proofs.lemmas.Result.{err_from_is_err_and}
use Rattle.tp_device.proofs.Parts.{part_first, writes_after}
use Rattle.tp_script.specs.Written.{command_line}
use Rattle.tp_script.specs.Transcript.{line_of}
use Rattle.tp_journal_pairs.proofs.WriteLemmas.{pair_bytes}
use Rattle.tp_journal_pairs.proofs.writing.write_pair.Goals as goal

pub returns-in_err-write_question-clause-bytes : goal.returns-in_err-write_question-clause-bytes
returns-in_err-write_question-clause-bytes g c =
    let p = err_from_is_err_and c.from_residual.result c.from_residual.ensures.1 in
    rw p.1 (part_first _ _ (codes "> " ++ command_line c.args.command.now) (codes "< " ++ line_of c.args.answer.now) _ (pair_bytes c.args.command.now c.args.answer.now) c.in_err-write_question.ensures.bytes)

pub returns-clause-bytes : goal.returns-clause-bytes
returns-clause-bytes g c = writes_after c.write_reply.result _ _ _ (codes "> " ++ command_line c.args.command.now) (codes "< " ++ line_of c.args.answer.now) _ (pair_bytes c.args.command.now c.args.answer.now) c.in_ok-write_question.ensures.bytes c.write_reply.ensures.bytes
