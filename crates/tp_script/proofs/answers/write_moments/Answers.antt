use Rattle.std.proofs.Common.{false}
use Rattle.tp_script.specs.Transcript.{moment_text}
use Rattle.std.proofs.lemmas.Result.{err_from_is_err_and}
use Rattle.tp_device.proofs.Parts.{part_after}
use Rattle.tp_script.proofs.WriteLemmas.{flat_split}
use Rattle.tp_script.proofs.answers.write_moments.Goals as goal

pub returns-in_err-write_moment-clause-bytes : goal.returns-in_err-write_moment-clause-bytes
returns-in_err-write_moment-clause-bytes g c =
    let p = err_from_is_err_and c.from_residual.result c.from_residual.ensures.1 in
    let split = flat_split moment_text c.args.moments.now c.loop-moment.moment-index (0, false) c.loop-moment-test.true in
    rw p.1 (part_after _ _ _ _ _ split.0 _ split.1 c.loop-moment.invariant.held c.in_err-write_moment.ensures.bytes)
