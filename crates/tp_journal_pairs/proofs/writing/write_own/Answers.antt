use Rattle.std.proofs.Common.{codes, decimal, ◌++◌}
use Rattle.std.proofs.lemmas.Result.{err_from_is_err_and}
use Rattle.tp_device.proofs.Parts.{part_first, writes_after}
use Rattle.tp_journal_pairs.specs.Journal.{own_lines, bounds_from, text_of}
use Rattle.tp_journal_pairs.proofs.WriteLemmas.{own_bytes}
use Rattle.tp_journal_pairs.proofs.writing.write_own.Goals as goal

pub returns-in_err-write_numbered-clause-bytes : goal.returns-in_err-write_numbered-clause-bytes
returns-in_err-write_numbered-clause-bytes g c =
    let p = err_from_is_err_and c.from_residual.result c.from_residual.ensures.1 in
    let m = c.args.executive.now in
    rw p.1 (part_first _ _ (codes "own " ++ decimal m.next ++ codes "\n") (text_of (own_lines 0 (bounds_from m.setting.bounds 0 m.next))) _ (own_bytes m.setting.bounds m.next c.requires) (rw (← c.next.ensures) c.in_err-write_numbered.ensures.bytes))

pub returns-clause-bytes : goal.returns-clause-bytes
returns-clause-bytes g c =
    let m = c.args.executive.now in
    writes_after c.write_own_bounds.result _ _ _ (codes "own " ++ decimal m.next ++ codes "\n") (text_of (own_lines 0 (bounds_from m.setting.bounds 0 m.next))) _ (own_bytes m.setting.bounds m.next c.requires) (rw (← c.next.ensures) c.in_ok-write_numbered.ensures.bytes) c.write_own_bounds.ensures.bytes
