use Rattle.std.proofs.Common.{◌≡◌, codes, decimal, ◌++◌, refl}
use Rattle.std.proofs.lemmas.Result.{err_from_is_err_and}
use Rattle.tp_device.proofs.Parts.{part_first, writes_after}
use Rattle.tp_journal_pairs.proofs.writing.write_start.Goals as goal

pub returns-in_err-push_all-clause-bytes : goal.returns-in_err-push_all-clause-bytes
returns-in_err-push_all-clause-bytes g c =
    let p = err_from_is_err_and c.from_residual.result c.from_residual.ensures.1 in
    rw p.1 (part_first _ _ (codes "journal 2\n") (codes "network " ++ decimal c.args.events ++ codes " " ++ decimal c.args.horizon ++ codes "\n") _ refl c.in_err-push_all.ensures.bytes)

pub returns-clause-bytes : goal.returns-clause-bytes
returns-clause-bytes g c =
    let same : c.from.result ≡ c.args.events = c.from.ensures in
    rw (← same) (writes_after c.write_two_numbers.result _ _ _ (codes "journal 2\n") (codes "network " ++ decimal c.from.result ++ codes " " ++ decimal c.args.horizon ++ codes "\n") _ refl c.in_ok-push_all.ensures.bytes c.write_two_numbers.ensures.bytes)
