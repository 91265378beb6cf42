use Rattle.std.proofs.Common.{inl, inr, refl}
use Rattle.tp_journal.specs.Auditing.{IsLong, IsTorn}
use Rattle.tp_journal.proofs.LineLemmas.{if_some, long_breaks, open_breaks}
use Rattle.tp_journal.proofs.auditing.take_line.Goals as goal

pub returns-in-Ok-Open-clause-takes : goal.returns-in-Ok-Open-clause-takes
returns-in-Ok-Open-clause-takes g c =
    let took = rw c.in-Ok-Open.field-0-is at c.in-Ok-Open.ensures.takes in
    (refl, inl (open_breaks c.args.lines.now c.take_piece.new.lines c.take_piece.new.lines.line took))

pub returns-in-Ok-Long-clause-takes : goal.returns-in-Ok-Long-clause-takes
returns-in-Ok-Long-clause-takes g c =
    let long = rw c.in-Ok-Long.field-0-is at c.in-Ok-Long.ensures.takes in
    (refl, inl (if_some (IsLong c.take_piece.new.lines.line) IsTorn c.args.lines.now.rest (long_breaks c.take_piece.new.lines.line) long))

pub returns-in-Ok-Cut-clause-takes : goal.returns-in-Ok-Cut-clause-takes
returns-in-Ok-Cut-clause-takes g c =
    let cut = rw c.in-Ok-Cut.field-0-is at c.in-Ok-Cut.ensures.takes in
    (refl, inr cut.0)
