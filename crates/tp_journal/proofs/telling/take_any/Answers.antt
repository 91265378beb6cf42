use Rattle.tp_journal.proofs.Told.{step_of, part_of, shown_of, cut_at}
use Rattle.tp_journal.proofs.telling.take_any.Goals as goal

pub returns-in-Ok-Whole-clause-turns : goal.returns-in-Ok-Whole-clause-turns
returns-in-Ok-Whole-clause-turns g c =
    let took = rw c.in-Ok-Whole.field-0-is at c.in-Ok-Whole.ensures.takes in
    step_of c.args.place c.line.result.now c.args.number c.args.lines.now c.take_piece.new.lines c.match_any.result c.requires.names c.line.ensures took c.match_any.ensures

pub returns-in-Ok-Open-clause-turns : goal.returns-in-Ok-Open-clause-turns
returns-in-Ok-Open-clause-turns g c =
    let took = rw c.in-Ok-Open.field-0-is at c.in-Ok-Open.ensures.takes in
    part_of c.args.place c.line-in-Ok-Open.result.now c.args.number c.args.lines.now c.take_piece.new.lines c.match_part.result c.requires.names c.line-in-Ok-Open.ensures took c.match_part.ensures

pub returns-in-Ok-Long-clause-turns : goal.returns-in-Ok-Long-clause-turns
returns-in-Ok-Long-clause-turns g c =
    let long = rw c.in-Ok-Long.field-0-is at c.in-Ok-Long.ensures.takes in
    shown_of c.args.place c.line-in-Ok-Long.result.now c.args.number c.args.lines.now c.take_piece.new.lines c.match_part-in-Ok-Long.result c.requires.names c.line-in-Ok-Long.ensures long c.match_part-in-Ok-Long.ensures

pub returns-in-Ok-Cut-clause-turns : goal.returns-in-Ok-Cut-clause-turns
returns-in-Ok-Cut-clause-turns g c =
    let cut = rw c.in-Ok-Cut.field-0-is at c.in-Ok-Cut.ensures.takes in
    cut_at c.args.place c.line-in-Ok-Cut.result.now c.args.number c.args.lines.now c.take_piece.new.lines c.match_part-in-Ok-Cut.result c.requires.names c.line-in-Ok-Cut.ensures cut.0 cut.1 c.match_part-in-Ok-Cut.ensures
