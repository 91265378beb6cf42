use Rattle.std.proofs.Common.{subst, sym}
use Rattle.tp_journal.specs.Auditing.{TakesOne}
use Rattle.tp_journal.proofs.Heads.{turn_of}
use Rattle.tp_journal.proofs.auditing.take_turn.Goals as goal

pub returns-in-Ok-Whole-clause-turns : goal.returns-in-Ok-Whole-clause-turns
returns-in-Ok-Whole-clause-turns g c =
    let took = rw c.in-Ok-Whole.field-0-is at c.in-Ok-Whole.ensures.takes in
    turn_of c.args.place c.args.version c.line.result.now c.args.head.now c.args.number c.args.lines.now c.take_line.new.lines c.match_line.result
    (subst (TakesOne c.args.lines.now c.take_line.new.lines) (sym c.line.ensures) took) c.match_line.ensures
