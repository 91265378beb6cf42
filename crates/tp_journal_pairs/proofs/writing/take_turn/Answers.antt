use Rattle.std.proofs.Common.{[], ◌∷◌, None, sym}
use Rattle.tp_script.specs.Transcript.{refused_line}
use Rattle.tp_script.proofs.ServeLemmas.{no_command_long}
use Rattle.tp_journal_pairs.proofs.WriteLemmas.{enters_long, turn_err}
use Rattle.tp_journal_pairs.proofs.writing.take_turn.Goals as goal

pub returns-in-Ok-clause-turns : goal.returns-in-Ok-clause-turns
returns-in-Ok-clause-turns g c =
    let took = rw c.in-Ok-Long.field-0-is at c.in-Ok-Long.ensures.line in
    let gt = rw (c.in-Ok-Long.ensures.limits.longest, c.requires) at took.2 in
    (took.0, None ∷ [], refused_line, took.1, enters_long _ took.0 gt, c.in-Ok.ensures.says.0, c.in-Ok.ensures.says.1, sym (no_command_long took.0 gt))

pub returns-in-Err-clause-turns : goal.returns-in-Err-clause-turns
returns-in-Err-clause-turns g c =
    let took = rw c.in-Ok-Long.field-0-is at c.in-Ok-Long.ensures.line in
    let gt = rw (c.in-Ok-Long.ensures.limits.longest, c.requires) at took.2 in
    turn_err (Unit {0}) _ _ _ _ _ _ _ _ took.0 (None ∷ []) refused_line c.in-Err.fault took.1 (enters_long _ took.0 gt) c.in-Err.ensures.says
