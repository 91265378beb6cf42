use Rattle.std.proofs.Common.{◌≡◌, ◌<◌, length, ℕ, [], ◌∷◌, None, Some, rules, sym}
use Rattle.std.proofs.KnownBytes.{Appends-nil}
use Rattle.tp_script.specs.Commands.{command_of}
use Rattle.tp_script.specs.Transcript.{line_of, refused_line}
use Rattle.tp_journal_pairs.proofs.WriteLemmas.{enters_command, enters_blank, enters_refused, says_err}
use Rattle.tp_journal_pairs.proofs.writing.enter_line.Goals as goal

pub returns-in-Ok-clause-enters : goal.returns-in-Ok-clause-enters
returns-in-Ok-clause-enters g c =
    let h = c.in-Ok.ensures.enters in
    (Some (c.in-Some.command, h.0) ∷ [], line_of h.0, enters_command _ _ c.args.line.now c.in-Some.command h.0 c.requires (sym c.in-Some.ensures) h.1, h.2)

pub returns-in-Err-clause-enters : goal.returns-in-Err-clause-enters
returns-in-Err-clause-enters g c =
    let h = c.in-Err.ensures.enters in
    (Some (c.in-Some.command, h.0) ∷ [], line_of h.0, enters_command _ _ c.args.line.now c.in-Some.command h.0 c.requires (sym c.in-Some.ensures) h.1, says_err (Unit {0}) ℕ (Some (c.in-Some.command, h.0) ∷ []) (line_of h.0) _ _ _ _ c.in-Err.fault h.2)

pub returns-then-is_empty-clause-enters : goal.returns-then-is_empty-clause-enters
returns-then-is_empty-clause-enters g c =
    let none : length c.next_word.result.0.now ≡ 0 = search rules in
    ([], [], enters_blank _ c.args.line.now c.next_word.result.0.now c.next_word.result.1.now c.requires c.next_word.ensures none, (Appends-nil _, Appends-nil _))

pub returns-in-Ok-refuse_line-clause-enters : goal.returns-in-Ok-refuse_line-clause-enters
returns-in-Ok-refuse_line-clause-enters g c =
    let some : 0 < length c.next_word.result.0.now = search rules in
    let none : command_of c.args.line.now ≡ None = search rules in
    (None ∷ [], refused_line, enters_refused _ c.args.line.now c.next_word.result.0.now c.next_word.result.1.now c.requires c.next_word.ensures some none, c.in-Ok-refuse_line.ensures.says)

pub returns-in-Err-refuse_line-clause-enters : goal.returns-in-Err-refuse_line-clause-enters
returns-in-Err-refuse_line-clause-enters g c =
    let some : 0 < length c.next_word.result.0.now = search rules in
    let none : command_of c.args.line.now ≡ None = search rules in
    (None ∷ [], refused_line, enters_refused _ c.args.line.now c.next_word.result.0.now c.next_word.result.1.now c.requires c.next_word.ensures some none, says_err (Unit {0}) ℕ (None ∷ []) refused_line _ _ _ _ c.in-Err-refuse_line.fault c.in-Err-refuse_line.ensures.says)
