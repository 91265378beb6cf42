use Rattle.std.proofs.Common.{◌≡◌, ◌<◌, ◌^◌, IsTrue, rules, true, subst, sym}
use Rattle.tp_bounds.specs.Setting.{event_count}
use Rattle.tp_bounds.specs.Reasons.{IsReason, BeginsWith}
use Rattle.tp_exec_machine.specs.Step.{asked, brings}
use Rattle.tp_journal_pairs.specs.Allowed.{IsJudged}
use Rattle.tp_journal_pairs.specs.Reasons.{may_conflict}
use Rattle.tp_journal_pairs.proofs.Verdicts.{wrong_reason, judged_reason}
use Rattle.tp_journal_pairs.proofs.judging.judge_reason.Goals as goal

pub returns-then-not-begins_with_brought : goal.returns-then-not-begins_with_brought
returns-then-not-begins_with_brought g c =
    let m = c.args.executive.now in
    let ids : m.next < 2 ^ 32 = search rules in
    let events : event_count m.setting < 2 ^ 16 = search rules in
    wrong_reason m c.args.command c.args.text.now c.args.reason c.requires.formed c.requires.conflict c.requires.sound ids events c.requires.reads
    (λ r says. (let yes : IsTrue c.begins_with_brought.result = c.begins_with_brought.ensures.1 (subst (BeginsWith (brings c.args.command)) (sym c.as_slice-edges.ensures.value) r.first) in search rules))

pub returns-then-not-is_reason : goal.returns-then-not-is_reason
returns-then-not-is_reason g c =
    let m = c.args.executive.now in
    let ids : m.next < 2 ^ 32 = search rules in
    let events : event_count m.setting < 2 ^ 16 = search rules in
    wrong_reason m c.args.command c.args.text.now c.args.reason c.requires.formed c.requires.conflict c.requires.sound ids events c.requires.reads
    (λ r says. (let yes : IsTrue c.is_reason.result = c.is_reason.ensures.1 (subst (IsReason (asked m c.args.command)) (sym c.as_slice-edges.ensures.value) r.reason) in search rules))

pub returns : goal.returns
returns g c =
    let m = c.args.executive.now in
    let ids : m.next < 2 ^ 32 = search rules in
    let events : event_count m.setting < 2 ^ 16 = search rules in
    let may : may_conflict c.args.command ≡ true = search rules in
    let yes : IsTrue c.is_reason.result = search rules in
    let first : IsTrue c.begins_with_brought.result = search rules in
    subst (IsJudged m c.args.command c.args.text.now m) (sym c.compared.ensures)
    (judged_reason m c.args.command c.args.text.now c.args.reason c.is_text_of.result c.requires.formed c.requires.conflict c.requires.sound ids events c.requires.reads may
    (subst (IsReason (asked m c.args.command)) c.as_slice-edges.ensures.value (c.is_reason.ensures.0 yes))
    (subst (BeginsWith (brings c.args.command)) c.as_slice-edges.ensures.value (c.begins_with_brought.ensures.0 first)) c.is_text_of.ensures)
