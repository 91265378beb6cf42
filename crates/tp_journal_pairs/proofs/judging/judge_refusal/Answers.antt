use Rattle.std.proofs.Common.{◌≡◌, ◌<◌, ◌^◌, IsTrue, None, drop, rules, true, sym, ap, ◌∙◌, codes}
use Rattle.tp_bounds.specs.Setting.{event_count}
use Rattle.tp_exec_machine.specs.Step.{may_want_memory}
use Rattle.tp_script.specs.Words.{words_of}
use Rattle.tp_script.proofs.WordLemmas.{tail_is}
use Rattle.tp_journal_pairs.specs.Edges.{edges_of, begins}
use Rattle.tp_journal_pairs.proofs.Verdicts.{memory_allowed, wrong_unread}
use Rattle.tp_journal_pairs.proofs.judging.judge_refusal.Goals as goal

pub returns-then-may_grow : goal.returns-then-may_grow
returns-then-may_grow g c =
    let may : IsTrue (may_want_memory c.args.command) = search rules in
    let is : c.args.text.now ≡ codes "refused memory" = search rules in
    memory_allowed c.args.executive.now c.args.command c.args.text.now c.requires.formed may is

pub returns-in-Ok-None : goal.returns-in-Ok-None
returns-in-Ok-None g c =
    let m = c.args.executive.now in
    let ids : m.next < 2 ^ 32 = search rules in
    let events : event_count m.setting < 2 ^ 16 = search rules in
    let starts : begins (codes "refused conflict") c.args.text.now ≡ true = search rules in
    let reads : edges_of (words_of (drop 16 c.args.text.now)) ≡ None = ap (λ t. edges_of (words_of t)) (sym (tail_is 16 c.args.text.now)) ∙ (rw c.in-Ok-None.field-0-is at c.in-Ok-None.ensures) in
    wrong_unread m c.args.command c.args.text.now c.requires.formed starts c.requires.sound ids events reads
