use Rattle.std.proofs.Common.{◌≢◌, IsTrue, subst, sym, rules}
use Rattle.tp_exec_machine.specs.declared.command.Answer.TheVariants.{Refused}
use Rattle.tp_exec_machine.specs.declared.refusal.Refusal.TheVariants.{Memory}
use Rattle.tp_journal_pairs.specs.Allowed.{IsJudged}
use Rattle.tp_journal_pairs.proofs.Verdicts.{judged_telling}
use Rattle.tp_journal_pairs.proofs.SoundLemmas.{step_sound}
use Rattle.tp_journal_pairs.proofs.judging.judge_telling.Goals as goal

pub returns-clause-exact : goal.returns-clause-exact
returns-clause-exact g c =
    let other : c.perform-answer.result ≢ Refused Memory = λ is. absurd (let yes : IsTrue c.wants_memory.result = c.wants_memory.ensures.1 is in let f : ⊥ = search rules in f) in
    subst (IsJudged c.args.executive.now c.args.command c.args.text.now c.perform-answer.new.executive) (sym c.compared.ensures)
    (judged_telling c.args.executive.now c.perform-answer.new.executive c.args.command c.perform-answer.result c.args.text.now c.is_text_of.result c.requires.formed c.requires.telling c.perform-answer.ensures other c.is_text_of.ensures)

pub returns-clause-sound : goal.returns-clause-sound
returns-clause-sound g c = step_sound c.args.executive.now c.perform-answer.new.executive c.args.command c.perform-answer.result c.requires.sound c.perform-answer.ensures

pub returns-then-wants_memory-clause-sound : goal.returns-then-wants_memory-clause-sound
returns-then-wants_memory-clause-sound g c = step_sound c.args.executive.now c.perform-answer.new.executive c.args.command c.perform-answer.result c.requires.sound c.perform-answer.ensures
