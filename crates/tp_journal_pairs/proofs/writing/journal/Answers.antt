use Rattle.std.proofs.Common.{◌≡◌, ◌∙◌, inr, subst, arith, refl, rules, true, false}
use Rattle.std.specs.Prelude.{is_err}
use Rattle.tp_script.proofs.ServeLemmas.{line_takes, at_most_one}
use Rattle.tp_bounds.specs.Lawful.{IsLawful}
use Rattle.tp_journal_pairs.proofs.HeadLemmas.{head_is}
use Rattle.tp_journal_pairs.proofs.WriteLemmas.{new_in_force, written_part, written_all, counted_none, records_none, records_more, journals_ok, journals_err, journals_headless}
use Rattle.tp_journal_pairs.proofs.writing.journal.Goals as goal

pub write_head-requires : goal.write_head-requires
write_head-requires g c = new_in_force c.args.executive.now c.requires.new

pub returns-then-is_err-clause-journals : goal.returns-then-is_err-clause-journals
returns-then-is_err-clause-journals g c =
    let failed : is_err c.write_head.result ≡ true = search rules in
    journals_headless c.args.executive.now c.args.lines.now _ _ _ (written_part c.write_head.result _ _ _ failed c.write_head.ensures.bytes)

pub returns-then-is_err-clause-head : goal.returns-then-is_err-clause-head
returns-then-is_err-clause-head g c =
    let m = c.args.executive.now in
    let lawful : IsLawful m.setting = subst IsLawful c.net.ensures c.events-count.ensures.lawful in
    λ few. head_is m 2 c.requires.new lawful few (inr refl) (λ one. absurd (let f : ⊥ = omega (arith, one) in f))

pub loop-n-init : goal.loop-n-init
loop-n-init g c =
    let done : is_err c.write_head.result ≡ false = search rules in
    let m = c.args.executive.now in
    let lawful : IsLawful m.setting = subst IsLawful c.net.ensures c.events-count.ensures.lawful in
    record {
      head = λ few. head_is m 2 c.requires.new lawful few (inr refl) (λ one. absurd (let f : ⊥ = omega (arith, one) in f));
      goes = records_none c.args.executive.now c.args.lines.now _ _ _ (written_all c.write_head.result _ _ _ done c.write_head.ensures.bytes);
      longest = c.requires.longest;
      most = refl;
      source = refl;
      few = omega arith;
      reader = refl;
      writer = refl;
      logger = counted_none c.write_head.result _ _ done c.write_head.ensures.cause;
    }

pub loop-n-preserved : goal.loop-n-preserved
loop-n-preserved g c =
    let turns = rw c.in-Ok-Answered.field-0-is at c.in-Ok-Answered.ensures.turns in
    record {
      head = c.loop-n.invariant.head;
      goes = records_more _ c.loop-n.executive c.take_turn.new.executive c.args.lines.now c.loop-n.lines c.take_turn.new.lines _ _ _ _ _ _ c.loop-n.commands c.in-Ok-Answered.n turns.0 turns.2 turns.1 c.loop-n.invariant.goes turns.3 turns.4 turns.5 turns.6 turns.7;
      longest = c.in-Ok-Answered.ensures.limits.longest ∙ c.loop-n.invariant.longest;
      most = c.in-Ok-Answered.ensures.limits.most ∙ c.loop-n.invariant.most;
      source = c.in-Ok-Answered.ensures.limits.source ∙ c.loop-n.invariant.source;
      few = omega (arith, c.loop-n.invariant.few, line_takes c.loop-n.lines c.take_turn.new.lines turns.0 turns.3, at_most_one turns.0, turns.7);
      reader = c.in-Ok-Answered.ensures.read ∙ c.loop-n.invariant.reader;
      writer = c.in-Ok-Answered.ensures.write ∙ c.loop-n.invariant.writer;
      logger = c.in-Ok-Answered.ensures.log ∙ c.loop-n.invariant.logger;
    }

pub returns-in-Err-clause-journals : goal.returns-in-Err-clause-journals
returns-in-Err-clause-journals g c =
    journals_err _ c.loop-n.executive c.take_turn.new.executive c.args.lines.now c.loop-n.lines c.take_turn.new.lines _ _ _ _ _ _ c.loop-n.commands c.in-Err.fault c.loop-n.invariant.goes c.in-Err.ensures.turns

pub returns-in-Ok-Over-clause-journals : goal.returns-in-Ok-Over-clause-journals
returns-in-Ok-Over-clause-journals g c =
    journals_ok _ c.loop-n.executive c.take_turn.new.executive c.args.lines.now c.loop-n.lines c.take_turn.new.lines _ _ _ _ _ _ c.loop-n.commands c.loop-n.invariant.goes (rw c.in-Ok-Over.field-0-is at c.in-Ok-Over.ensures.turns)
