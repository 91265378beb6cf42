use Rattle.std.proofs.Common.{◌∙◌, arith, refl}
use Rattle.tp_script.proofs.ServeLemmas.{line_takes, at_most_one}
use Rattle.tp_journal_pairs.proofs.FollowLemmas.{follows_none, follows_more}
use Rattle.tp_journal_pairs.proofs.going_on.journal_on.Goals as goal

pub loop-n-init : goal.loop-n-init
loop-n-init g c =
    record {
      follows = follows_none c.args.executive.now c.args.lines.now _ _;
      longest = c.requires;
      most = refl;
      source = refl;
      few = omega arith;
      reader = refl;
      writer = refl;
      logger = refl;
    }

pub loop-n-preserved : goal.loop-n-preserved
loop-n-preserved g c =
    let turns = rw c.in-Ok-Answered.field-0-is at c.in-Ok-Answered.ensures.turns in
    record {
      follows = follows_more _ c.loop-n.executive c.take_turn.new.executive c.args.lines.now c.loop-n.lines c.take_turn.new.lines _ _ _ _ _ _ c.loop-n.commands c.in-Ok-Answered.n turns.0 turns.2 turns.1 c.loop-n.invariant.follows turns.3 turns.4 turns.5 turns.6 turns.7;
      longest = c.in-Ok-Answered.ensures.limits.longest ∙ c.loop-n.invariant.longest;
      most = c.in-Ok-Answered.ensures.limits.most ∙ c.loop-n.invariant.most;
      source = c.in-Ok-Answered.ensures.limits.source ∙ c.loop-n.invariant.source;
      few = omega (arith, c.loop-n.invariant.few, line_takes c.loop-n.lines c.take_turn.new.lines turns.0 turns.3, at_most_one turns.0, turns.7);
      reader = c.in-Ok-Answered.ensures.read ∙ c.loop-n.invariant.reader;
      writer = c.in-Ok-Answered.ensures.write ∙ c.loop-n.invariant.writer;
      logger = c.in-Ok-Answered.ensures.log ∙ c.loop-n.invariant.logger;
    }

pub returns-in-Err-clause-goes : goal.returns-in-Err-clause-goes
returns-in-Err-clause-goes g c =
    record { mid = c.loop-n.executive; behind = c.loop-n.lines; said = _; kept = _; commands = c.loop-n.commands; follows = c.loop-n.invariant.follows; turn = c.in-Err.ensures.turns; counted = tt }

pub returns-in-Ok-Over-clause-goes : goal.returns-in-Ok-Over-clause-goes
returns-in-Ok-Over-clause-goes g c =
    record { mid = c.loop-n.executive; behind = c.loop-n.lines; said = _; kept = _; commands = c.loop-n.commands; follows = c.loop-n.invariant.follows; turn = rw c.in-Ok-Over.field-0-is at c.in-Ok-Over.ensures.turns; counted = refl }
