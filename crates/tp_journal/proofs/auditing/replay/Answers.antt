use Rattle.std.proofs.Common.{◌∙◌, arith, subst}
use Rattle.tp_journal_pairs.proofs.SoundLemmas.{new_sound}
use Rattle.tp_journal.proofs.Pairs.{JournalSoFar, pairs_none, pairs_more, pairs_fail, pairs_lead, pairs_over, pair_takes}
use Rattle.tp_journal.proofs.auditing.replay.Goals as goal

pub pairs-init : goal.pairs-init
pairs-init g c =
    record {
      so_far = pairs_none c.args.executive.now c.args.lines.now c.audit_head.new.lines c.in-Ok.headed c.in-Ok.ensures.heads;
      sound = new_sound c.args.executive.now c.requires.new;
      longest = c.in-Ok.ensures.longest;
      most = c.in-Ok.ensures.most;
      source = c.in-Ok.ensures.source;
      few = c.in-Ok.ensures.few;
      less = omega arith;
      reader = c.in-Ok.ensures.read;
    }

pub returns-in_default-clause-audits : goal.returns-in_default-clause-audits
returns-in_default-clause-audits g c =
    pairs_over c.args.executive.now c.pairs.executive c.args.lines.now c.pairs.lines c.in-Ok.headed.version c.pairs.count c.pairs.pairs
    (subst (JournalSoFar c.args.executive.now c.pairs.executive c.args.lines.now c.pairs.lines c.in-Ok.headed.version c.pairs.count c.pairs.pairs) c.in_default.is c.pairs.invariant.so_far)

pub returns-in_default-clause-leads : goal.returns-in_default-clause-leads
returns-in_default-clause-leads g c =
    pairs_lead c.args.executive.now c.pairs.executive c.args.lines.now c.pairs.lines c.in-Ok.headed.version c.pairs.count c.pairs.pairs
    (subst (JournalSoFar c.args.executive.now c.pairs.executive c.args.lines.now c.pairs.lines c.in-Ok.headed.version c.pairs.count c.pairs.pairs) c.in_default.is c.pairs.invariant.so_far)

pub returns-in-Err-take_pair-clause-audits : goal.returns-in-Err-take_pair-clause-audits
returns-in-Err-take_pair-clause-audits g c =
    pairs_fail c.args.executive.now c.pairs.executive c.take_pair.new.executive c.args.lines.now c.pairs.lines c.take_pair.new.lines c.in-Ok.headed.version c.pairs.count c.pairs.pairs c.in-Some.asked c.in-Err-take_pair.fault
    (subst (JournalSoFar c.args.executive.now c.pairs.executive c.args.lines.now c.pairs.lines c.in-Ok.headed.version c.pairs.count c.pairs.pairs) c.in-Some.is c.pairs.invariant.so_far)
    c.in-Err-take_pair.ensures.takes

pub pairs-preserved : goal.pairs-preserved
pairs-preserved g c =
    record {
      so_far =
          pairs_more c.args.executive.now c.pairs.executive c.take_pair.new.executive c.args.lines.now c.pairs.lines c.take_pair.new.lines c.in-Ok.headed.version c.pairs.count c.pairs.pairs c.in-Some.asked c.in-Ok-take_pair.question
          (subst (JournalSoFar c.args.executive.now c.pairs.executive c.args.lines.now c.pairs.lines c.in-Ok.headed.version c.pairs.count c.pairs.pairs) c.in-Some.is c.pairs.invariant.so_far)
          c.in-Ok-take_pair.ensures.takes;
      sound = c.in-Ok-take_pair.ensures.sound;
      longest = c.in-Ok-take_pair.ensures.limits.longest ∙ c.pairs.invariant.longest;
      most = c.in-Ok-take_pair.ensures.limits.most ∙ c.pairs.invariant.most;
      source = c.in-Ok-take_pair.ensures.limits.source ∙ c.pairs.invariant.source;
      few = omega (arith, c.pairs.invariant.few, pair_takes c.pairs.executive c.take_pair.new.executive c.pairs.lines c.take_pair.new.lines c.in-Ok.headed.version c.in-Some.asked c.pairs.count c.in-Ok-take_pair.question c.in-Ok-take_pair.ensures.takes);
      less = omega (arith, c.pairs.invariant.less);
      reader = c.in-Ok-take_pair.ensures.read ∙ c.pairs.invariant.reader;
    }
