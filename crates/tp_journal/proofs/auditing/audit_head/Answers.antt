use Rattle.std.proofs.Common.{◌+◌, drop, arith, sym, subst, ◌∙◌, rules, IsTrue}
use Rattle.tp_journal.specs.declared.form.Place.TheVariants.{Network}
use Rattle.tp_journal.proofs.Heads.{HeadSoFar, head_first, head_refused, version_fails, version_long, head_more, head_asks, head_fails}
use Rattle.tp_journal.proofs.auditing.audit_head.Goals as goal

pub returns-in-Err-clause-heads : goal.returns-in-Err-clause-heads
returns-in-Err-clause-heads g c = version_fails c.args.executive.now c.args.lines.now c.take_version.new.lines c.in-Err.fault c.in-Err.ensures.version

pub returns-then-not-may_head-clause-heads : goal.returns-then-not-may_head-clause-heads
returns-then-not-may_head-clause-heads g c =
    head_refused c.args.executive.now c.args.lines.now c.take_version.new.lines c.in-Ok-take_version.version
    (λ allowed. (let yes : IsTrue c.may_head.result = c.may_head.ensures.1 allowed in let f : ⊥ = search rules in f)) c.in-Ok-take_version.ensures.version

pub head-init : goal.head-init
head-init g c =
    let taken = c.in-Ok-take_version.ensures.version in
    record {
      so_far =
          subst (HeadSoFar c.args.executive.now c.args.lines.now c.take_version.new.lines c.in-Ok-take_version.version 1 (Network c.in-Ok-take_version.version)) (sym c.behind-left.ensures)
          (head_first c.args.executive.now c.args.lines.now c.take_version.new.lines c.in-Ok-take_version.version c.as_slice.result.now (c.as_slice.ensures.value ∙ c.in-Ok.ensures) c.in-Ok-take_version.ensures.version);
      longest = c.in-Ok-take_version.ensures.limits.longest;
      most = c.in-Ok-take_version.ensures.limits.most;
      source = c.in-Ok-take_version.ensures.limits.source;
      few = omega (arith, taken.1.counted, version_long taken.0 c.in-Ok-take_version.version taken.2);
      reader = c.in-Ok-take_version.ensures.read;
    }

pub head-preserved : goal.head-preserved
head-preserved g c =
    let turn = rw c.in-Ok-Goes.field-0-is at c.in-Ok-Goes.ensures.turns in
    record {
      so_far =
          subst (HeadSoFar c.args.executive.now c.args.lines.now c.take_turn.new.lines c.in-Ok-take_version.version (c.head.count + 1) c.in-Ok-Goes.next) (sym c.behind-left-in-Ok-Goes.ensures)
          (head_more c.args.executive.now c.args.lines.now c.head.lines c.take_turn.new.lines c.in-Ok-take_version.version c.head.count c.head.place c.in-Ok-Goes.next c.head.left.now turn.0 (drop c.in-Ok-Goes.bytes c.head.left.now) c.head.invariant.so_far turn.1 turn.2.0 turn.2.1 turn.2.4);
      longest = c.in-Ok-Goes.ensures.limits.longest ∙ c.head.invariant.longest;
      most = c.in-Ok-Goes.ensures.limits.most ∙ c.head.invariant.most;
      source = c.in-Ok-Goes.ensures.limits.source ∙ c.head.invariant.source;
      few = omega (arith, c.head.invariant.few, turn.1.counted);
      reader = c.in-Ok-Goes.ensures.read ∙ c.head.invariant.reader;
    }

pub returns-in-Ok-Asks-clause-heads : goal.returns-in-Ok-Asks-clause-heads
returns-in-Ok-Asks-clause-heads g c =
    let yes : IsTrue c.may_head.result = search rules in
    head_asks c.args.executive.now c.args.lines.now c.head.lines c.take_turn.new.lines c.in-Ok-take_version.version c.head.count c.head.place c.head.left.now c.in-Ok-Asks.asked (c.may_head.ensures.0 yes) c.head.invariant.so_far
    (rw c.in-Ok-Asks.field-0-is at c.in-Ok-Asks.ensures.turns)

pub returns-in-Err-take_turn-clause-heads : goal.returns-in-Err-take_turn-clause-heads
returns-in-Err-take_turn-clause-heads g c =
    head_fails c.args.executive.now c.args.lines.now c.head.lines c.take_turn.new.lines c.in-Ok-take_version.version c.head.count c.head.place c.head.left.now c.in-Err-take_turn.fault c.head.invariant.so_far c.in-Err-take_turn.ensures.turns
