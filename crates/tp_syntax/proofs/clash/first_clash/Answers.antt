use Rattle.tp_syntax.proofs.OnClashes.{clash_found, none_clashes, noted_more, all_agree}
use Rattle.tp_syntax.proofs.clash.first_clash.Goals as goal

pub returns-then-branch : goal.returns-then-branch
returns-then-branch c =
    clash_found c.args.entries.now c.loop-number.said c.loop-number.number c.index-entries-number.result c.in_ok-add.field-0 c.loop-number-test.true c.index-entries-number.is c.in_ok-add.ensures.clashes c.loop-number.invariant.noted c.if-branch.true

pub loop-number-preserved : goal.loop-number-preserved
loop-number-preserved c = record {
  noted = noted_more c.args.entries.now c.loop-number.said c.loop-number.number c.index-entries-number.result c.in_ok-add.field-0 c.loop-number-test.true c.index-entries-number.is c.in_ok-add.ensures.clashes c.loop-number.invariant.noted c.add.new.self c.in_ok-add.ensures.noted;
  agree = none_clashes c.args.entries.now c.loop-number.said c.loop-number.number c.index-entries-number.result c.in_ok-add.field-0 c.loop-number-test.true c.index-entries-number.is c.in_ok-add.ensures.clashes c.loop-number.invariant.noted c.if-branch.false c.loop-number.invariant.agree;
}

pub returns : goal.returns
returns c = all_agree c.args.entries.now c.loop-number.number c.loop-number-test.false c.loop-number.invariant.agree
