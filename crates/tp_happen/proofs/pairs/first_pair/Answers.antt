use Rattle.std.proofs.Common.{arith, sym, ◌∙◌, Some, None}
use Rattle.tp_happen.proofs.FirstPair.{pair_step}
use Rattle.tp_happen.proofs.pairs.first_pair.Goals as goal

pub returns-in-Some : goal.returns-in-Some
returns-in-Some c = sym (pair_step c.args.events.now c.loop-i.i c.index-events-i.result (omega arith) c.index-events-i.is (Some c.in-Some.j) c.in-Some.ensures) ∙ c.loop-i.invariant

pub loop-i-preserved : goal.loop-i-preserved
loop-i-preserved c = sym (pair_step c.args.events.now c.loop-i.i c.index-events-i.result (omega arith) c.index-events-i.is None c.in_default.ensures) ∙ c.loop-i.invariant
