use Rattle.std.proofs.Common.{arith}
use Rattle.tp_happen.specs.Stored.{state_of}
use Rattle.tp_happen.proofs.Rows.{all_ended, any_ended}
use Rattle.tp_happen.proofs.conditions.+found.Goals as goal

pub returns-after-loop-c : goal.returns-after-loop-c
returns-after-loop-c t c = all_ended (state_of c.args.state.now) c.args.cond.now c.in-And.cs c.deref-c-items.result.now c.loop-c.c-index c.loop-c.all c.in-And.is c.deref-c-items.ensures.value (omega arith) c.loop-c.invariant

pub returns-after-loop-c-2 : goal.returns-after-loop-c-2
returns-after-loop-c-2 t c = any_ended (state_of c.args.state.now) c.args.cond.now c.in-Or.cs c.deref-c-items-in-Or.result.now c.loop-c-2.c-index c.loop-c-2.any c.in-Or.is c.deref-c-items-in-Or.ensures.value (omega arith) c.loop-c-2.invariant
