use Rattle.std.proofs.Common.{sym, subst}
use Rattle.tp_repair_engine.specs.declared.engine.Engine.{Engine}
use Rattle.tp_repair_engine.specs.Engine.{IsWired}
use Rattle.tp_repair_engine.proofs.Wires.{start_potential}
use Rattle.tp_repair_engine.proofs.solve.solve.Goals as goal

pub invariant_of-low : goal.invariant_of-low
invariant_of-low c =
    let g : Engine = c.args.engine.now in
    rw c.deref.ensures.value (record { met = start_potential c.requires.wired.0 c.args.amount g g.low.items c.requires.wired.1 c.requires.lost_low.start })

pub invariant_of-high : goal.invariant_of-high
invariant_of-high c =
    let g : Engine = c.args.engine.now in
    let w = c.requires.wired.1 in
    rw c.deref-2.ensures.value (record { met = start_potential c.requires.wired.0 c.args.amount g g.high.items (subst (λ n. IsWired n c.requires.wired.0 g) (sym w.high_len) w) c.requires.lost_high.start })
