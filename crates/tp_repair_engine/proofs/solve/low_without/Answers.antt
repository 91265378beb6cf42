use Rattle.std.proofs.Common.{◌≡◌, ℕ, List, sym, subst, rules}
use Rattle.std.specs.Prelude.{false}
use Rattle.tp_repair_engine.specs.Store.{arcs_of}
use Rattle.tp_repair_engine.specs.Loosened.{IsLowered}
use Rattle.tp_repair_engine.proofs.Lowers.{lowered_still, lowered_is}
use Rattle.tp_repair_engine.proofs.solve.low_without.Goals as goal

pub returns-then-not-holds_low-clause-lowered : goal.returns-then-not-holds_low-clause-lowered
returns-then-not-holds_low-clause-lowered c =
    let f : c.holds_low.result ≡ false = search rules in
    let arcs = arcs_of c.args.low.now.store.now.nodes.slots in
    let h = lowered_still arcs c.args.low.now.moments.now c.args.amount c.args.arc c.requires.lost.start c.requires.lost.positive (c.holds_low.ensures.loose f) in
    subst (λ (xs : List ℕ). IsLowered arcs c.args.low.now.moments.now c.args.arc xs) (sym c.in_ok-from_slice.ensures.items) h

pub returns-clause-lowered : goal.returns-clause-lowered
returns-clause-lowered c =
    let arcs = arcs_of c.args.low.now.store.now.nodes.slots in
    let e = c.in_ok-looks.ensures in
    lowered_is arcs c.args.low.now.moments.now c.args.amount c.args.arc c.requires.lost.start c.requires.lost.positive c.held_back.new.marks.amounts.items c.held_back.new.work.amounts.items c.lowest.new.low.items
    e.seeded e.follows e.freed c.lowest.ensures.len (simp c.deref.ensures.value at c.lowest.ensures.each)
