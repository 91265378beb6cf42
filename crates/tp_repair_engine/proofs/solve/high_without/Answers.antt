use Rattle.std.proofs.Common.{◌≡◌, ℕ, List, sym, subst, rules}
use Rattle.std.specs.Prelude.{false}
use Rattle.tp_repair_engine.specs.Store.{arcs_of}
use Rattle.tp_repair_engine.specs.Loosened.{IsHeightened}
use Rattle.tp_repair_engine.proofs.Lowers.{heightened_still, heightened_is}
use Rattle.tp_repair_engine.proofs.solve.high_without.Goals as goal

pub returns-then-not-holds_high-clause-heightened : goal.returns-then-not-holds_high-clause-heightened
returns-then-not-holds_high-clause-heightened c =
    let f : c.holds_high.result ≡ false = search rules in
    let arcs = arcs_of c.args.high.now.store.now.nodes.slots in
    let h = heightened_still arcs c.args.high.now.moments.now c.args.amount c.args.arc c.requires.lost.start c.requires.lost.positive (c.holds_high.ensures.loose f) in
    subst (λ (xs : List ℕ). IsHeightened arcs c.args.high.now.moments.now c.args.arc xs) (sym c.in_ok-from_slice.ensures.items) h

pub returns-clause-heightened : goal.returns-clause-heightened
returns-clause-heightened c =
    let arcs = arcs_of c.args.high.now.store.now.nodes.slots in
    let e = c.in_ok-looks.ensures in
    heightened_is arcs c.args.high.now.moments.now c.args.amount c.args.arc c.requires.lost.start c.requires.lost.positive c.held_back.new.marks.amounts.items c.held_back.new.work.amounts.items c.highest.new.high.items
    e.seeded e.follows e.freed c.highest.ensures.len (simp c.deref.ensures.value at c.highest.ensures.each)
