use Rattle.std.proofs.Common.{◌≤◌, ℕ, ◌+◌, length, get_or, arith}
use Rattle.tp_repair_engine.specs.declared.store.Direction.{Direction}
use Rattle.tp_repair_engine.specs.declared.store.Direction.TheVariants.{Up, Down}
use Rattle.tp_repair_engine.specs.Flow.{sum_to}
use Rattle.tp_repair_engine.specs.Store.{arcs_of, keys_of}
use Rattle.tp_repair_engine.proofs.Flows.{looks_within}
use Rattle.tp_repair_engine.proofs.Frees.{both, spread_freed}
use Rattle.tp_repair_engine.proofs.solve.free_marked.Goals as goal

pub returns-clause-freed : goal.returns-clause-freed
returns-clause-freed c =
    let s = c.args.marked.now.potential.store.now in
    let m : ℕ → ℕ = λ x. get_or c.args.marked.now.potential.moments.now x 0 in
    let w = c.spread_from.new.work in
    spread_freed c.args.direction (arcs_of s.nodes.slots) (length c.args.marked.now.potential.moments.now) m (λ x. get_or c.args.marked.now.marks.now x 0) c.args.marked.now.amount w.amounts.items w.ranks.items w.parents.items c.in_ok-spread_from.ensures.spread

pub returns-clause-looks : goal.returns-clause-looks
returns-clause-looks c =
    let s = c.args.marked.now.potential.store.now in
    let n = length c.args.marked.now.potential.moments.now in
    let d = c.args.direction in
    let most = looks_within (keys_of d s) (λ x. get_or c.spread_from.new.work.amounts.items x 0) n in
    let one : sum_to (λ y. length (keys_of d s y)) n ≤ sum_to (λ y. length (keys_of Up s y)) n + sum_to (λ y. length (keys_of Down s y)) n =
    both (λ (q : Direction). sum_to (λ y. length (keys_of q s y)) n ≤ sum_to (λ y. length (keys_of Up s y)) n + sum_to (λ y. length (keys_of Down s y)) n) (omega arith) (omega arith) d in
    omega (arith, most, one, c.in_ok-spread_from.ensures.looks)
