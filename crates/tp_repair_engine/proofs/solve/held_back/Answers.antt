use Rattle.std.proofs.Common.{◌<◌, ◌≤◌, ◌^◌, ◌+◌, length, get_or, arith, rules}
use Rattle.tp_repair_engine.specs.declared.store.Direction.{Direction}
use Rattle.tp_repair_engine.specs.declared.store.Direction.TheVariants.{Up, Down}
use Rattle.tp_repair_engine.specs.Flow.{sum_to}
use Rattle.tp_repair_engine.specs.Store.{arcs_of, keys_of}
use Rattle.tp_repair_engine.proofs.Flows.{looks_within}
use Rattle.tp_repair_engine.proofs.Frees.{both, spread_follows}
use Rattle.tp_repair_engine.proofs.solve.held_back.Goals as goal

pub returns-clause-follows : goal.returns-clause-follows
returns-clause-follows c =
    let w = c.spread_from.new.work in
    spread_follows c.args.direction (arcs_of c.args.potential.now.store.now.nodes.slots) (λ x. get_or c.args.potential.now.moments.now x 0) c.args.seed 1 w.amounts.items w.ranks.items w.parents.items c.in_ok-marked.ensures.spread

pub returns-clause-seeded : goal.returns-clause-seeded
returns-clause-seeded c = (let s = c.in_ok-marked.ensures.spread in let e = s.spreading.seeded in omega (arith, e))

pub overflow_add-result : goal.overflow_add-result
overflow_add-result c =
    let s = c.args.potential.now.store.now in
    let n = length c.args.potential.now.moments.now in
    let d = c.args.direction in
    let most = looks_within (keys_of d s) (λ x. get_or c.spread_from.new.work.amounts.items x 0) n in
    let one : sum_to (λ y. length (keys_of d s y)) n ≤ sum_to (λ y. length (keys_of Up s y)) n + sum_to (λ y. length (keys_of Down s y)) n =
    both (λ (q : Direction). sum_to (λ y. length (keys_of q s y)) n ≤ sum_to (λ y. length (keys_of Up s y)) n + sum_to (λ y. length (keys_of Down s y)) n) (omega arith) (omega arith) d in
    let h : c.in_ok-marked.marked + c.in_ok-freed.freed < 2 ^ 64 = omega (arith, most, one, c.in_ok-marked.ensures.looks, c.in_ok-freed.ensures.looks, c.args.potential.now.met.few Up, c.args.potential.now.met.few Down) in
    search rules

pub returns-clause-looks : goal.returns-clause-looks
returns-clause-looks c =
    let s = c.args.potential.now.store.now in
    let n = length c.args.potential.now.moments.now in
    let d = c.args.direction in
    let most = looks_within (keys_of d s) (λ x. get_or c.spread_from.new.work.amounts.items x 0) n in
    let one : sum_to (λ y. length (keys_of d s y)) n ≤ sum_to (λ y. length (keys_of Up s y)) n + sum_to (λ y. length (keys_of Down s y)) n =
    both (λ (q : Direction). sum_to (λ y. length (keys_of q s y)) n ≤ sum_to (λ y. length (keys_of Up s y)) n + sum_to (λ y. length (keys_of Down s y)) n) (omega arith) (omega arith) d in
    omega (arith, most, one, c.in_ok-marked.ensures.looks, c.in_ok-freed.ensures.looks)

pub returns-clause-freed : goal.returns-clause-freed
returns-clause-freed c = simp c.deref.ensures.value at c.in_ok-freed.ensures.freed
