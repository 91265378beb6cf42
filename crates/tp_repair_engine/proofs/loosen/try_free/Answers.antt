use Rattle.std.proofs.Common.{◌≡◌, ◌<◌, ◌≤◌, ◌^◌, ◌+◌, length, get_or, subst, arith, rules}
use Rattle.tp_repair_engine.specs.declared.store.Direction.TheVariants.{Up, Down}
use Rattle.tp_repair_engine.specs.declared.store.Direction.{Direction}
use Rattle.tp_repair_engine.specs.Flow.{looks_at, sum_to}
use Rattle.tp_repair_engine.specs.Store.{keys_of}
use Rattle.tp_repair_engine.specs.Loosened.{turned, IsBeginning}
use Rattle.tp_repair_engine.proofs.Stores.{arcs_among}
use Rattle.tp_repair_engine.proofs.Flows.{looks_within}
use Rattle.tp_repair_engine.proofs.Frees.{both, beginning_begun, freed_is}
use Rattle.tp_repair_engine.proofs.loosen.try_free.Goals as goal

pub flow-requires : goal.flow-requires
flow-requires c =
    let s = c.args.marked.now.potential.store.now in
    let n = length c.args.marked.now.potential.moments.now in
    let d = c.args.direction in
    let p = c.args.marked.now.potential.met in
    let among = arcs_among s c.args.marked.now.potential.moments.now p in
    let begun = subst (λ (q : Direction). IsBeginning q s c.args.marked.now.potential.moments.now c.args.marked.now.marks.now c.args.marked.now.amount n c.begin.new.work) c.turn.ensures c.in_ok-begun.ensures.beginning in
    record { begun = beginning_begun d s c.args.marked.now.potential.moments.now c.args.marked.now.marks.now c.args.marked.now.amount c.begin.new.work (p.halves d) (p.halves (turned d)) among c.args.marked.now.positive begun }

pub returns-clause-freed : goal.returns-clause-freed
returns-clause-freed c =
    let s = c.args.marked.now.potential.store.now in
    let n = length c.args.marked.now.potential.moments.now in
    let d = c.args.direction in
    let w = c.begin.new.work in
    let w' = c.flow.new.work in
    let p = c.args.marked.now.potential.met in
    let among = arcs_among s c.args.marked.now.potential.moments.now p in
    let begun = subst (λ (q : Direction). IsBeginning q s c.args.marked.now.potential.moments.now c.args.marked.now.marks.now c.args.marked.now.amount n c.begin.new.work) c.turn.ensures c.in_ok-begun.ensures.beginning in
    freed_is d s c.args.marked.now.potential.moments.now c.args.marked.now.marks.now c.args.marked.now.amount w (p.halves d) (p.halves (turned d)) among c.args.marked.now.positive begun
    c.requires.origin p.some (looks_at (keys_of d s) (λ x. get_or w.ranks.items x 0) n + c.in_ok-more.more) w'.amounts.items w'.ranks.items w'.parents.items c.in_ok-more.ensures.flow

pub overflow_add-result : goal.overflow_add-result
overflow_add-result c =
    let s = c.args.marked.now.potential.store.now in
    let n = length c.args.marked.now.potential.moments.now in
    let d = c.args.direction in
    let w' = c.flow.new.work in
    let f = c.in_ok-more.ensures.flow in
    let l = f.looks_is in
    let most = looks_within (keys_of d s) (λ x. get_or w'.amounts.items x 0) n in
    let one = c.args.marked.now.potential.met.few d in
    let two = c.args.marked.now.potential.met.few c.turn.result in
    let h : c.in_ok-begun.begun + c.in_ok-more.more < 2 ^ 64 = omega (arith, c.in_ok-begun.ensures.looks, l, most, one, two) in
    search rules

pub returns-clause-looks : goal.returns-clause-looks
returns-clause-looks c =
    let s = c.args.marked.now.potential.store.now in
    let n = length c.args.marked.now.potential.moments.now in
    let d = c.args.direction in
    let w' = c.flow.new.work in
    let f = c.in_ok-more.ensures.flow in
    let l = f.looks_is in
    let most = looks_within (keys_of d s) (λ x. get_or w'.amounts.items x 0) n in
    let all : sum_to (λ y. length (keys_of d s y)) n + sum_to (λ y. length (keys_of (turned d) s y)) n ≡ sum_to (λ y. length (keys_of Up s y)) n + sum_to (λ y. length (keys_of Down s y)) n =
    both (λ (q : Direction). sum_to (λ y. length (keys_of q s y)) n + sum_to (λ y. length (keys_of (turned q) s y)) n ≡ sum_to (λ y. length (keys_of Up s y)) n + sum_to (λ y. length (keys_of Down s y)) n) (omega arith) (omega arith) d in
    let begun : c.in_ok-begun.begun ≤ sum_to (λ y. length (keys_of (turned d) s y)) n = subst (λ (q : Direction). c.in_ok-begun.begun ≤ sum_to (λ y. length (keys_of q s y)) n) c.turn.ensures c.in_ok-begun.ensures.looks in
    omega (arith, begun, l, most, all)
