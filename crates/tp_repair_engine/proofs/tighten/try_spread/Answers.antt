use Rattle.std.proofs.Common.{ℕ, ◌+◌, length, get_or, arith}
use Rattle.tp_repair_engine.specs.Flow.{looks_at}
use Rattle.tp_repair_engine.specs.Potential.{link_in}
use Rattle.tp_repair_engine.proofs.Flows.{ready_begun, ready_looks}
use Rattle.tp_repair_engine.specs.Store.{arcs_of, keys_of}
use Rattle.tp_repair_engine.proofs.Repairs.{parents_there, flow_is_spread, halves_known, halves_complete}
use Rattle.tp_repair_engine.proofs.tighten.try_spread.Goals as goal

pub returns-clause-spread : goal.returns-clause-spread
returns-clause-spread c =
    let s = c.args.potential.now.store.now in
    let d = c.args.direction in
    let m : ℕ → ℕ = λ x. get_or c.args.potential.now.moments.now x 0 in
    let begun = c.set_out.new.work in
    let w = c.flow.new.work in
    let out = c.in_ok-set_out.ensures.set_out in
    flow_is_spread d m (arcs_of s.nodes.slots) (keys_of d s) (λ x. get_or begun.amounts.items x 0) (length c.args.potential.now.moments.now) (looks_at (keys_of c.args.direction c.args.potential.now.store.now) (λ x. get_or begun.ranks.items x 0) (length c.args.potential.now.moments.now) + c.in_ok-flow.field-0) c.args.seed c.args.amount w.amounts.items w.ranks.items w.parents.items
    (halves_known d m s (c.args.potential.now.met.halves c.args.direction)) (halves_complete d m s (c.args.potential.now.met.halves c.args.direction)) out.here out.there c.in_ok-flow.ensures.flow

pub returns-clause-parents : goal.returns-clause-parents
returns-clause-parents c =
    let m : ℕ → ℕ = λ x. get_or c.args.potential.now.moments.now x 0 in
    let begun = c.set_out.new.work in
    let w = c.flow.new.work in
    let out = c.in_ok-set_out.ensures.set_out in
    parents_there c.args.direction m c.args.potential.now.store.now (λ x. get_or begun.amounts.items x 0) (length c.args.potential.now.moments.now) (looks_at (keys_of c.args.direction c.args.potential.now.store.now) (λ x. get_or begun.ranks.items x 0) (length c.args.potential.now.moments.now) + c.in_ok-flow.field-0) c.args.seed w.amounts.items w.ranks.items w.parents.items
    (c.args.potential.now.met.halves c.args.direction) out.there c.in_ok-flow.ensures.flow

pub flow-requires : goal.flow-requires
flow-requires c =
    let s = c.args.potential.now.store.now in
    let d = c.args.direction in
    record { begun = ready_begun (link_in d s c.args.potential.now.moments.now) (keys_of d s) (length c.args.potential.now.moments.now) c.set_out.new.work c.in_ok-set_out.ensures.set_out.ready }

pub returns-clause-looks : goal.returns-clause-looks
returns-clause-looks c =
    let f = c.in_ok-flow.ensures.flow in
    let z = ready_looks (keys_of c.args.direction c.args.potential.now.store.now) (length c.args.potential.now.moments.now) c.set_out.new.work c.in_ok-set_out.ensures.set_out.ready in
    let l = f.looks_is in
    omega (arith, z, l)
