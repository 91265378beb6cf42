use Rattle.std.proofs.Common.{ℕ, ◌+◌, length, get_or, arith}
use Rattle.tp_repair_engine.specs.declared.store.Direction.TheVariants.{Up}
use Rattle.tp_repair_engine.specs.Store.{arcs_of, keys_of}
use Rattle.tp_repair_engine.proofs.Repairs.{flow_closed, flow_least, halves_known, halves_complete}
use Rattle.tp_net.specs.Moments.{HoldsLeast}
use Rattle.tp_repair_engine.specs.Flow.{looks_at}
use Rattle.tp_repair_engine.specs.Potential.{link_in}
use Rattle.tp_repair_engine.proofs.Stores.{arcs_among, arcs_weigh}
use Rattle.tp_repair_engine.proofs.Flows.{ready_begun, ready_looks}
use Rattle.tp_repair_engine.proofs.Rises.{risen_meets, risen_least}
use Rattle.tp_repair_engine.proofs.rising.try_rise_floors.Goals as goal

pub returns-clause-raised : goal.returns-clause-raised
returns-clause-raised c =
    let p = c.args.low.now.met in
    let s = c.args.low.now.store.now in
    let holds : HoldsLeast (arcs_of s.nodes.slots) c.args.low.now.moments.now =
    record { origin = p.some; small = p.small; weights = arcs_weigh s c.args.low.now.moments.now p; among = arcs_among s c.args.low.now.moments.now p; least = c.requires.least } in
    let arcs = arcs_of s.nodes.slots in
    let low = c.args.low.now.moments.now in
    let m : ℕ → ℕ = λ x. get_or low x 0 in
    let begun = c.set_out_floors.new.work in
    let w = c.flow.new.work in
    let o = c.in_ok-set_out_floors.ensures.offered in
    let f = c.in_ok-flow.ensures.flow in
    let start : ℕ → ℕ = λ x. get_or begun.amounts.items x 0 in
    let g : ℕ → ℕ = λ x. get_or w.amounts.items x 0 in
    let known = halves_known Up m s (c.args.low.now.met.halves Up) in
    let complete = halves_complete Up m s (c.args.low.now.met.halves Up) in
    let closed = flow_closed Up m arcs (keys_of Up s) start (length low) (looks_at (keys_of Up s) (λ x. get_or begun.ranks.items x 0) (length low) + c.in_ok-flow.field-0) w.amounts.items w.ranks.items w.parents.items known complete f in
    let least = flow_least Up m arcs (keys_of Up s) start (length low) (looks_at (keys_of Up s) (λ x. get_or begun.ranks.items x 0) (length low) + c.in_ok-flow.field-0) w.amounts.items w.ranks.items w.parents.items known complete f in
    record {
      len = f.amounts_len;
      meets = risen_meets arcs low start g holds closed least;
      enough = λ x q a. (let h = o.enough x q a in let b = f.flowing.started x in omega (arith, h, b));
      least = λ t sol asked. risen_least arcs low start g holds closed least t sol (λ x some. asked x (get_or low x 0 + get_or begun.amounts.items x 0) (o.some x some));
    }

pub flow-requires : goal.flow-requires
flow-requires c =
    let s = c.args.low.now.store.now in
    record { begun = ready_begun (link_in Up s c.args.low.now.moments.now) (keys_of Up s) (length c.args.low.now.moments.now) c.set_out_floors.new.work c.in_ok-set_out_floors.ensures.offered.ready }

pub returns-clause-looks : goal.returns-clause-looks
returns-clause-looks c =
    let f = c.in_ok-flow.ensures.flow in
    let z = ready_looks (keys_of Up c.args.low.now.store.now) (length c.args.low.now.moments.now) c.set_out_floors.new.work c.in_ok-set_out_floors.ensures.offered.ready in
    let l = f.looks_is in
    omega (arith, z, l)
