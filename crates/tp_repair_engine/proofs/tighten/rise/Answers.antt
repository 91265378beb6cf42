use Rattle.std.proofs.Common.{◌≡◌, ℕ, ◌+◌, ◌<◌, ◌^◌, length, get_or, subst, arith, rules, w64}
use Rattle.std.proofs.lemmas.Int.{to_z-of_z}
use mir.Val.{SFits}
use Rattle.tp_net.specs.Links.{IsTrace}
use Rattle.tp_net.proofs.Additions.{sum_fits, raise_consistent, raise_negative_cycle, read_at}
use Rattle.tp_repair_engine.proofs.Falls.{rises_solution}
use Rattle.tp_repair_engine.specs.declared.store.Direction.TheVariants.{Up}
use Rattle.tp_repair_engine.specs.Flow.{links_of}
use Rattle.tp_repair_engine.specs.Store.{arcs_of, keys_of}
use Rattle.tp_repair_engine.proofs.Flows.{looks_within}
use Rattle.tp_repair_engine.proofs.Stores.{arcs_among}
use Rattle.tp_repair_engine.proofs.Repairs.{are_up}
use Rattle.tp_repair_engine.proofs.tighten.rise.Goals as goal

pub returns-then-index-gt0-clause-rises : goal.returns-then-index-gt0-clause-rises
returns-then-index-gt0-clause-rises c =
    let f : SFits w64 c.args.new.weight = search rules in
    let w = c.spread_from.new.work in
    let p = c.args.low.now.met in
    let least = c.requires.least in
    let arcs = arcs_of c.args.low.now.store.now.nodes.slots in
    let m : ℕ → ℕ = λ x. get_or c.args.low.now.moments.now x 0 in
    let links = links_of Up m arcs in
    let s = c.in_ok-more.ensures.spread in
    let seeded : get_or w.amounts.items c.args.new.from 0 ≡ c.gap-amount.result = s.spreading.seeded in
    let t : IsTrace links c.args.new.to c.args.new.from c.gap-amount.result (get_or w.amounts.items c.args.new.to 0) c.in_ok-path.path.items =
    subst (λ a. IsTrace links c.args.new.to c.args.new.from a (get_or w.amounts.items c.args.new.to 0) c.in_ok-path.path.items) seeded c.in_ok-path.ensures.trace in
    let within : c.args.new.to < length w.amounts.items = omega (arith, c.requires.edge.0.1, c.spread_from.ensures.idle.places.amounts) in
    let here : get_or w.amounts.items c.args.new.to 0 ≡ c.index.result.now = read_at w.amounts.items c.args.new.to c.index.result.now within c.index.ensures in
    let some : 0 < get_or w.amounts.items c.args.new.to 0 = omega (arith, here, c.if-index-gt0.true) in
    raise_negative_cycle arcs links c.args.new c.gap-amount.result (get_or w.amounts.items c.args.new.to 0) m c.in_ok-path.path.items (are_up m arcs least.solution.1) (simp to_z-of_z at c.gap-amount.ensures) some t

pub returns-clause-rises : goal.returns-clause-rises
returns-clause-rises c =
    let f : SFits w64 c.args.new.weight = search rules in
    let w = c.spread_from.new.work in
    let p = c.args.low.now.met in
    let least = c.requires.least in
    let arcs = arcs_of c.args.low.now.store.now.nodes.slots in
    let m : ℕ → ℕ = λ x. get_or c.args.low.now.moments.now x 0 in
    let links = links_of Up m arcs in
    let within : c.args.new.to < length w.amounts.items = omega (arith, c.requires.edge.0.1, c.spread_from.ensures.idle.places.amounts) in
    let here : get_or w.amounts.items c.args.new.to 0 ≡ c.index.result.now = read_at w.amounts.items c.args.new.to c.index.result.now within c.index.ensures in
    let quiet : get_or w.amounts.items c.args.new.to 0 ≡ 0 = omega (arith, here, c.if-index-gt0.false) in
    let gap = (simp to_z-of_z at c.gap-amount.ensures) in
    record {
      solution = rises_solution arcs links c.args.new c.gap-amount.result c.args.low.now.moments.now w.amounts.items w.ranks.items w.parents.items p.some (arcs_among c.args.low.now.store.now c.args.low.now.moments.now p) c.requires.edge.0 (are_up m arcs least.solution.1) gap c.in_ok-more.ensures.spread least quiet;
      least = λ moved len each.
          raise_consistent arcs links c.args.new c.gap-amount.result c.args.low.now.moments.now w.amounts.items w.ranks.items w.parents.items moved
          p.some (arcs_among c.args.low.now.store.now c.args.low.now.moments.now p) c.requires.edge.0 (are_up m arcs least.solution.1) gap c.in_ok-more.ensures.spread least quiet len each;
      fits = sum_fits links c.args.new.from c.gap-amount.result c.args.low.now.moments.now w.amounts.items w.ranks.items w.parents.items c.args.new c.in_ok-more.ensures.spread p.small c.requires.edge.1 c.requires.edge.0 gap;
    }

pub overflow_add-looks : goal.overflow_add-looks
overflow_add-looks c =
    let keys = keys_of Up c.args.low.now.store.now in
    let n = length c.args.low.now.moments.now in
    let most = looks_within keys (λ x. get_or c.spread_from.new.work.amounts.items x 0) n in
    let e : c.in_ok-more.more + 1 < 2 ^ 64 = omega (arith, most, c.in_ok-more.ensures.looks, c.args.low.now.met.few Up) in
    search rules

pub overflow_add-looks-2 : goal.overflow_add-looks-2
overflow_add-looks-2 c =
    let keys = keys_of Up c.args.low.now.store.now in
    let n = length c.args.low.now.moments.now in
    let most = looks_within keys (λ x. get_or c.spread_from.new.work.amounts.items x 0) n in
    let e : c.args.looks.now + (c.in_ok-more.more + 1) < 2 ^ 64 = omega (arith, most, c.in_ok-more.ensures.looks, c.args.low.now.met.few Up, c.requires.counted) in
    search rules

pub returns-then-index-gt0-clause-looks : goal.returns-then-index-gt0-clause-looks
returns-then-index-gt0-clause-looks c =
    let keys = keys_of Up c.args.low.now.store.now in
    let n = length c.args.low.now.moments.now in
    let most = looks_within keys (λ x. get_or c.spread_from.new.work.amounts.items x 0) n in (
      omega arith,
      omega (arith, most, c.in_ok-more.ensures.looks),
    )

pub returns-clause-looks : goal.returns-clause-looks
returns-clause-looks c = (let e = c.in_ok-more.ensures.looks in omega (arith, e))

pub returns-in_err-path-clause-most : goal.returns-in_err-path-clause-most
returns-in_err-path-clause-most c =
    let most = looks_within (keys_of Up c.args.low.now.store.now) (λ x. get_or c.spread_from.new.work.amounts.items x 0) (length c.args.low.now.moments.now) in
    omega (arith, most, c.in_ok-more.ensures.looks)

pub returns-then-index-gt0-clause-most : goal.returns-then-index-gt0-clause-most
returns-then-index-gt0-clause-most c =
    let most = looks_within (keys_of Up c.args.low.now.store.now) (λ x. get_or c.spread_from.new.work.amounts.items x 0) (length c.args.low.now.moments.now) in
    omega (arith, most, c.in_ok-more.ensures.looks)

pub returns-clause-most : goal.returns-clause-most
returns-clause-most c =
    let most = looks_within (keys_of Up c.args.low.now.store.now) (λ x. get_or c.spread_from.new.work.amounts.items x 0) (length c.args.low.now.moments.now) in
    omega (arith, most, c.in_ok-more.ensures.looks)
