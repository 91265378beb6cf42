use Rattle.std.proofs.Common.{ℕ, ◌+◌, ◌<◌, ◌^◌, length, get_or, arith, rules, w64}
use Rattle.tp_repair_engine.proofs.Falls.{falls_within}
use Rattle.std.proofs.lemmas.Int.{to_z-of_z}
use mir.Val.{SFits}
use Rattle.tp_net.proofs.Additions.{lower_stands}
use Rattle.tp_repair_engine.specs.declared.store.Direction.TheVariants.{Down}
use Rattle.tp_repair_engine.specs.Flow.{links_of}
use Rattle.tp_repair_engine.specs.Store.{arcs_of, keys_of}
use Rattle.tp_repair_engine.proofs.Flows.{looks_within}
use Rattle.tp_repair_engine.proofs.Stores.{arcs_among}
use Rattle.tp_repair_engine.proofs.Repairs.{are_down}
use Rattle.tp_repair_engine.proofs.tighten.fall.Goals as goal

pub overflow_add-looks : goal.overflow_add-looks
overflow_add-looks c =
    let keys = keys_of Down c.args.high.now.store.now in
    let n = length c.args.high.now.moments.now in
    let most = looks_within keys (λ x. get_or c.spread_from.new.work.amounts.items x 0) n in
    let e : c.in_ok-more.more + 1 < 2 ^ 64 = omega (arith, most, c.in_ok-more.ensures.looks, c.args.high.now.met.few Down) in
    search rules

pub overflow_add-looks-2 : goal.overflow_add-looks-2
overflow_add-looks-2 c =
    let keys = keys_of Down c.args.high.now.store.now in
    let n = length c.args.high.now.moments.now in
    let most = looks_within keys (λ x. get_or c.spread_from.new.work.amounts.items x 0) n in
    let e : c.args.looks.now + (c.in_ok-more.more + 1) < 2 ^ 64 = omega (arith, most, c.in_ok-more.ensures.looks, c.args.high.now.met.few Down, c.requires.counted) in
    search rules

pub returns-clause-falls : goal.returns-clause-falls
returns-clause-falls c =
    let f : SFits w64 c.args.new.weight = search rules in
    let w = c.spread_from.new.work in
    let arcs = arcs_of c.args.high.now.store.now.nodes.slots in
    let m : ℕ → ℕ = λ x. get_or c.args.high.now.moments.now x 0 in
    let links = links_of Down m arcs in
    let gap = (simp to_z-of_z at c.gap-amount.ensures) in
    let p = c.args.high.now.met in
    let among = arcs_among c.args.high.now.store.now c.args.high.now.moments.now p in
    let down = are_down m arcs c.requires.greatest.solution.1 in
    record {
      greatest = λ moved len each.
          lower_stands arcs links c.args.new c.gap-amount.result c.args.high.now.moments.now w.amounts.items w.ranks.items w.parents.items moved
          p.some among c.requires.edge.0 down gap c.in_ok-more.ensures.spread c.requires.greatest c.requires.solution.0 c.requires.solution.1 len each;
      within = falls_within arcs links c.args.new c.gap-amount.result c.args.high.now.moments.now w.amounts.items w.ranks.items w.parents.items among c.requires.edge.0 down gap c.in_ok-more.ensures.spread c.requires.greatest c.requires.solution.0 c.requires.solution.1;
    }

pub returns-clause-most : goal.returns-clause-most
returns-clause-most c =
    let most = looks_within (keys_of Down c.args.high.now.store.now) (λ x. get_or c.spread_from.new.work.amounts.items x 0) (length c.args.high.now.moments.now) in
    omega (arith, most, c.in_ok-more.ensures.looks)
