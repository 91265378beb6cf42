use Rattle.std.proofs.Common.{◌≡◌, ◌≢◌, ℕ, length, get_or, refl, ap, ◌∙◌, arith, rules, w64, Bool, not, true, false}
use Rattle.std.specs.Prelude.{Option, is_some, Some, None, slice_index_or, pos, ◌-ℤ◌}
use Rattle.std.proofs.lemmas.Int.{to_z-of_z}
use mir.Val.{SFits}
use Rattle.tp_bounds.specs.declared.Edge.TheVariants.{Now}
use Rattle.tp_net.specs.declared.slacks.Arc.{Arc}
use Rattle.tp_net.specs.Arcs.{floor_at}
use Rattle.tp_repair_engine.specs.Store.{weighed}
use Rattle.tp_repair_engine.proofs.Floors.{upto_all, upto_passed, upto_written, open_is}
use Rattle.tp_repair_engine.proofs.change.set_floors.Goals.{then-is_none, else-is_none}
use Rattle.tp_repair_engine.proofs.change.set_floors.Goals as goal

none_is : (o : Option ℕ) (b : Bool) → is_some o ≡ not b → b ≡ true → o ≡ None
none_is None b h t = refl
none_is (Some x) true h t = absurd (let f : ⊥ = cc in f)
none_is (Some x) false h t = absurd (let f : ⊥ = cc in f)

some_is : (o : Option ℕ) (b : Bool) → is_some o ≡ not b → b ≡ false → o ≢ None
some_is None true h t is = let f : ⊥ = cc in f
some_is None false h t is = let f : ⊥ = cc in f
some_is (Some x) b h t is = let f : ⊥ = cc in f

pub loop-e-preserved : goal.loop-e-preserved
loop-e-preserved c =
    let i = c.loop-e.invariant in
    let e = c.loop-e.e in
    let now = c.args.now in
    let lags = c.args.lags.now in
    let floors = c.args.floors.now in
    let fixed = c.args.fixed.now in
    let old = c.args.store.now.nodes.slots in
    let mid = c.loop-e.store.nodes.slots in
    elim c.if-is_none.branch [
      | then-is_none w ↦
          let new = w.set_edge.new.store.nodes.slots in
          let a = w.set_edge.ensures in
          let free : slice_index_or fixed e None ≡ None = none_is (slice_index_or fixed e None) c.is_none.result c.is_none.ensures w.if-is_none.true in
          let n = c.requires.floors.there e c.loop-e-test.true free in
          let m = i.mapped.forth (get_or floors e 0) n.0 n.1 in
          let fits : SFits w64 w.start_arc.result.weight = search rules in
          let here : slice_index_or new (get_or floors e 0) None ≡ Some (weighed (Now e) w.start_arc.result.weight m.0) = simp to_z-of_z at (a.here m.0 m.1) in
          let weight : w.start_arc.result.weight ≡ pos 0 -ℤ pos (floor_at now lags e) = ap (λ (x : Arc). x.weight) w.start_arc.ensures ∙ ap (λ v. pos 0 -ℤ pos v) w.floor.ensures in
          rw w.store-is
          (record {
            points = (a.points.0 ∙ i.points.0, a.points.1 ∙ i.points.1);
            halves_in = a.halves_in;
            halves_out = a.halves_out;
            degrees = λ d y. a.degrees d y ∙ i.degrees d y;
            mapped = upto_written e now (get_or floors e 0) lags floors fixed old mid new m.0 w.start_arc.result.weight refl c.requires.floors.only i.mapped m.1 (m.2 ∙ n.2) weight here a.others;
          })
      | else-is_none w ↦
          let closed : slice_index_or fixed e None ≢ None = some_is (slice_index_or fixed e None) c.is_none.result c.is_none.ensures w.if-is_none.false in
          rw w.store-is
          (record {
            points = i.points;
            halves_in = i.halves_in;
            halves_out = i.halves_out;
            degrees = i.degrees;
            mapped = upto_passed e now lags old mid (λ k n is named. closed (open_is floors fixed n.name e k named (c.requires.floors.only k n is)).1) i.mapped;
          })
    ]

pub returns-clause-mapped : goal.returns-clause-mapped
returns-clause-mapped c =
    let done : c.loop-e.e ≡ length c.args.fixed.now = omega arith in
    upto_all c.args.now c.args.lags.now c.args.floors.now c.args.fixed.now c.args.store.now.nodes.slots c.loop-e.store.nodes.slots c.loop-e.e done c.requires.floors.only c.loop-e.invariant.mapped
