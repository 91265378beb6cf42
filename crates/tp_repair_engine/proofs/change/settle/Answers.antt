use Prim.Native.Nat.{max}
use Rattle.std.proofs.Common.{◌≡◌, ℕ, suc, ◌+◌, ◌-◌, ◌<◌, List, length, get_or, sym, ap, subst, ◌∙◌, ◌++◌, ◌∷◌, [], arith, rules, w64}
use Rattle.std.specs.Prelude.{ℤ, ◌-ℤ◌, Some, None, slice_index_or, pos}
use Rattle.std.proofs.lemmas.Int.{ints, to_z-of_z}
use mir.Val.{SFits}
use Rattle.tp_bounds.specs.declared.Edge.TheVariants.{PastHigh, PastLow}
use Rattle.tp_bounds.specs.Reasons.{at_least, at_most}
use Rattle.tp_net.specs.declared.slacks.Arc.{Arc}
use Rattle.tp_net.specs.Arcs.{arc_of}
use Rattle.tp_net.specs.Graph.{MeetsArc}
use Rattle.tp_net.specs.Moments.{CycleBeginsWith}
use Rattle.tp_net.proofs.Additions.{with_new}
use Rattle.tp_repair_engine.specs.declared.engine.Engine.{Engine}
use Rattle.tp_repair_engine.specs.declared.store.Direction.TheVariants.{Up, Down}
use Rattle.tp_repair_engine.specs.Store.{arcs_of, keys_of, weighed}
use Rattle.tp_repair_engine.specs.Work.{Rises, Falls, WouldRise, IsIdle}
use Rattle.tp_repair_engine.proofs.Wires.{sum_same, low_potential, high_potential}
use Rattle.tp_repair_engine.proofs.Settled.{two_keys, settled_mapped}
use Rattle.tp_repair_engine.proofs.Names.{has_key}
use Rattle.tp_repair_engine.proofs.Fixed.{cycle_none, between_met, fixed_exact}
use Rattle.tp_repair_engine.proofs.change.settle.Goals as goal

-- the moment of the event in its window, of a solution
max_is : (low high m : ℕ) → low < m + 1 → m < high + 1 → max low (high - (high - m)) ≡ m
max_is low high m a b = omega (arith, a, b)

pub unreachable-requires : goal.unreachable-requires
unreachable-requires c =
    let g : Engine = c.args.engine.now in
    let arcs = arcs_of g.store.nodes.slots in
    let low = g.low.items in
    let high = g.high.items in
    let e = c.args.e in
    let m = c.args.moment in
    let back = get_or high (suc e) 0 - m in
    let new = arc_of (at_least e m) in
    let t : ℕ → ℤ = λ x. pos (max (get_or low x 0) (get_or high x 0 - back)) in
    let s = between_met arcs low high back c.requires.solved.exact.least.solution c.requires.solved.exact.greatest.solution in
    let above = c.requires.window.above in
    let below = c.requires.window.below in
    let at : max (get_or low (suc e) 0) (get_or high (suc e) 0 - back) ≡ m = max_is (get_or low (suc e) 0) (get_or high (suc e) 0) m (omega (arith, above)) (omega (arith, below)) in
    let o = s.0 in
    let met : MeetsArc t new = omega (arith, ints, at, o) in
    let r : CycleBeginsWith (arcs ++ new ∷ []) (length arcs) (length arcs ∷ c.in-Some._path.items) = subst (λ q. WouldRise arcs new low c.rise.new.work.amounts.items q) c.in-Some.is (simp (c.deref.ensures.value, c.start_arc-start.ensures) at c.in_ok-_path.ensures.rises) in
    cycle_none (arcs ++ new ∷ []) (length arcs ∷ c.in-Some._path.items) r.negative t (with_new arcs new t s met)

pub fall-requires-clause-solution : goal.fall-requires-clause-solution
fall-requires-clause-solution c =
    let g : Engine = c.args.engine.now in
    let arcs = arcs_of g.store.nodes.slots in
    let low = g.low.items in
    let high = g.high.items in
    let e = c.args.e in
    let m = c.args.moment in
    let back = get_or high (suc e) 0 - m in
    let t : ℕ → ℤ = λ x. pos (max (get_or low x 0) (get_or high x 0 - back)) in
    let s = between_met arcs low high back c.requires.solved.exact.least.solution c.requires.solved.exact.greatest.solution in
    let above = c.requires.window.above in
    let below = c.requires.window.below in
    let at : max (get_or low (suc e) 0) (get_or high (suc e) 0 - back) ≡ m = max_is (get_or low (suc e) 0) (get_or high (suc e) 0) m (omega (arith, above)) (omega (arith, below)) in
    let o = s.0 in
    let new = arc_of (at_most e m) in
    let met : MeetsArc t new = omega (arith, ints, at, o) in
    simp c.stop_arc-stop.ensures (λ x. max (get_or low x 0) (get_or high x 0 - back), with_new arcs new t s met)

pub set_edge-requires-2-clause-exists : goal.set_edge-requires-2-clause-exists
set_edge-requires-2-clause-exists c =
    let g : Engine = c.args.engine.now in
    let mid = c.set_edge.new.store.nodes.slots in
    let nf = c.requires.keys.floor in
    let nh = c.requires.keys.end in
    let apart = two_keys c.args.e c.args.moment c.args.floor c.args.end g.store.nodes.slots mid mid nf.0 nh.0 nf.1 nf.2 nh.1 nh.2 in
    has_key mid c.args.end (nh.0, c.set_edge.ensures.others c.args.end apart ∙ nh.1)

pub returns-clause-ok : goal.returns-clause-ok
returns-clause-ok c =
    let g : Engine = c.args.engine.now in
    let arcs = arcs_of g.store.nodes.slots in
    let low = g.low.items in
    let high = g.high.items in
    let e = c.args.e in
    let m = c.args.moment in
    let back = get_or high (suc e) 0 - m in
    let t : ℕ → ℤ = λ x. pos (max (get_or low x 0) (get_or high x 0 - back)) in
    let s = between_met arcs low high back c.requires.solved.exact.least.solution c.requires.solved.exact.greatest.solution in
    let above = c.requires.window.above in
    let below = c.requires.window.below in
    let at : max (get_or low (suc e) 0) (get_or high (suc e) 0 - back) ≡ m = max_is (get_or low (suc e) 0) (get_or high (suc e) 0) m (omega (arith, above)) (omega (arith, below)) in
    let o = s.0 in
    let a = c.set_edge.ensures in
    let b = c.set_edge-2.ensures in
    let old = g.store.nodes.slots in
    let mid = c.set_edge.new.store.nodes.slots in
    let new = c.set_edge-2.new.store.nodes.slots in
    let nf = c.requires.keys.floor in
    let nh = c.requires.keys.end in
    let up = c.rise.new.work.amounts.items in
    let down = c.fall.new.work.amounts.items in
    let same : length c.deref.result.now ≡ length low = ap (λ (xs : List ℕ). length xs) c.deref.ensures.value in
    let same_high : length c.deref-2.result.now ≡ length high = ap (λ (xs : List ℕ). length xs) c.deref-2.ensures.value in
    let high_low : length c.deref-2.result.now ≡ length low = same_high ∙ sym c.requires.solved.exact.len in
    let apart = two_keys e m c.args.floor c.args.end old mid new nf.0 nh.0 nf.1 nf.2 nh.1 nh.2 in
    let fits : SFits w64 c.start_arc-start.result.weight = search rules in
    let fits_high : SFits w64 c.stop_arc-stop.result.weight = search rules in
    let v = c.start_arc-start.result.weight in
    let w = c.stop_arc-stop.result.weight in
    let v_is : v ≡ pos 0 -ℤ pos m = ap (λ (x : Arc). x.weight) c.start_arc-start.ensures in
    let w_is : w ≡ pos m = ap (λ (x : Arc). x.weight) c.stop_arc-stop.ensures in
    let f_now : slice_index_or mid c.args.floor None ≡ Some (weighed (PastLow e) v nf.0) = simp to_z-of_z at (a.here nf.0 nf.1) in
    let h_now : slice_index_or new c.args.end None ≡ Some (weighed (PastHigh e) w nh.0) = simp to_z-of_z at (b.here nh.0 (a.others c.args.end apart ∙ nh.1)) in
    let f_new : slice_index_or new c.args.floor None ≡ Some (weighed (PastLow e) v nf.0) = b.others c.args.floor (λ same_key. apart (sym same_key)) ∙ f_now in
    let rises : Rises arcs (arc_of (at_least e m)) low up = subst (λ q. WouldRise arcs (arc_of (at_least e m)) low up q) c.in_default.is (simp (c.deref.ensures.value, c.start_arc-start.ensures) at c.in_ok-_path.ensures.rises) in
    let falls : Falls arcs (arc_of (at_most e m)) high down = simp (c.deref-2.ensures.value, c.stop_arc-stop.ensures) at c.in_ok-fall.ensures.falls in
    record {
      wired = λ edges wd. record {
        some = wd.some;
        low_len = c.move_up.ensures.len ∙ wd.low_len;
        high_len = c.move_down.ensures.len ∙ wd.high_len;
        into_len = b.points.0 ∙ (a.points.0 ∙ wd.into_len);
        out_len = b.points.1 ∙ (a.points.1 ∙ wd.out_len);
        halves_in = b.halves_in;
        halves_out = b.halves_out;
        up = simp same at c.rise.ensures.idle;
        down = subst (λ n. IsIdle n c.fall.new.work) high_low c.fall.ensures.idle;
        many_up = sum_same (λ y. length (keys_of Up g.store y)) (λ y. length (keys_of Up c.set_edge-2.new.store y)) (length low) (λ y. b.degrees Up y ∙ a.degrees Up y) ∙ wd.many_up;
        many_down = sum_same (λ y. length (keys_of Down g.store y)) (λ y. length (keys_of Down c.set_edge-2.new.store y)) (length low) (λ y. b.degrees Down y ∙ a.degrees Down y) ∙ wd.many_down;
        few = wd.few;
      };
      degrees = λ d y. b.degrees d y ∙ a.degrees d y;
      edges = settled_mapped e m c.args.floor c.args.end old mid new nf.0 nh.0 nf.1 nf.2 nh.1 nh.2 v w c.requires.keys.only_floor c.requires.keys.only_end f_now a.others h_now b.others v_is w_is;
      exact = fixed_exact e m c.args.floor c.args.end old new nf.0 nh.0 (PastLow e) (PastHigh e) v w nf.1 nh.1 f_new h_now (λ k ne other. b.others k other ∙ a.others k ne)
          (nf.3, nf.4, nf.5) (nh.3, nh.4, nh.5) v_is w_is
          c.move_up.new.low.items c.move_down.new.high.items
          (let l = c.move_up.ensures.len in let p = c.requires.window.point in omega (arith, l, p))
          (let l = c.move_down.ensures.len in let p = c.requires.window.point in let q = c.requires.solved.exact.len in omega (arith, l, p, q))
          (rises.least c.move_up.new.low.items c.move_up.ensures.len c.move_up.ensures.each)
          (falls.greatest c.move_down.new.high.items c.move_down.ensures.len c.move_down.ensures.each)
          t s (ap pos at)
          (c.move_up.ensures.len ∙ (c.requires.solved.exact.len ∙ sym c.move_down.ensures.len));
    }

pub returns-clause-moves : goal.returns-clause-moves
returns-clause-moves c =
    let g : Engine = c.args.engine.now in
    let arcs = arcs_of g.store.nodes.slots in
    let e = c.args.e in
    let m = c.args.moment in
    let falls : Falls arcs (arc_of (at_most e m)) g.high.items c.fall.new.work.amounts.items = simp (c.deref-2.ensures.value, c.stop_arc-stop.ensures) at c.in_ok-fall.ensures.falls in
    let len = c.requires.solved.exact.len in
    record {
      up = c.move_up.ensures.each;
      down = λ x within.
          (let h = c.move_down.ensures.each x (omega (arith, within, len)) in
          let w = falls.within x (omega (arith, within, len)) in
          omega (arith, h, w));
    }

pub invariant_of-low : goal.invariant_of-low
invariant_of-low c = rw c.deref.ensures.value (record { met = low_potential c.args.engine.now c.requires.solved })

pub invariant_of-high : goal.invariant_of-high
invariant_of-high c = rw c.deref-2.ensures.value (record { met = high_potential c.args.engine.now c.requires.solved })
