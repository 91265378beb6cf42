-- The edge of a bound that holds no moment is one that leaves at once.
use Rattle.std.proofs.Common.{◌≡◌, ℕ, suc, inl, inr, List, Some, None, get_or, sym, ap, subst, arith}
use Rattle.std.specs.Prelude.{slice_index_or}
use Rattle.std.specs.BTreeMap.{BTreeMap}
use Rattle.std.specs.BTreeMap as tree
use Rattle.std.specs.FinMap.{get}
use Rattle.std.specs.Ordering.{nat_cmp}
use Rattle.std.proofs.lemmas.Int.{ints}
use Rattle.tp_bounds.specs.declared.Bound.{Bound}
use Rattle.tp_bounds.specs.declared.BoundId.{BoundId}
use Rattle.tp_bounds.specs.declared.Point.{Point}
use Rattle.tp_bounds.specs.declared.Point.TheVariants.{Origin, Event}
use Rattle.tp_bounds.specs.Setting.{Setting, HasPoint}
use Rattle.tp_bounds.specs.Schedule.{moment_of}
use Rattle.tp_net.specs.Arcs.{number_of, arc_of}
use Rattle.tp_net.proofs.KeptMoments.{kept_least, kept_greatest}
use Rattle.tp_repair_engine.specs.declared.engine.Engine.{Engine}
use Rattle.tp_repair_engine.specs.declared.store.Node.{Node}
use Rattle.tp_repair_engine.specs.Engine.{IsRepaired, IsLoose}
use Rattle.tp_repair_engine.specs.Costs.{AreWindows, HoldsNoMoment}
use Rattle.tp_repair_engine.proofs.Repaired.{kept}
use Rattle.tp_repair.proofs.Renewed.{own_there, own_arc}
use Rattle.tp_repair_engine.proofs.Cheap.{one_least, one_greatest}

module _ (s : Setting) (count : ℕ) (keys : BTreeMap ℕ ℕ) (floors ends : List ℕ) (g : Engine) (r : IsRepaired s count keys floors ends g)
    (low high : ℕ → ℕ)
    (w : AreWindows s low high)
  where
    low_at : (p : Point) → HasPoint s p → moment_of low p ≡ get_or g.low.items (number_of p) 0
    low_at Origin h = let o = r.exact.least.solution.0 in omega (arith, ints, o)
    low_at (Event e) lt = one_least s e (low e) (get_or g.low.items (suc e) 0) (w.least e lt) (kept_least _ _ _ _ _ (kept s count keys floors ends g r) e lt)

    high_at : (p : Point) → HasPoint s p → moment_of high p ≡ get_or g.high.items (number_of p) 0
    high_at Origin h = let o = r.exact.greatest.solution.0 in omega (arith, ints, o)
    high_at (Event e) lt = one_greatest s e (high e) (get_or g.high.items (suc e) 0) (w.greatest e lt) (kept_greatest _ _ _ _ _ (kept s count keys floors ends g r) e lt)

    loose_edge : (b : Bound) → HasPoint s b.from → HasPoint s b.to → HoldsNoMoment low high b → IsLoose g.low.items g.high.items (arc_of b)
    loose_edge b from to h = (
      elim h.0 [
        | inl start ↦ inl (ap number_of start)
        | inr less ↦ inr (let i = low_at b.from from in let j = low_at b.to to in omega (arith, ints, i, j, less))
      ],
      elim h.1 [
        | inl end ↦ inl (ap number_of end)
        | inr less ↦ inr (let i = high_at b.from from in let j = high_at b.to to in omega (arith, ints, i, j, less))
      ],
    )

    -- under the bound's key stands such an edge
    pub loose_node : (id : BoundId) (b : Bound) (key : ℕ) → get s.bounds id.0 ≡ Some b → tree.get nat_cmp keys id.0 ≡ Some key → HoldsNoMoment low high b
        → (n : Node) × (slice_index_or g.store.nodes.slots key None ≡ Some n) × IsLoose g.low.items g.high.items n.arc
    loose_node id b key is key_is loose =
        let own = own_there s count keys floors ends g id b key r is key_is in
        let arc = own_arc s count keys floors ends g id b key r is own in
        (own.0, own.1, subst (λ a. IsLoose g.low.items g.high.items a) (sym arc) (loose_edge b (r.fit.from id.0 b is) (r.fit.to id.0 b is) loose))
