-- A flow over the lists of points is a spread over all arcs.
use Rattle.std.proofs.Common.{◌≡◌, ◌≢◌, ℕ, ◌+◌, ◌<◌, ◌≤◌, List, [], ◌∷◌, length, refl, sym, ◌∙◌, ap, subst, inl, inr, ◌⊎◌, arith, get_or, zero, suc}
use Rattle.std.specs.Prelude.{All, slice_index_or, ℤ, pos, negsuc, ◌+ℤ◌, ◌-ℤ◌, ◌≤ℤ◌}
use Rattle.std.proofs.lemmas.Int.{ints}
use Rattle.tp_net.specs.declared.slacks.Arc.{Arc}
use Rattle.tp_repair_engine.specs.declared.store.Direction.{Direction}
use Rattle.tp_repair_engine.specs.declared.store.Direction.TheVariants.{Up, Down}
use Rattle.tp_net.specs.declared.spread.Link.{Link}
use Rattle.tp_net.specs.Links.{MeetsLink, IsClosed, IsSpread, IsParent, link_at, no_link}
use Rattle.tp_net.specs.Slacks.{IsUpLink, IsDownLink, AreUpLinks, AreDownLinks}
use Rattle.tp_net.specs.Graph.{MeetsArc, arc_at, no_arc}
use Rattle.tp_repair_engine.specs.Flow.{IsSource, IsClosedBy, IsFlow, link_of, links_of, slack_at}
use Rattle.std.specs.Prelude.{Option, Some, None}
use Rattle.tp_repair_engine.specs.declared.store.Node.{Node}
use Rattle.tp_repair_engine.specs.declared.store.Store.{Store}
use Rattle.tp_repair_engine.specs.Store.{arcs_of, near, place_of, lists_of, halves_at, half_at, keys_of, HasNode, AreHalves}
use Rattle.tp_repair_engine.proofs.Stores.{along_is, along_to, key_at, keys_len, stands, arc_is, link_near, arc_free}
use Rattle.tp_net.proofs.Spreads.{same_or, below_or}

pub links_len : (d : Direction) (m : ℕ → ℕ) (arcs : List Arc) → length (links_of d m arcs) ≡ length arcs
links_len d m [] = refl
links_len d m (e ∷ es) = ap suc (links_len d m es)

pub links_at : (d : Direction) (m : ℕ → ℕ) (arcs : List Arc) (k : ℕ) → k < length arcs → link_at (links_of d m arcs) k ≡ link_of d m (arc_at arcs k)
links_at d m [] k within = absurd (omega (arith, within))
links_at d m (e ∷ es) zero within = refl
links_at d m (e ∷ es) (suc k) within = links_at d m es k (omega (arith, within))

pub slack_at_is : (z : ℤ) → pos 0 ≤ℤ z → pos (slack_at z) ≡ z
slack_at_is (pos n) h = refl
slack_at_is (negsuc n) h = absurd (omega (arith, ints, h))

pub are_up : (m : ℕ → ℕ) (arcs : List Arc) → All (MeetsArc (λ x. pos (m x))) arcs → AreUpLinks m arcs (links_of Up m arcs)
are_up m arcs met = record {
  len = links_len Up m arcs;
  each = λ k within. subst (λ l. IsUpLink m (arc_at arcs k) l) (sym (links_at Up m arcs k within))
      (let met_k = met k no_arc within in
      let e = slack_at_is ((pos (m (arc_at arcs k).from) +ℤ (arc_at arcs k).weight) -ℤ pos (m (arc_at arcs k).to)) (omega (arith, ints, met_k)) in
      record { begins = refl; ends = refl; slack = omega (arith, ints, e) });
}

pub are_down : (m : ℕ → ℕ) (arcs : List Arc) → All (MeetsArc (λ x. pos (m x))) arcs → AreDownLinks m arcs (links_of Down m arcs)
are_down m arcs met = record {
  len = links_len Down m arcs;
  each = λ k within. subst (λ l. IsDownLink m (arc_at arcs k) l) (sym (links_at Down m arcs k within))
      (let met_k = met k no_arc within in
      let e = slack_at_is ((pos (m (arc_at arcs k).from) +ℤ (arc_at arcs k).weight) -ℤ pos (m (arc_at arcs k).to)) (omega (arith, ints, met_k)) in
      record { begins = refl; ends = refl; slack = omega (arith, ints, e) });
}

-- a flow from one point is a spread, where each edge stands in a list
module _ (d : Direction) (m : ℕ → ℕ) (arcs : List Arc) (keys : ℕ → List ℕ) (start : ℕ → ℕ) (points looks seed amount : ℕ) (amounts ranks parents : List ℕ)
    (known : (y j : ℕ) → j < length (keys y) → (get_or (keys y) j 0 < length arcs) × ((link_of d m (arc_at arcs (get_or (keys y) j 0))).to ≡ y))
    (complete : (k : ℕ) → k < length arcs → ((j : ℕ) × (j < length (keys (link_of d m (arc_at arcs k)).to)) × (get_or (keys (link_of d m (arc_at arcs k)).to) j 0 ≡ k)) ⊎ ((link_of d m (arc_at arcs k)).to ≡ (link_of d m (arc_at arcs k)).from))
    (seed_starts : start seed ≡ amount)
    (others : (x : ℕ) → x ≢ seed → start x ≡ 0)
    (f : IsFlow (λ k. link_of d m (arc_at arcs k)) keys start points looks amounts ranks parents)
  where
    closed_list : (h : ℕ → ℕ) → IsClosed h (links_of d m arcs) → IsClosedBy (λ k. link_of d m (arc_at arcs k)) keys h
    closed_list h closed y j within =
        let k = known y j within in
        subst (λ l. MeetsLink h l) (links_at d m arcs (get_or (keys y) j 0) k.0) (closed (get_or (keys y) j 0) no_link (omega (arith, k.0, links_len d m arcs)))

    starts_below : (h : ℕ → ℕ) → amount ≤ h seed → (x : ℕ) → start x ≤ h x
    starts_below h enough x =
        elim (same_or x seed) [
          | inl e ↦ (let a : start x ≡ start seed = ap start e in let b : h x ≡ h seed = ap h e in omega (arith, a, b, enough, seed_starts))
          | inr ne ↦ (let a = others x ne in omega (arith, a))
        ]

    least_all : (h : ℕ → ℕ) → IsClosed h (links_of d m arcs) → amount ≤ h seed → (x : ℕ) → get_or amounts x 0 ≤ h x
    least_all h closed enough x = f.flowing.least h (closed_list h closed) (starts_below h enough) x

    most : (x : ℕ) → get_or amounts x 0 ≤ amount
    most x = least_all (λ _. amount) (λ k e within. omega arith) (omega arith) x

    source_is : (x k : ℕ) → IsSource (λ k. link_of d m (arc_at arcs k)) keys (λ x. get_or amounts x 0) (λ x. get_or ranks x 0) x k → IsParent (links_of d m arcs) (λ x. get_or amounts x 0) (λ x. get_or ranks x 0) x k
    source_is x k s =
        let key : get_or (keys (link_of d m (arc_at arcs k)).to) s.place 0 < length arcs = (known (link_of d m (arc_at arcs k)).to s.place s.within).0 in
        let within : k < length arcs = omega (arith, key, s.listed) in
        let e = links_at d m arcs k within in
        record {
          within = omega (arith, within, links_len d m arcs);
          begins = ap (λ (l : Link). l.from) e ∙ s.begins;
          settled = subst (λ (l : Link). 0 < get_or ranks l.to 0) (sym e) s.settled;
          amount = subst (λ (l : Link). get_or amounts x 0 + l.slack ≡ get_or amounts l.to 0) (sym e) s.amount;
          earlier = subst (λ (l : Link). 0 < get_or ranks x 0 → get_or ranks l.to 0 < get_or ranks x 0) (sym e) s.earlier;
        }

    pub flow_is_spread : IsSpread (links_of d m arcs) seed amount amounts ranks parents
    flow_is_spread = record {
      ranks_len = f.ranks_len ∙ sym f.amounts_len;
      parents_len = f.parents_len ∙ sym f.amounts_len;
      spreading = record {
        seeded = (let a = most seed in let b = f.flowing.started seed in omega (arith, a, b, seed_starts));
        first = λ zero_rank x ne. (let a = f.ended seed zero_rank in let b = f.flowing.started seed in let c = most x in omega (arith, a, b, c, seed_starts));
        order = f.flowing.order;
        positive = f.flowing.positive;
        closed = λ k within done _.
            (let inside : k < length arcs = omega (arith, within, links_len d m arcs) in
            let e = links_at d m arcs k inside in
            let done' : 0 < get_or ranks (link_of d m (arc_at arcs k)).to 0 = subst (λ (l : Link). 0 < get_or ranks l.to 0) e done in
            subst (λ l. MeetsLink (λ x. get_or amounts x 0) l) (sym e)
            (elim (complete k inside) [
              | inl c ↦
                  let met = f.flowing.closed (link_of d m (arc_at arcs k)).to c.0 done' c.1 (λ same. subst (λ y. c.0 < length (keys y)) same c.1) in
                  subst (λ j. MeetsLink (λ x. get_or amounts x 0) (link_of d m (arc_at arcs j))) c.2 met
              | inr loop ↦ (let a : get_or amounts (link_of d m (arc_at arcs k)).to 0 ≡ get_or amounts (link_of d m (arc_at arcs k)).from 0 = ap (λ z. get_or amounts z 0) loop in omega (arith, a))
            ]));
        least = least_all;
        parents = λ x ne some.
            elim (f.flowing.parents x some) [
              | inl root ↦ (let a = others x ne in absurd (omega (arith, a, root, some)))
              | inr source ↦ source_is x (get_or parents x 0) source
            ];
      };
      ended = f.ended;
    }

link_loop : (d : Direction) (m : ℕ → ℕ) → (link_of d m no_arc).to ≡ (link_of d m no_arc).from
link_loop Up m = refl
link_loop Down m = refl

-- each key in a list is one of an arc that ends there
pub halves_known : (d : Direction) (m : ℕ → ℕ) (s : Store) → AreHalves d s.nodes.slots (lists_of d s)
    → (y j : ℕ) → j < length (keys_of d s y) → (get_or (keys_of d s y) j 0 < length (arcs_of s.nodes.slots)) × ((link_of d m (arc_at (arcs_of s.nodes.slots) (get_or (keys_of d s y) j 0))).to ≡ y)
halves_known d m s t y j within =
    let hs = halves_at (lists_of d s) y in
    let h = half_at hs j in
    let a = along_is d s.nodes.slots y j h (t.stand y j (omega (arith, within, keys_len hs))) in
    subst (λ k. (k < length (arcs_of s.nodes.slots)) × ((link_of d m (arc_at (arcs_of s.nodes.slots) k)).to ≡ y)) (sym (key_at hs j))
    (a.0, ap (λ e. (link_of d m e).to) (sym a.1) ∙ along_to d m y h)

halves_node : (d : Direction) (m : ℕ → ℕ) (s : Store) → AreHalves d s.nodes.slots (lists_of d s) → (k : ℕ) (o : Option Node) → slice_index_or s.nodes.slots k None ≡ o
    → ((j : ℕ) × (j < length (keys_of d s (link_of d m (arc_at (arcs_of s.nodes.slots) k)).to)) × (get_or (keys_of d s (link_of d m (arc_at (arcs_of s.nodes.slots) k)).to) j 0 ≡ k)) ⊎ ((link_of d m (arc_at (arcs_of s.nodes.slots) k)).to ≡ (link_of d m (arc_at (arcs_of s.nodes.slots) k)).from)
halves_node d m s t k None is = inr (subst (λ a. (link_of d m a).to ≡ (link_of d m a).from) (sym (arc_free s.nodes.slots k is)) (link_loop d m))
halves_node d m s t k (Some n) is =
    let c = t.complete k n is in
    let hs = halves_at (lists_of d s) (near d n.arc) in
    inl (subst (λ y. (j : ℕ) × (j < length (keys_of d s y)) × (get_or (keys_of d s y) j 0 ≡ k))
    (sym (link_near d m n.arc) ∙ ap (λ a. (link_of d m a).to) (sym (arc_is s.nodes.slots k n is).1))
    (place_of d n, omega (arith, c.0, keys_len hs), key_at hs (place_of d n) ∙ c.1))

-- each arc stands in the list of its end, or is none
pub halves_complete : (d : Direction) (m : ℕ → ℕ) (s : Store) → AreHalves d s.nodes.slots (lists_of d s) → (k : ℕ) → k < length (arcs_of s.nodes.slots)
    → ((j : ℕ) × (j < length (keys_of d s (link_of d m (arc_at (arcs_of s.nodes.slots) k)).to)) × (get_or (keys_of d s (link_of d m (arc_at (arcs_of s.nodes.slots) k)).to) j 0 ≡ k)) ⊎ ((link_of d m (arc_at (arcs_of s.nodes.slots) k)).to ≡ (link_of d m (arc_at (arcs_of s.nodes.slots) k)).from)
halves_complete d m s t k within = halves_node d m s t k (slice_index_or s.nodes.slots k None) refl

-- a point has something by an edge that is there
pub parents_there : (d : Direction) (m : ℕ → ℕ) (s : Store) (start : ℕ → ℕ) (points looks seed : ℕ) (amounts ranks parents : List ℕ) → AreHalves d s.nodes.slots (lists_of d s)
    → ((x : ℕ) → x ≢ seed → start x ≡ 0)
    → IsFlow (λ k. link_of d m (arc_at (arcs_of s.nodes.slots) k)) (keys_of d s) start points looks amounts ranks parents
    → (x : ℕ) → x ≢ seed → 0 < get_or amounts x 0 → HasNode s.nodes.slots (get_or parents x 0)
parents_there d m s start points looks seed amounts ranks parents t others f x ne some =
    elim (f.flowing.parents x some) [
      | inl root ↦ (let a = others x ne in absurd (omega (arith, a, root, some)))
      | inr source ↦
          let y = (link_of d m (arc_at (arcs_of s.nodes.slots) (get_or parents x 0))).to in
          let hs = halves_at (lists_of d s) y in
          let h = stands _ _ _ _ _ (t.stand y source.place (let l = source.within in omega (arith, l, keys_len hs))) in
          (h.node, ap (λ k. slice_index_or s.nodes.slots k None) (sym source.listed ∙ key_at hs source.place) ∙ h.here)
    ]

-- a flow from several points, where each edge stands in a list
module _ (d : Direction) (m : ℕ → ℕ) (arcs : List Arc) (keys : ℕ → List ℕ) (start : ℕ → ℕ) (points looks : ℕ) (amounts ranks parents : List ℕ)
    (known : (y j : ℕ) → j < length (keys y) → (get_or (keys y) j 0 < length arcs) × ((link_of d m (arc_at arcs (get_or (keys y) j 0))).to ≡ y))
    (complete : (k : ℕ) → k < length arcs → ((j : ℕ) × (j < length (keys (link_of d m (arc_at arcs k)).to)) × (get_or (keys (link_of d m (arc_at arcs k)).to) j 0 ≡ k)) ⊎ ((link_of d m (arc_at arcs k)).to ≡ (link_of d m (arc_at arcs k)).from))
    (f : IsFlow (λ k. link_of d m (arc_at arcs k)) keys start points looks amounts ranks parents)
  where
    pub flow_closed : (k : ℕ) → k < length arcs → MeetsLink (λ x. get_or amounts x 0) (link_of d m (arc_at arcs k))
    flow_closed k inside =
        elim (below_or 0 (get_or ranks (link_of d m (arc_at arcs k)).to 0)) [
          | inl done ↦
              (elim (complete k inside) [
                | inl c ↦
                    (let met = f.flowing.closed (link_of d m (arc_at arcs k)).to c.0 done c.1 (λ same. subst (λ y. c.0 < length (keys y)) same c.1) in
                    subst (λ j. MeetsLink (λ x. get_or amounts x 0) (link_of d m (arc_at arcs j))) c.2 met)
                | inr loop ↦ (let a : get_or amounts (link_of d m (arc_at arcs k)).to 0 ≡ get_or amounts (link_of d m (arc_at arcs k)).from 0 = ap (λ z. get_or amounts z 0) loop in omega (arith, a))
              ])
          | inr none ↦ (let z = f.ended (link_of d m (arc_at arcs k)).to (omega (arith, none)) in omega (arith, z))
        ]

    pub flow_least : (h : ℕ → ℕ) → ((k : ℕ) → k < length arcs → MeetsLink h (link_of d m (arc_at arcs k))) → ((x : ℕ) → start x ≤ h x) → (x : ℕ) → get_or amounts x 0 ≤ h x
    flow_least h closed starts x = f.flowing.least h (λ y j within. (let k = known y j within in closed (get_or (keys y) j 0) k.0)) starts x
