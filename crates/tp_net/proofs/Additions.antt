-- The least and the greatest moments with one more arc, or the negative cycle that it closes.
use Rattle.std.proofs.Common.{◌≡◌, ◌≢◌, ℕ, ◌+◌, ◌-◌, ◌<◌, ◌≤◌, ◌^◌, List, [], ◌∷◌, ◌++◌, length, refl, sym, ◌∙◌, ap, subst, inl, inr, arith, get_or, suc, zero, length-append}
use Rattle.std.specs.Prelude.{All, AllPairs, Some, ℤ, pos, ◌+ℤ◌, ◌≤ℤ◌}
use Rattle.std.proofs.lemmas.Int.{ints}
use Rattle.std.proofs.lemmas.List.{get_or_default, get_or_append_left}
use Rattle.std.proofs.Math.Seq.{get_or-append_seam}
use Rattle.std.proofs.lemmas.List.Elements.{All-push, All-pop, All-nil, All-cons}
use Rattle.std.proofs.lemmas.List.Sums.{sum_by-cons}
use Rattle.tp_net.specs.declared.slacks.Arc.{Arc}
use Rattle.tp_net.specs.declared.spread.Link.{Link}
use Rattle.tp_net.specs.Links.{IsSpread, IsTrace, IsLinkChain, slack_of, link_at}
use Rattle.tp_net.specs.Slacks.{AreUpLinks, AreDownLinks, IsGap, JoinsPoints}
use Rattle.tp_net.specs.Sizes.{IsSmall, IsSmallWeight}
use Rattle.tp_net.specs.Graph.{MeetsArc, IsSolution, IsLeast, IsGreatest, IsChain, weight_of, arc_at, no_arc, moment}
use Rattle.tp_net.specs.Moments.{CycleBeginsWith}
use Rattle.tp_net.proofs.Spreads.{below_or, closed_all}
use Rattle.tp_net.proofs.Potentials.{raised_meets, raised_new, raised_least, raised_origin, lowered_meets, lowered_new, lowered_quiet, lowered_greatest}

-- a solution with one more arc
pub with_new : (arcs : List Arc) (new : Arc) (t : ℕ → ℤ) → IsSolution arcs t → MeetsArc t new → IsSolution (arcs ++ new ∷ []) t
with_new arcs new t s met = (s.0, All-push (MeetsArc t) arcs new s.1 met)

pub without_new : (arcs : List Arc) (new : Arc) (t : ℕ → ℤ) → IsSolution (arcs ++ new ∷ []) t → IsSolution arcs t × MeetsArc t new
without_new arcs new t s = let h = All-pop (MeetsArc t) (arcs ++ new ∷ []) arcs (Some new) refl s.1 in ((s.0, h.0), h.1)

pub meets_same : (f g : ℕ → ℤ) (e : Arc) → f e.from ≡ g e.from → f e.to ≡ g e.to → MeetsArc f e → MeetsArc g e
meets_same f g e a b m = omega (arith, ints, a, b, m)

-- no point gets more than the amount
pub at_most_amount : (links : List Link) (seed amount : ℕ) (amounts ranks parents : List ℕ) → IsSpread links seed amount amounts ranks parents → (x : ℕ) → get_or amounts x 0 ≤ amount
at_most_amount links seed amount amounts ranks parents s x = s.spreading.least (λ _. amount) (λ k d within. omega arith) (omega arith) x

pub sum_fits : (links : List Link) (seed amount : ℕ) (low amounts ranks parents : List ℕ) (new : Arc) → IsSpread links seed amount amounts ranks parents
    → All IsSmall low → IsSmallWeight new.weight → JoinsPoints (length low) new → IsGap (get_or low new.from 0) (get_or low new.to 0) new.weight amount
    → (x : ℕ) → x < length low → get_or low x 0 + get_or amounts x 0 < 2 ^ 64
sum_fits links seed amount low amounts ranks parents new s small weight among gap x within =
    let a = at_most_amount links seed amount amounts ranks parents s x in
    let b = small x 0 within in
    let c = small new.to 0 among.1 in
    elim (below_or 0 amount) [
      | inl some ↦ (let e = gap.exact some in omega (arith, ints, a, b, c, e, weight.0, weight.1))
      | inr none ↦ omega (arith, a, b)
    ]

pub raise_consistent : (arcs : List Arc) (links : List Link) (new : Arc) (amount : ℕ) (low amounts ranks parents low' : List ℕ)
    → 0 < length low
    → All (JoinsPoints (length low)) arcs
    → JoinsPoints (length low) new
    → AreUpLinks (λ x. get_or low x 0) arcs links
    → IsGap (get_or low new.from 0) (get_or low new.to 0) new.weight amount
    → IsSpread links new.from amount amounts ranks parents
    → IsLeast arcs low
    → get_or amounts new.to 0 ≡ 0
    → length low' ≡ length low
    → ((x : ℕ) → x < length low → get_or low' x 0 ≡ get_or low x 0 + get_or amounts x 0)
    → IsLeast (arcs ++ new ∷ []) low'
raise_consistent arcs links new amount low amounts ranks parents low' some among new_among up gap s old quiet len each =
    let n = length low in
    let f : ℕ → ℕ = λ x. get_or low x 0 in
    let g : ℕ → ℕ = λ x. get_or amounts x 0 in
    let closed = closed_all links new.from amount amounts ranks parents s in
    let origin_low : get_or low 0 0 ≡ 0 = (let o = old.solution.0 in omega (arith, ints, o)) in
    let still = raised_origin n arcs links new amount f g among new_among up gap closed s.spreading.seeded s.spreading.least old.least some origin_low quiet in
    let met = raised_meets n arcs links new amount f g among new_among up gap closed s.spreading.seeded s.spreading.least old.least in
    let met_new = raised_new n arcs links new amount f g among new_among up gap closed s.spreading.seeded s.spreading.least old.least quiet in
    let same : (x : ℕ) → x < n → pos (get_or low x 0 + get_or amounts x 0) ≡ moment low' x = λ x within. ap pos (sym (each x within)) in
    record {
      solution = (
        ap pos (each 0 some ∙ omega (arith, origin_low, still)),
        All-push (MeetsArc (moment low')) arcs new
            (λ k d within. meets_same (λ x. pos (get_or low x 0 + get_or amounts x 0)) (moment low') (get_or arcs k d) (same _ (among k d within).0) (same _ (among k d within).1) (met k d within))
            (meets_same (λ x. pos (get_or low x 0 + get_or amounts x 0)) (moment low') new (same _ new_among.0) (same _ new_among.1) met_new),
      );
      least = λ t sched x within.
          let parts = without_new arcs new t sched in
          let inside : x < n = omega arith in
          let h = raised_least n arcs links new amount f g among new_among up gap closed s.spreading.seeded s.spreading.least old.least t parts.0 parts.1 x inside in
          subst (λ z. z ≤ℤ t x) (same x inside) h;
    }

-- the arcs behind the links of a chain lead the same way
pub arcs_chain : (arcs : List Arc) (links : List Link) (low : ℕ → ℕ) (new : Arc) → AreUpLinks low arcs links → (a b : ℕ) (ks : List ℕ) → IsLinkChain links a b ks → IsChain (arcs ++ new ∷ []) a b ks
arcs_chain arcs links low new up a b [] chain = chain
arcs_chain arcs links low new up a b (k ∷ ks) chain =
    let inside : k < length arcs = omega (arith, up.len, chain.0) in
    let e : arc_at (arcs ++ new ∷ []) k ≡ arc_at arcs k = get_or_append_left arcs (new ∷ []) no_arc k inside in
    let l = up.each k inside in
    let ends : (link_at links k).to ≡ (arc_at (arcs ++ new ∷ []) k).to = l.ends ∙ sym (ap (λ (x : Arc). x.to) e) in (
      omega (arith, inside, length-append arcs (new ∷ [])),
      ap (λ (x : Arc). x.from) e ∙ (sym l.begins ∙ chain.1),
      subst (λ z. IsChain (arcs ++ new ∷ []) z b ks) ends (arcs_chain arcs links low new up (link_at links k).to b ks chain.2),
    )

-- their weights add up to the rise, with the slack
pub chain_weight : (arcs : List Arc) (links : List Link) (low : ℕ → ℕ) (new : Arc) → AreUpLinks low arcs links → (a b : ℕ) (ks : List ℕ) → IsLinkChain links a b ks
    → pos (low b + slack_of links ks) ≡ pos (low a) +ℤ weight_of (arcs ++ new ∷ []) ks
chain_weight arcs links low new up a b [] chain = let e : low a ≡ low b = ap low chain in omega (arith, ints, e)
chain_weight arcs links low new up a b (k ∷ ks) chain =
    let inside : k < length arcs = omega (arith, up.len, chain.0) in
    let e : arc_at (arcs ++ new ∷ []) k ≡ arc_at arcs k = get_or_append_left arcs (new ∷ []) no_arc k inside in
    let l = up.each k inside in
    let rest = chain_weight arcs links low new up (link_at links k).to b ks chain.2 in
    let total : slack_of links (k ∷ ks) ≡ (link_at links k).slack + slack_of links ks = sum_by-cons (λ j. (link_at links j).slack) k ks in
    let w : (arc_at (arcs ++ new ∷ []) k).weight ≡ (arc_at arcs k).weight = ap (λ (x : Arc). x.weight) e in
    let f : low (arc_at arcs k).to ≡ low (link_at links k).to = ap low (sym l.ends) in
    let g : low (arc_at arcs k).from ≡ low a = ap low (sym l.begins ∙ chain.1) in
    let s = l.slack in
    omega (arith, ints, rest, total, w, f, g, s)

pub all_pairs_cons : (R : ℕ → ℕ → Type 0) (x : ℕ) (xs : List ℕ) → All (R x) xs → AllPairs R xs → AllPairs R (x ∷ xs)
all_pairs_cons R x xs first rest i zero d below within = absurd (omega (arith, below))
all_pairs_cons R x xs first rest zero (suc j) d below within = first j d (omega (arith, within))
all_pairs_cons R x xs first rest (suc i) (suc j) d below within = rest i j d (omega (arith, below)) (omega (arith, within))

pub chain_within : (arcs : List Arc) (links : List Link) (low : ℕ → ℕ) → AreUpLinks low arcs links → (a b : ℕ) (ks : List ℕ) → IsLinkChain links a b ks → All (λ k. k < length arcs) ks
chain_within arcs links low up a b [] chain = All-nil (λ k. k < length arcs)
chain_within arcs links low up a b (k ∷ ks) chain = All-cons (λ k. k < length arcs) k ks (omega (arith, up.len, chain.0)) (chain_within arcs links low up (link_at links k).to b ks chain.2)

module _ (arcs : List Arc) (links : List Link) (new : Arc) (amount left : ℕ) (low : ℕ → ℕ) (path : List ℕ)
    (up : AreUpLinks low arcs links)
    (gap : IsGap (low new.from) (low new.to) new.weight amount)
    (some : 0 < left)
    (t : IsTrace links new.to new.from amount left path)
  where
    new_is : arc_at (arcs ++ new ∷ []) (length arcs) ≡ new
    new_is = get_or-append_seam arcs new [] no_arc

    pub raise_negative_cycle : CycleBeginsWith (arcs ++ new ∷ []) (length arcs) (length arcs ∷ path)
    raise_negative_cycle =
        let begins : (arc_at (arcs ++ new ∷ []) (length arcs)).from ≡ new.from = ap (λ (x : Arc). x.from) new_is in
        let ends : (arc_at (arcs ++ new ∷ []) (length arcs)).to ≡ new.to = ap (λ (x : Arc). x.to) new_is in
        let weight : (arc_at (arcs ++ new ∷ []) (length arcs)).weight ≡ new.weight = ap (λ (x : Arc). x.weight) new_is in
        let w = chain_weight arcs links low new up new.to new.from path t.chain in
        let total = t.total in
        let exact : pos (low new.to) ≡ pos (low new.from + amount) +ℤ new.weight = gap.exact (omega (arith, some, total)) in
        let from_same : (k : ℕ) → k < length arcs → (link_at links k).from ≡ (arc_at (arcs ++ new ∷ []) k).from =
        λ k inside. (up.each k inside).begins ∙ sym (ap (λ (x : Arc). x.from) (get_or_append_left arcs (new ∷ []) no_arc k inside)) in
        let inside : All (λ k. k < length arcs) path = chain_within arcs links low up new.to new.from path t.chain in
        record {
          negative = record {
            start = new.from;
            chain = (omega (arith, length-append arcs (new ∷ [])), begins, subst (λ z. IsChain (arcs ++ new ∷ []) z new.from path) (sym ends) (arcs_chain arcs links low new up new.to new.from path t.chain));
            simple = all_pairs_cons (λ j k. (arc_at (arcs ++ new ∷ []) j).from ≢ (arc_at (arcs ++ new ∷ []) k).from) (length arcs) path
                (λ j d within same. t.past j d within (from_same _ (inside j d within) ∙ (sym same ∙ begins)))
                (λ i j d below within same. t.simple i j d below within (from_same _ (inside i d (omega arith)) ∙ (same ∙ sym (from_same _ (inside j d within)))));
            below = omega (arith, ints, weight, w, total, exact, some);
          };
          rest = path;
          first_is = refl;
        }

pub read_at : (xs : List ℕ) (i v : ℕ) → i < length xs → v ≡ get_or xs i v → get_or xs i 0 ≡ v
read_at xs i v within e = sym (e ∙ get_or_default xs i v 0 within)

pub read_here : (xs : List ℕ) (p e v : ℕ) → p ≡ suc e → suc e < length xs → v ≡ get_or xs p v → get_or xs (suc e) 0 ≡ v
read_here xs p e v at within is = ap (λ i. get_or xs i 0) (sym at) ∙ read_at xs p v (omega (arith, at, within)) is

pub lower_stands : (arcs : List Arc) (links : List Link) (new : Arc) (amount : ℕ) (high amounts ranks parents high' : List ℕ)
    → 0 < length high
    → All (JoinsPoints (length high)) arcs
    → JoinsPoints (length high) new
    → AreDownLinks (λ x. get_or high x 0) arcs links
    → IsGap (get_or high new.from 0) (get_or high new.to 0) new.weight amount
    → IsSpread links new.to amount amounts ranks parents
    → IsGreatest arcs high
    → (known : ℕ → ℕ)
    → IsSolution (arcs ++ new ∷ []) (λ x. pos (known x))
    → length high' ≡ length high
    → ((x : ℕ) → x < length high → get_or high' x 0 ≡ get_or high x 0 - get_or amounts x 0)
    → IsGreatest (arcs ++ new ∷ []) high'
lower_stands arcs links new amount high amounts ranks parents high' some among new_among down gap s old known known_is len each =
    let n = length high in
    let f : ℕ → ℕ = λ x. get_or high x 0 in
    let g : ℕ → ℕ = λ x. get_or amounts x 0 in
    let t0 : ℕ → ℤ = λ x. pos (known x) in
    let closed = closed_all links new.to amount amounts ranks parents s in
    let parts0 = without_new arcs new t0 known_is in
    let origin_high : get_or high 0 0 ≡ 0 = (let o = old.solution.0 in omega (arith, ints, o)) in
    let quiet = lowered_quiet n arcs links new amount f g among new_among down gap closed s.spreading.seeded s.spreading.least old.greatest t0 parts0.0 parts0.1 in
    let below : (t : ℕ → ℤ) → IsSolution arcs t → MeetsArc t new → (x : ℕ) → x < n → (t x +ℤ pos (get_or amounts x 0)) ≤ℤ pos (get_or high x 0) =
    lowered_greatest n arcs links new amount f g among new_among down gap closed s.spreading.seeded s.spreading.least old.greatest in
    let fits : (x : ℕ) → x < n → get_or amounts x 0 ≤ get_or high x 0 = λ x within. (let h = below t0 parts0.0 parts0.1 x within in omega (arith, ints, h)) in
    let met = lowered_meets n arcs links new amount f g among new_among down gap closed s.spreading.seeded s.spreading.least old.greatest fits in
    let met_new = lowered_new n arcs links new amount f g among new_among down gap closed s.spreading.seeded s.spreading.least old.greatest quiet (fits new.to new_among.1) in
    let same : (x : ℕ) → x < n → pos (get_or high x 0 - get_or amounts x 0) ≡ moment high' x = λ x within. ap pos (sym (each x within)) in
    record {
      solution = (
        ap pos (each 0 some ∙ omega (arith, origin_high)),
        All-push (MeetsArc (moment high')) arcs new
            (λ k d within. meets_same (λ x. pos (get_or high x 0 - get_or amounts x 0)) (moment high') (get_or arcs k d) (same _ (among k d within).0) (same _ (among k d within).1) (met k d within))
            (meets_same (λ x. pos (get_or high x 0 - get_or amounts x 0)) (moment high') new (same _ new_among.0) (same _ new_among.1) met_new),
      );
      greatest = λ t sched x within.
          let parts = without_new arcs new t sched in
          let inside : x < n = omega arith in
          let h = below t parts.0 parts.1 x inside in
          let e = each x inside in
          omega (arith, ints, h, e);
    }

-- moments that meet one more arc already stay
pub least_stays : (arcs : List Arc) (new : Arc) (low : List ℕ) → MeetsArc (moment low) new → IsLeast arcs low → IsLeast (arcs ++ new ∷ []) low
least_stays arcs new low met l = record { solution = with_new arcs new (moment low) l.solution met; least = λ t s x within. l.least t (without_new arcs new t s).0 x within }

pub greatest_stays : (arcs : List Arc) (new : Arc) (high : List ℕ) → MeetsArc (moment high) new → IsGreatest arcs high → IsGreatest (arcs ++ new ∷ []) high
greatest_stays arcs new high met g = record { solution = with_new arcs new (moment high) g.solution met; greatest = λ t s x within. g.greatest t (without_new arcs new t s).0 x within }
