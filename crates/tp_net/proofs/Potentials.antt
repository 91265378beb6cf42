-- Moments and what is added to them, or taken from them, so that a new arc is met.
use Rattle.std.proofs.Common.{◌≡◌, ℕ, ◌+◌, ◌-◌, ◌<◌, ◌≤◌, List, length, refl, ap, subst, inl, inr, ◌⊎◌, arith}
use Rattle.std.specs.Prelude.{All, ℤ, pos, negsuc, ◌+ℤ◌, ◌-ℤ◌, ◌≤ℤ◌}
use Rattle.std.proofs.lemmas.Int.{ints}
use Rattle.std.proofs.lemmas.List.{get_or_default}
use Rattle.tp_net.specs.declared.slacks.Arc.{Arc}
use Rattle.tp_net.specs.declared.spread.Link.{Link}
use Rattle.tp_net.specs.Links.{MeetsLink, IsClosed, link_at, no_link}
use Rattle.tp_net.specs.Slacks.{AreUpLinks, AreDownLinks, IsGap, JoinsPoints}
use Rattle.tp_net.specs.Graph.{MeetsArc, IsSolution, arc_at, no_arc}
use Rattle.tp_net.proofs.Spreads.{below_or}

-- an integer, or 0 where it is below
abbrev pub nat_of : ℤ → ℕ
nat_of (pos n) = n
nat_of (negsuc n) = 0

pub nat_of_is : (z : ℤ) → pos 0 ≤ℤ z → pos (nat_of z) ≡ z
nat_of_is (pos n) h = refl
nat_of_is (negsuc n) h = absurd (omega (arith, ints))

pub nat_of_diff : (a : ℤ) (b : ℕ) → pos b ≤ℤ a → pos (b + nat_of (a -ℤ pos b)) ≡ a
nat_of_diff a b h = let e : pos (nat_of (a -ℤ pos b)) ≡ (a -ℤ pos b) = nat_of_is (a -ℤ pos b) (omega (arith, ints)) in omega (arith, ints)

pub nat_of_less : (a : ℕ) (b : ℤ) → b ≤ℤ pos a → pos a ≡ b +ℤ pos (nat_of (pos a -ℤ b))
nat_of_less a b h = let e : pos (nat_of (pos a -ℤ b)) ≡ (pos a -ℤ b) = nat_of_is (pos a -ℤ b) (omega (arith, ints)) in omega (arith, ints)

-- the least moments rise
module _ (points : ℕ) (arcs : List Arc) (links : List Link) (new : Arc) (amount : ℕ) (low g : ℕ → ℕ)
    (among : All (JoinsPoints points) arcs)
    (new_among : JoinsPoints points new)
    (up : AreUpLinks low arcs links)
    (gap : IsGap (low new.from) (low new.to) new.weight amount)
    (closed : IsClosed g links)
    (seeded : g new.from ≡ amount)
    (least : (h : ℕ → ℕ) → IsClosed h links → amount ≤ h new.from → (x : ℕ) → g x ≤ h x)
    (old_least : (t : ℕ → ℤ) → IsSolution arcs t → (x : ℕ) → x < points → pos (low x) ≤ℤ t x)
  where
    pub raised_meets : All (MeetsArc (λ x. pos (low x + g x))) arcs
    raised_meets k d within =
        subst (λ e. MeetsArc (λ x. pos (low x + g x)) e) (get_or_default arcs k no_arc d within)
        (let l = up.each k within in
        let c : g (link_at links k).to ≤ g (link_at links k).from + (link_at links k).slack = closed k no_link (omega (arith, up.len)) in
        let a : g (link_at links k).to ≡ g (arc_at arcs k).to = ap g l.ends in
        let b : g (link_at links k).from ≡ g (arc_at arcs k).from = ap g l.begins in
        let s = l.slack in
        omega (arith, ints, c, a, b, s))

    pub raised_new : g new.to ≡ 0 → MeetsArc (λ x. pos (low x + g x)) new
    raised_new quiet = let e = gap.enough in omega (arith, ints, e, seeded, quiet)

    above : (t : ℕ → ℤ) → IsSolution arcs t → (x : ℕ) → x < points → pos (low x + nat_of (t x -ℤ pos (low x))) ≡ t x
    above t s x within = nat_of_diff (t x) (low x) (old_least t s x within)

    above_closed : (t : ℕ → ℤ) → IsSolution arcs t → IsClosed (λ x. nat_of (t x -ℤ pos (low x))) links
    above_closed t s k d within =
        subst (λ l. MeetsLink (λ x. nat_of (t x -ℤ pos (low x))) l) (get_or_default links k no_link d within)
        (let inside : k < length arcs = omega (arith, up.len) in
        let l = up.each k inside in
        let j = among k no_arc inside in
        let h : ℕ → ℕ = λ x. nat_of (t x -ℤ pos (low x)) in
        let m : t (arc_at arcs k).to ≤ℤ (t (arc_at arcs k).from +ℤ (arc_at arcs k).weight) = s.1 k no_arc inside in
        let a : h (link_at links k).to ≡ h (arc_at arcs k).to = ap h l.ends in
        let b : h (link_at links k).from ≡ h (arc_at arcs k).from = ap h l.begins in
        let p = above t s (arc_at arcs k).to j.1 in
        let q = above t s (arc_at arcs k).from j.0 in
        let r = l.slack in
        omega (arith, ints, m, a, b, p, q, r))

    -- the new moments are below those of each schedule that meets the new arc
    pub raised_least : (t : ℕ → ℤ) → IsSolution arcs t → MeetsArc t new → (x : ℕ) → x < points → pos (low x + g x) ≤ℤ t x
    raised_least t s met x within =
        let h : ℕ → ℕ = λ y. nat_of (t y -ℤ pos (low y)) in
        let p = above t s new.from new_among.0 in
        let q = above t s new.to new_among.1 in
        let enough : amount ≤ nat_of (t new.from -ℤ pos (low new.from)) =
        elim (below_or 0 amount) [
          | inl some ↦ (let e = gap.exact some in omega (arith, ints, e, p, q, met))
          | inr none ↦ omega arith
        ] in
        let below : g x ≤ nat_of (t x -ℤ pos (low x)) = least h (above_closed t s) enough x in
        let r = above t s x within in
        omega (arith, ints, below, r)

    -- the origin stays
    pub raised_origin : 0 < points → low 0 ≡ 0 → g new.to ≡ 0 → g 0 ≡ 0
    raised_origin some origin quiet =
        let t : ℕ → ℤ = λ x. pos (low x + g x) -ℤ pos (g 0) in
        let meets : All (MeetsArc t) arcs = λ k d within. (let m = raised_meets k d within in omega (arith, ints, m)) in
        let s : IsSolution arcs t = (omega (arith, ints, origin), meets) in
        let met : MeetsArc t new = (let m = raised_new quiet in omega (arith, ints, m)) in
        let below : pos (low 0 + g 0) ≤ℤ (pos (low 0 + g 0) -ℤ pos (g 0)) = raised_least t s met 0 some in
        omega (arith, ints, below)

-- the greatest moments fall
module _ (points : ℕ) (arcs : List Arc) (links : List Link) (new : Arc) (amount : ℕ) (high g : ℕ → ℕ)
    (among : All (JoinsPoints points) arcs)
    (new_among : JoinsPoints points new)
    (down : AreDownLinks high arcs links)
    (gap : IsGap (high new.from) (high new.to) new.weight amount)
    (closed : IsClosed g links)
    (seeded : g new.to ≡ amount)
    (least : (h : ℕ → ℕ) → IsClosed h links → amount ≤ h new.to → (x : ℕ) → g x ≤ h x)
    (old_greatest : (t : ℕ → ℤ) → IsSolution arcs t → (x : ℕ) → x < points → t x ≤ℤ pos (high x))
  where
    below : (t : ℕ → ℤ) → IsSolution arcs t → (x : ℕ) → x < points → pos (high x) ≡ t x +ℤ pos (nat_of (pos (high x) -ℤ t x))
    below t s x within = nat_of_less (high x) (t x) (old_greatest t s x within)

    below_closed : (t : ℕ → ℤ) → IsSolution arcs t → IsClosed (λ x. nat_of (pos (high x) -ℤ t x) - nat_of (pos (high new.from) -ℤ t new.from)) links
    below_closed t s k d within =
        subst (λ l. MeetsLink (λ x. nat_of (pos (high x) -ℤ t x) - nat_of (pos (high new.from) -ℤ t new.from)) l) (get_or_default links k no_link d within)
        (let inside : k < length arcs = omega (arith, down.len) in
        let l = down.each k inside in
        let j = among k no_arc inside in
        let h : ℕ → ℕ = λ x. nat_of (pos (high x) -ℤ t x) in
        let m : t (arc_at arcs k).to ≤ℤ (t (arc_at arcs k).from +ℤ (arc_at arcs k).weight) = s.1 k no_arc inside in
        let a : h (link_at links k).to ≡ h (arc_at arcs k).from = ap h l.ends in
        let b : h (link_at links k).from ≡ h (arc_at arcs k).to = ap h l.begins in
        let p = below t s (arc_at arcs k).to j.1 in
        let q = below t s (arc_at arcs k).from j.0 in
        let r = l.slack in
        omega (arith, ints, m, a, b, p, q, r))

    -- no more than each schedule that meets the new arc lies below, and nothing at the new arc's beginning
    pub lowered_within : (t : ℕ → ℤ) → IsSolution arcs t → MeetsArc t new → (x : ℕ) → g x + nat_of (pos (high new.from) -ℤ t new.from) ≤ nat_of (pos (high x) -ℤ t x) ⊎ (g x ≡ 0)
    lowered_within t s met x =
        let h : ℕ → ℕ = λ y. nat_of (pos (high y) -ℤ t y) - nat_of (pos (high new.from) -ℤ t new.from) in
        let p = below t s new.from new_among.0 in
        let q = below t s new.to new_among.1 in
        let enough : amount ≤ nat_of (pos (high new.to) -ℤ t new.to) - nat_of (pos (high new.from) -ℤ t new.from) =
        elim (below_or 0 amount) [
          | inl some ↦ (let e = gap.exact some in omega (arith, ints, e, p, q, met))
          | inr none ↦ omega arith
        ] in
        let most : g x ≤ nat_of (pos (high x) -ℤ t x) - nat_of (pos (high new.from) -ℤ t new.from) = least h (below_closed t s) enough x in
        elim (below_or 0 (g x)) [ inl some ↦ inl (omega arith) | inr none ↦ inr (omega arith) ]

    pub lowered_quiet : (t : ℕ → ℤ) → IsSolution arcs t → MeetsArc t new → g new.from ≡ 0
    lowered_quiet t s met = elim (lowered_within t s met new.from) [ inl less ↦ omega arith | inr none ↦ none ]

    -- the new moments are above those of each schedule that meets the new arc
    pub lowered_greatest : (t : ℕ → ℤ) → IsSolution arcs t → MeetsArc t new → (x : ℕ) → x < points → (t x +ℤ pos (g x)) ≤ℤ pos (high x)
    lowered_greatest t s met x within =
        let p = below t s x within in
        elim (lowered_within t s met x) [ inl less ↦ omega (arith, ints, p, less) | inr none ↦ omega (arith, ints, p, none) ]

    pub lowered_meets : ((x : ℕ) → x < points → g x ≤ high x) → All (MeetsArc (λ x. pos (high x - g x))) arcs
    lowered_meets fits k d within =
        subst (λ e. MeetsArc (λ x. pos (high x - g x)) e) (get_or_default arcs k no_arc d within)
        (let l = down.each k within in
        let j = among k no_arc within in
        let c : g (link_at links k).to ≤ g (link_at links k).from + (link_at links k).slack = closed k no_link (omega (arith, down.len)) in
        let a : g (link_at links k).to ≡ g (arc_at arcs k).from = ap g l.ends in
        let b : g (link_at links k).from ≡ g (arc_at arcs k).to = ap g l.begins in
        let s = l.slack in
        let p = fits (arc_at arcs k).to j.1 in
        let q = fits (arc_at arcs k).from j.0 in
        omega (arith, ints, c, a, b, s, p, q))

    pub lowered_new : g new.from ≡ 0 → g new.to ≤ high new.to → MeetsArc (λ x. pos (high x - g x)) new
    lowered_new quiet fits = let e = gap.enough in omega (arith, ints, e, seeded, quiet, fits)
