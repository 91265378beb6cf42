-- The least and the greatest moments, worked out anew from a solution that is known.
use Rattle.std.proofs.Common.{◌≡◌, ℕ, ◌+◌, ◌-◌, ◌<◌, ◌≤◌, List, length, refl, ◌∙◌, ap, subst, inl, inr, arith, get_or}
use Rattle.std.specs.Prelude.{All, ℤ, pos, negsuc, ◌+ℤ◌, ◌-ℤ◌, ◌≤ℤ◌}
use Rattle.std.proofs.lemmas.Int.{ints}
use Rattle.std.proofs.lemmas.List.{get_or_default}
use Rattle.tp_net.specs.declared.slacks.Arc.{Arc}
use Rattle.tp_net.specs.declared.spread.Link.{Link}
use Rattle.tp_net.specs.Links.{MeetsLink, IsClosed, link_at, no_link}
use Rattle.tp_net.specs.Slacks.{AreUpLinks, AreDownLinks, JoinsPoints}
use Rattle.tp_net.specs.Graph.{MeetsArc, IsSolution, arc_at, no_arc, moment}
use Rattle.tp_net.specs.Moments.{ReachOrigin, FromOrigin}
use Rattle.tp_net.proofs.Spreads.{same_or}
use Rattle.tp_net.proofs.Potentials.{nat_of, nat_of_is}

pub nat_of_some : (z : ℤ) → 0 < nat_of z → pos (nat_of z) ≡ z
nat_of_some (pos n) h = refl
nat_of_some (negsuc n) h = absurd (omega (arith, h))

pub nat_of_add : (y z : ℤ) (n : ℕ) → y ≤ℤ (z +ℤ pos n) → nat_of y ≤ nat_of z + n
nat_of_add (pos a) (pos b) n h = omega (arith, ints, h)
nat_of_add (pos a) (negsuc b) n h = omega (arith, ints, h)
nat_of_add (negsuc a) z n h = omega arith

-- the least moments, from any known solution: spread a large amount from the origin
module _ (arcs : List Arc) (links : List Link) (amount : ℕ) (known amounts low' : List ℕ)
    (some : 0 < length known)
    (among : All (JoinsPoints (length known)) arcs)
    (up : AreUpLinks (λ x. get_or known x 0) arcs links)
    (marks : ℕ → ℕ)
    (closed : IsClosed (λ x. get_or amounts x 0) links)
    (seeded : get_or amounts 0 0 ≡ amount)
    (at_most : (x : ℕ) → get_or amounts x 0 ≤ amount)
    (least : (h : ℕ → ℕ) → IsClosed h links → amount ≤ h 0 → ((x : ℕ) → x < length known → marks x ≡ 0 → amount ≤ h x) → (x : ℕ) → get_or amounts x 0 ≤ h x)
    (solution : IsSolution arcs (moment known))
    (reach : ReachOrigin arcs known amount)
    (positive : 0 < amount)
    (len : length low' ≡ length known)
    (each : (x : ℕ) → x < length known → get_or low' x 0 ≡ (get_or known x 0 + get_or amounts x 0) - amount)
  where
    -- no moment goes below 0
    stays_some : (x : ℕ) → 0 < x → x < length known → amount < get_or known x 0 + get_or amounts x 0 + 1
    stays_some x later within =
        let r = reach x later within in
        let l = up.each r.0 r.1 in
        let c : get_or amounts (link_at links r.0).to 0 ≤ get_or amounts (link_at links r.0).from 0 + (link_at links r.0).slack = closed r.0 no_link (omega (arith, up.len, r.1)) in
        let a : get_or amounts (link_at links r.0).to 0 ≡ get_or amounts 0 0 = ap (λ z. get_or amounts z 0) (l.ends ∙ r.3) in
        let b : get_or amounts (link_at links r.0).from 0 ≡ get_or amounts x 0 = ap (λ z. get_or amounts z 0) (l.begins ∙ r.2) in
        let d : get_or amounts 0 0 ≡ amount = seeded in
        let e : get_or known (arc_at arcs r.0).to 0 ≡ get_or known 0 0 = ap (λ z. get_or known z 0) r.3 in
        let f : get_or known (arc_at arcs r.0).from 0 ≡ get_or known x 0 = ap (λ z. get_or known z 0) r.2 in
        let o = solution.0 in
        let sl = l.slack in
        let neg = r.5 in
        omega (arith, ints, a, b, c, d, e, f, o, sl, neg)

    pub stays : (x : ℕ) → x < length known → amount < get_or known x 0 + get_or amounts x 0 + 1
    stays x within =
        elim (same_or x 0) [
          | inl same ↦ (let d : get_or amounts 0 0 ≡ amount = seeded in let e : get_or amounts x 0 ≡ get_or amounts 0 0 = ap (λ z. get_or amounts z 0) same in omega (arith, d, e))
          | inr ne ↦ stays_some x (omega (arith, ne)) within
        ]

    gets_more : (x : ℕ) → 0 < x → x < length known → 0 < get_or amounts x 0
    gets_more x later within =
        let r = reach x later within in
        let l = up.each r.0 r.1 in
        let c : get_or amounts (link_at links r.0).to 0 ≤ get_or amounts (link_at links r.0).from 0 + (link_at links r.0).slack = closed r.0 no_link (omega (arith, up.len, r.1)) in
        let a : get_or amounts (link_at links r.0).to 0 ≡ get_or amounts 0 0 = ap (λ z. get_or amounts z 0) (l.ends ∙ r.3) in
        let b : get_or amounts (link_at links r.0).from 0 ≡ get_or amounts x 0 = ap (λ z. get_or amounts z 0) (l.begins ∙ r.2) in
        let d : get_or amounts 0 0 ≡ amount = seeded in
        let e : get_or known (arc_at arcs r.0).to 0 ≡ get_or known 0 0 = ap (λ z. get_or known z 0) r.3 in
        let f : get_or known (arc_at arcs r.0).from 0 ≡ get_or known x 0 = ap (λ z. get_or known z 0) r.2 in
        let o = solution.0 in
        let sl = l.slack in
        let strict = r.4 in
        omega (arith, ints, a, b, c, d, e, f, o, sl, strict)

    gets_some : (x : ℕ) → x < length known → 0 < get_or amounts x 0
    gets_some x within =
        elim (same_or x 0) [
          | inl same ↦ (let d : get_or amounts 0 0 ≡ amount = seeded in let e : get_or amounts x 0 ≡ get_or amounts 0 0 = ap (λ z. get_or amounts z 0) same in omega (arith, d, e, positive))
          | inr ne ↦ gets_more x (omega (arith, ne)) within
        ]

    height : (t : ℕ → ℤ) → IsSolution arcs t → IsClosed (λ x. nat_of ((t x -ℤ pos (get_or known x 0)) +ℤ pos amount)) links
    height t sched k d within =
        subst (λ l. MeetsLink (λ x. nat_of ((t x -ℤ pos (get_or known x 0)) +ℤ pos amount)) l) (get_or_default links k no_link d within)
        (let inside : k < length arcs = omega (arith, up.len, within) in
        let l = up.each k inside in
        let h : ℕ → ℕ = λ x. nat_of ((t x -ℤ pos (get_or known x 0)) +ℤ pos amount) in
        let m : t (arc_at arcs k).to ≤ℤ (t (arc_at arcs k).from +ℤ (arc_at arcs k).weight) = sched.1 k no_arc inside in
        let a : h (link_at links k).to ≡ h (arc_at arcs k).to = ap h l.ends in
        let b : h (link_at links k).from ≡ h (arc_at arcs k).from = ap h l.begins in
        let r = l.slack in
        let mono = nat_of_add ((t (arc_at arcs k).to -ℤ pos (get_or known (arc_at arcs k).to 0)) +ℤ pos amount) ((t (arc_at arcs k).from -ℤ pos (get_or known (arc_at arcs k).from 0)) +ℤ pos amount) (link_at links k).slack
        (omega (arith, ints, m, r)) in
        omega (arith, a, b, mono))

    pub solved_low : IsSolution arcs (moment low')
    solved_low = (
      ap pos (each 0 some ∙ (let d : get_or amounts 0 0 ≡ amount = seeded in let o = solution.0 in omega (arith, ints, d, o))),
      λ k d within. subst (λ e. MeetsArc (moment low') e) (get_or_default arcs k no_arc d within)
          (let l = up.each k within in
          let j = among k no_arc within in
          let c : get_or amounts (link_at links k).to 0 ≤ get_or amounts (link_at links k).from 0 + (link_at links k).slack = closed k no_link (omega (arith, up.len, within)) in
          let a : get_or amounts (link_at links k).to 0 ≡ get_or amounts (arc_at arcs k).to 0 = ap (λ z. get_or amounts z 0) l.ends in
          let b : get_or amounts (link_at links k).from 0 ≡ get_or amounts (arc_at arcs k).from 0 = ap (λ z. get_or amounts z 0) l.begins in
          let p = each (arc_at arcs k).to j.1 in
          let q = each (arc_at arcs k).from j.0 in
          let u = stays (arc_at arcs k).to j.1 in
          let v = stays (arc_at arcs k).from j.0 in
          let sl = l.slack in
          omega (arith, ints, c, a, b, p, q, u, v, sl)),
    )

    -- no solution is below that has unmarked points where they were
    pub solved_least : (t : ℕ → ℤ) → IsSolution arcs t → ((x : ℕ) → x < length known → marks x ≡ 0 → moment known x ≤ℤ t x) → (x : ℕ) → x < length known → moment low' x ≤ℤ t x
    solved_least t sched stay x inside =
        let origin : amount ≤ nat_of ((t 0 -ℤ pos (get_or known 0 0)) +ℤ pos amount) =
        (let o = solution.0 in let z = sched.0 in let e : pos (nat_of ((t 0 -ℤ pos (get_or known 0 0)) +ℤ pos amount)) ≡ (t 0 -ℤ pos (get_or known 0 0)) +ℤ pos amount = nat_of_is _ (omega (arith, ints, o, z)) in omega (arith, ints, e, o, z)) in
        let open_points : (y : ℕ) → y < length known → marks y ≡ 0 → amount ≤ nat_of ((t y -ℤ pos (get_or known y 0)) +ℤ pos amount) = λ y within free.
        (let h = stay y within free in let e : pos (nat_of ((t y -ℤ pos (get_or known y 0)) +ℤ pos amount)) ≡ (t y -ℤ pos (get_or known y 0)) +ℤ pos amount = nat_of_is ((t y -ℤ pos (get_or known y 0)) +ℤ pos amount) (omega (arith, ints, h)) in omega (arith, ints, e, h)) in
        let most : get_or amounts x 0 ≤ nat_of ((t x -ℤ pos (get_or known x 0)) +ℤ pos amount) = least (λ y. nat_of ((t y -ℤ pos (get_or known y 0)) +ℤ pos amount)) (height t sched) origin open_points x in
        let exact = nat_of_some ((t x -ℤ pos (get_or known x 0)) +ℤ pos amount) (omega (arith, most, gets_some x inside)) in
        let p = each x inside in
        let u = stays x inside in
        omega (arith, ints, most, exact, p, u)

-- the greatest moments: the origin falls by a large amount
module _ (arcs : List Arc) (links : List Link) (amount : ℕ) (known amounts high' : List ℕ)
    (some : 0 < length known)
    (among : All (JoinsPoints (length known)) arcs)
    (down : AreDownLinks (λ x. get_or known x 0) arcs links)
    (marks : ℕ → ℕ)
    (closed : IsClosed (λ x. get_or amounts x 0) links)
    (seeded : get_or amounts 0 0 ≡ amount)
    (at_most : (x : ℕ) → get_or amounts x 0 ≤ amount)
    (least : (h : ℕ → ℕ) → IsClosed h links → amount ≤ h 0 → ((x : ℕ) → x < length known → marks x ≡ 0 → amount ≤ h x) → (x : ℕ) → get_or amounts x 0 ≤ h x)
    (solution : IsSolution arcs (moment known))
    (from : FromOrigin arcs known amount)
    (positive : 0 < amount)
    (len : length high' ≡ length known)
    (each : (x : ℕ) → x < length known → get_or high' x 0 ≡ (get_or known x 0 + amount) - get_or amounts x 0)
  where
    falls_some : (x : ℕ) → 0 < x → x < length known → 0 < get_or amounts x 0
    falls_some x later within =
        let r = from x later within in
        let l = down.each r.0 r.1 in
        let c : get_or amounts (link_at links r.0).to 0 ≤ get_or amounts (link_at links r.0).from 0 + (link_at links r.0).slack = closed r.0 no_link (omega (arith, down.len, r.1)) in
        let a : get_or amounts (link_at links r.0).to 0 ≡ get_or amounts 0 0 = ap (λ z. get_or amounts z 0) (l.ends ∙ r.2) in
        let b : get_or amounts (link_at links r.0).from 0 ≡ get_or amounts x 0 = ap (λ z. get_or amounts z 0) (l.begins ∙ r.3) in
        let d : get_or amounts 0 0 ≡ amount = seeded in
        let e : get_or known (arc_at arcs r.0).to 0 ≡ get_or known x 0 = ap (λ z. get_or known z 0) r.3 in
        let f : get_or known (arc_at arcs r.0).from 0 ≡ get_or known 0 0 = ap (λ z. get_or known z 0) r.2 in
        let o = solution.0 in
        let sl = l.slack in
        let w = r.4 in
        omega (arith, ints, a, b, c, d, e, f, o, sl, w)

    falls_all : (x : ℕ) → x < length known → 0 < get_or amounts x 0
    falls_all x within =
        elim (same_or x 0) [
          | inl same ↦ (let d : get_or amounts 0 0 ≡ amount = seeded in let e : get_or amounts x 0 ≡ get_or amounts 0 0 = ap (λ z. get_or amounts z 0) same in omega (arith, d, e, positive))
          | inr ne ↦ falls_some x (omega (arith, ne)) within
        ]

    depth : (t : ℕ → ℤ) → IsSolution arcs t → IsClosed (λ x. nat_of ((pos (get_or known x 0) -ℤ t x) +ℤ pos amount)) links
    depth t sched k d within =
        subst (λ l. MeetsLink (λ x. nat_of ((pos (get_or known x 0) -ℤ t x) +ℤ pos amount)) l) (get_or_default links k no_link d within)
        (let inside : k < length arcs = omega (arith, down.len, within) in
        let l = down.each k inside in
        let h : ℕ → ℕ = λ x. nat_of ((pos (get_or known x 0) -ℤ t x) +ℤ pos amount) in
        let m : t (arc_at arcs k).to ≤ℤ (t (arc_at arcs k).from +ℤ (arc_at arcs k).weight) = sched.1 k no_arc inside in
        let a : h (link_at links k).to ≡ h (arc_at arcs k).from = ap h l.ends in
        let b : h (link_at links k).from ≡ h (arc_at arcs k).to = ap h l.begins in
        let r = l.slack in
        let mono = nat_of_add ((pos (get_or known (arc_at arcs k).from 0) -ℤ t (arc_at arcs k).from) +ℤ pos amount) ((pos (get_or known (arc_at arcs k).to 0) -ℤ t (arc_at arcs k).to) +ℤ pos amount) (link_at links k).slack
        (omega (arith, ints, m, r)) in
        omega (arith, a, b, mono))

    pub solved_high : IsSolution arcs (moment high')
    solved_high = (
      ap pos (each 0 some ∙ (let d : get_or amounts 0 0 ≡ amount = seeded in let o = solution.0 in omega (arith, ints, d, o))),
      λ k d within. subst (λ e. MeetsArc (moment high') e) (get_or_default arcs k no_arc d within)
          (let l = down.each k within in
          let j = among k no_arc within in
          let c : get_or amounts (link_at links k).to 0 ≤ get_or amounts (link_at links k).from 0 + (link_at links k).slack = closed k no_link (omega (arith, down.len, within)) in
          let a : get_or amounts (link_at links k).to 0 ≡ get_or amounts (arc_at arcs k).from 0 = ap (λ z. get_or amounts z 0) l.ends in
          let b : get_or amounts (link_at links k).from 0 ≡ get_or amounts (arc_at arcs k).to 0 = ap (λ z. get_or amounts z 0) l.begins in
          let p = each (arc_at arcs k).to j.1 in
          let q = each (arc_at arcs k).from j.0 in
          let u = at_most (arc_at arcs k).to in
          let v = at_most (arc_at arcs k).from in
          let sl = l.slack in
          omega (arith, ints, c, a, b, p, q, u, v, sl)),
    )

    -- no solution is above that has unmarked points where they were
    pub solved_greatest : (t : ℕ → ℤ) → IsSolution arcs t → ((x : ℕ) → x < length known → marks x ≡ 0 → t x ≤ℤ moment known x) → (x : ℕ) → x < length known → t x ≤ℤ moment high' x
    solved_greatest t sched stay x inside =
        let origin : amount ≤ nat_of ((pos (get_or known 0 0) -ℤ t 0) +ℤ pos amount) =
        (let o = solution.0 in let z = sched.0 in let e : pos (nat_of ((pos (get_or known 0 0) -ℤ t 0) +ℤ pos amount)) ≡ (pos (get_or known 0 0) -ℤ t 0) +ℤ pos amount = nat_of_is _ (omega (arith, ints, o, z)) in omega (arith, ints, e, o, z)) in
        let open_points : (y : ℕ) → y < length known → marks y ≡ 0 → amount ≤ nat_of ((pos (get_or known y 0) -ℤ t y) +ℤ pos amount) = λ y within free.
        (let h = stay y within free in let e : pos (nat_of ((pos (get_or known y 0) -ℤ t y) +ℤ pos amount)) ≡ (pos (get_or known y 0) -ℤ t y) +ℤ pos amount = nat_of_is ((pos (get_or known y 0) -ℤ t y) +ℤ pos amount) (omega (arith, ints, h)) in omega (arith, ints, e, h)) in
        let most : get_or amounts x 0 ≤ nat_of ((pos (get_or known x 0) -ℤ t x) +ℤ pos amount) = least (λ y. nat_of ((pos (get_or known y 0) -ℤ t y) +ℤ pos amount)) (depth t sched) origin open_points x in
        let exact = nat_of_some ((pos (get_or known x 0) -ℤ t x) +ℤ pos amount) (omega (arith, most, falls_all x inside)) in
        let p = each x inside in
        let u = at_most x in
        omega (arith, ints, most, exact, p, u)
