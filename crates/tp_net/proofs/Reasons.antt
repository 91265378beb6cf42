-- A closed chain of arcs, by the names of the edges, is a reason.
use Rattle.std.proofs.Common.{◌≡◌, ◌≢◌, ℕ, suc, ◌<◌, inl, inr, List, [], ◌∷◌, ◌++◌, length, map, get_or, length-append, Option, Some, None, refl, sym, ap, subst, ◌∙◌, arith}
use Rattle.std.specs.Prelude.{pos, ◌≤ℤ◌, ◌<ℤ◌}
use Rattle.std.specs.List.{AllByRecursion}
use Rattle.std.proofs.lemmas.Int.{ints}
use Rattle.std.proofs.lemmas.List.{get_or_append_left}
use Rattle.std.proofs.Math.Seq.{get_or-append_seam}
use Rattle.tp_net.proofs.Spreads.{same_or}
use Rattle.tp_bounds.specs.declared.Point.{Point}
use Rattle.tp_bounds.specs.declared.Point.TheVariants.{Origin, Event}
use Rattle.tp_bounds.specs.declared.Bound.{Bound}
use Rattle.tp_bounds.specs.declared.Edge.{Edge}
use Rattle.tp_bounds.specs.declared.Edge.TheVariants.{New}
use Rattle.tp_bounds.specs.Setting.{Setting}
use Rattle.tp_bounds.specs.Reasons as reasons
use Rattle.tp_bounds.specs.Reasons.{bound_of, AreBounds, Leads, IsClosed, BeginApart}
use Rattle.tp_net.specs.declared.slacks.Arc.{Arc}
use Rattle.tp_net.specs.Graph.{IsChain, IsNegativeCycle, weight_of, arc_at, no_arc}
use Rattle.tp_net.specs.Moments.{CycleBeginsWith}
use Rattle.tp_net.specs.Arcs.{number_of, arc_of, name_at, AreArcs, Stand}

pub one_number : (p q : Point) → number_of p ≡ number_of q → p ≡ q
one_number Origin Origin h = refl
one_number Origin (Event e) h = absurd (omega (arith, h))
one_number (Event e) Origin h = absurd (omega (arith, h))
one_number (Event d) (Event e) h = ap Event (omega (arith, h))

abbrev the_bound : Option Bound → Bound
the_bound None = record { from = Origin; to = Origin; w = pos 0 }
the_bound (Some b) = b

the_bound_is : (o : Option Bound) (b : Bound) → o ≡ Some b → the_bound o ≡ b
the_bound_is None b h = absurd (let f : ⊥ = cc in f)
the_bound_is (Some c) b h = cc

module _ (asked : Setting) (names : List Edge) (arcs : List Arc) (stand : Stand asked names arcs) where
  abbrev bound_at : ℕ → Bound
  bound_at k = the_bound (bound_of asked (name_at names k))

  bound_at_is : (k : ℕ) → (within : k < length arcs) → bound_at k ≡ (stand k within).0
  bound_at_is k within = the_bound_is (bound_of asked (name_at names k)) (stand k within).0 (stand k within).1

  from_is : (k : ℕ) → k < length arcs → number_of (bound_at k).from ≡ (arc_at arcs k).from
  from_is k within = ap (λ (b : Bound). number_of b.from) (bound_at_is k within) ∙ (stand k within).2

  to_is : (k : ℕ) → k < length arcs → number_of (bound_at k).to ≡ (arc_at arcs k).to
  to_is k within = ap (λ (b : Bound). number_of b.to) (bound_at_is k within) ∙ (stand k within).3

  weight_is : (k : ℕ) → k < length arcs → (bound_at k).w ≤ℤ (arc_at arcs k).weight
  weight_is k within = subst (λ (b : Bound). b.w ≤ℤ (arc_at arcs k).weight) (sym (bound_at_is k within)) (stand k within).4

  are_bounds : (a b : ℕ) (ks : List ℕ) → IsChain arcs a b ks → AreBounds asked (map (name_at names) ks) (map bound_at ks)
  are_bounds a b [] chain = tt
  are_bounds a b (k ∷ ks) chain = ((stand k chain.0).1 ∙ ap Some (sym (bound_at_is k chain.0)), are_bounds (arc_at arcs k).to b ks chain.2)

  leads : (a b : ℕ) (ks : List ℕ) → IsChain arcs a b ks → (p q : Point) → number_of p ≡ a → number_of q ≡ b → Leads p (map bound_at ks) q
  leads a b [] chain p q pa qb = one_number p q (pa ∙ (chain ∙ sym qb))
  leads a b (k ∷ ks) chain p q pa qb =
      (one_number (bound_at k).from p (from_is k chain.0 ∙ (chain.1 ∙ sym pa)), leads (arc_at arcs k).to b ks chain.2 (bound_at k).to q (to_is k chain.0) qb)

  apart_from : (k : ℕ) (ks : List ℕ) → k < length arcs → (a b : ℕ) → IsChain arcs a b ks → ((j : ℕ) → j < length ks → (arc_at arcs k).from ≢ (arc_at arcs (get_or ks j 0)).from) → AllByRecursion (λ (c : Bound). (bound_at k).from ≢ c.from) (map bound_at ks)
  apart_from k [] within a b chain ne = tt
  apart_from k (j ∷ js) within a b chain ne = (
    λ same. ne 0 (omega arith) (sym (from_is k within) ∙ (ap number_of same ∙ from_is j chain.0)),
    apart_from k js within (arc_at arcs j).to b chain.2 (λ i lt. ne (suc i) (omega (arith, lt))),
  )

  apart : (a b : ℕ) (ks : List ℕ) → IsChain arcs a b ks → ((i j : ℕ) → i < j → j < length ks → (arc_at arcs (get_or ks i 0)).from ≢ (arc_at arcs (get_or ks j 0)).from) → BeginApart (map bound_at ks)
  apart a b [] chain ne = tt
  apart a b (k ∷ ks) chain ne = (
    apart_from k ks chain.0 (arc_at arcs k).to b chain.2 (λ j lt. ne 0 (suc j) (omega arith) (omega (arith, lt))),
    apart (arc_at arcs k).to b ks chain.2 (λ i j lt within. ne (suc i) (suc j) (omega (arith, lt)) (omega (arith, within))),
  )

  below : (a b : ℕ) (ks : List ℕ) → IsChain arcs a b ks → reasons.weight_of (map bound_at ks) ≤ℤ weight_of arcs ks
  below a b [] chain = omega (arith, ints)
  below a b (k ∷ ks) chain =
      let rest = below (arc_at arcs k).to b ks chain.2 in
      let here = weight_is k chain.0 in
      omega (arith, ints, rest, here)

  closed : (a : ℕ) (ks : List ℕ) → IsChain arcs a a ks → weight_of arcs ks <ℤ pos 0 → IsClosed (map bound_at ks)
  closed a [] chain under = absurd (omega (arith, ints, under))
  closed a (k ∷ ks) chain under =
      (refl, leads (arc_at arcs k).to a ks chain.2 (bound_at k).to (bound_at k).from (to_is k chain.0) (from_is k chain.0 ∙ chain.1))

  pub reason_of : (cycle : List ℕ) → IsNegativeCycle arcs cycle → reasons.IsReason asked (map (name_at names) cycle)
  reason_of cycle r = record {
    bounds = map bound_at cycle;
    exist = are_bounds r.start r.start cycle r.chain;
    closed = closed r.start cycle r.chain r.below;
    apart = apart r.start r.start cycle r.chain (λ i j lt within. r.simple i j 0 lt within);
    below = (let w = below r.start r.start cycle r.chain in let b = r.below in omega (arith, ints, w, b));
  }

-- names that stand, and one more that does
pub stand_more : (asked : Setting) (names : List Edge) (arcs : List Arc) (e : Edge) (b : Bound) → Stand asked names arcs → length names ≡ length arcs → bound_of asked e ≡ Some b → Stand asked (names ++ e ∷ []) (arcs ++ arc_of b ∷ [])
stand_more asked names arcs e b stand len is k within =
    elim (same_or k (length arcs)) [
      | inl same ↦
          (let here : arc_at (arcs ++ arc_of b ∷ []) k ≡ arc_of b = ap (λ j. arc_at (arcs ++ arc_of b ∷ []) j) same ∙ get_or-append_seam arcs (arc_of b) [] no_arc in (
            b,
            ap (bound_of asked) (ap (λ j. name_at (names ++ e ∷ []) j) (same ∙ sym len) ∙ get_or-append_seam names e [] New) ∙ is,
            sym (ap (λ (a : Arc). a.from) here),
            sym (ap (λ (a : Arc). a.to) here),
            (let w : (arc_at (arcs ++ arc_of b ∷ []) k).weight ≡ b.w = ap (λ (a : Arc). a.weight) here in omega (arith, ints, w)),
          ))
      | inr ne ↦
          (let before : k < length arcs = omega (arith, within, length-append arcs (arc_of b ∷ []), ne) in
          let x = stand k before in
          let here : arc_at (arcs ++ arc_of b ∷ []) k ≡ arc_at arcs k = get_or_append_left arcs (arc_of b ∷ []) no_arc k before in (
            x.0,
            ap (bound_of asked) (get_or_append_left names (e ∷ []) New k (subst (λ m. k < m) (sym len) before)) ∙ x.1,
            x.2 ∙ sym (ap (λ (a : Arc). a.from) here),
            x.3 ∙ sym (ap (λ (a : Arc). a.to) here),
            subst (λ (a : Arc). x.0.w ≤ℤ a.weight) (sym here) x.4,
          ))
    ]

-- the names of a setting's own edges stand in another one with the same edges or tighter ones
pub stand_of : (s asked : Setting) (names : List Edge) (arcs : List Arc) → AreArcs s names arcs
    → ((e : Edge) (b : Bound) → bound_of s e ≡ Some b → (c : Bound) × (bound_of asked e ≡ Some c) × (c.from ≡ b.from) × (c.to ≡ b.to) × (c.w ≤ℤ b.w))
    → Stand asked names arcs
stand_of s asked names arcs a tighter k within =
    let x = a.exist k within in
    let y = tighter (name_at names k) x.0 x.1 in (
      y.0,
      y.1,
      ap number_of y.2 ∙ sym (ap (λ (a : Arc). a.from) x.2),
      ap number_of y.3 ∙ sym (ap (λ (a : Arc). a.to) x.2),
      subst (λ (a : Arc). y.0.w ≤ℤ a.weight) (sym x.2) y.4,
    )

-- a chain that begins with the last arc is a reason that begins with its name
pub first_named : (brings : Edge → Type 0) (names : List Edge) (e : Edge) (arcs : List Arc) (a : Arc) (cycle : List ℕ)
    → length names ≡ length arcs → brings e → CycleBeginsWith (arcs ++ a ∷ []) (length arcs) cycle → reasons.BeginsWith brings (map (name_at (names ++ e ∷ [])) cycle)
first_named brings names e arcs a cycle len is h =
    let last : name_at (names ++ e ∷ []) (length arcs) ≡ e = ap (λ j. name_at (names ++ e ∷ []) j) (sym len) ∙ get_or-append_seam names e [] New in
    subst (λ ks. reasons.BeginsWith brings (map (name_at (names ++ e ∷ [])) ks)) (sym h.first_is) (subst brings (sym last) is)
