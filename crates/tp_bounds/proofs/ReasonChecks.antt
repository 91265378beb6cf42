-- The edges of a list and the bounds that they stand for, one after another.
use Rattle.std.proofs.Common.{◌≡◌, ℕ, ◌+◌, ◌<◌, List, [], ◌∷◌, length, get_or, drop, arith, Option, Some, None, pos, ◌+ℤ◌, ◌<ℤ◌, refl, sym, ap, subst, ◌∙◌}
use Rattle.std.specs.List.{filter_map, cons_option}
use Rattle.std.proofs.lemmas.List.{drop_more}
use Rattle.tp_bounds.specs.declared.Point.{Point}
use Rattle.tp_bounds.specs.declared.Bound.{Bound}
use Rattle.tp_bounds.specs.declared.Edge.{Edge}
use Rattle.tp_bounds.specs.Setting.{Setting}
use Rattle.tp_bounds.specs.Reasons.{bound_of, AreBounds, Leads, IsClosed, BeginApart, weight_of, IsReason}
use Rattle.tp_bounds.specs.Certificates.{IsChain}

-- ---- a step along the list

pub step_skip : (f : Edge → Option Bound) (es : List Edge) (i : ℕ) (d : Edge) → i < length es → f (get_or es i d) ≡ None → filter_map f (drop i es) ≡ filter_map f (drop (i + 1) es)
step_skip f es i d lt is = ap (filter_map f) (drop_more es i d lt) ∙ ap (λ o. cons_option o (filter_map f (drop (i + 1) es))) is

pub step_keep : (f : Edge → Option Bound) (es : List Edge) (i : ℕ) (d : Edge) (b : Bound) → i < length es → f (get_or es i d) ≡ Some b → filter_map f (drop i es) ≡ b ∷ filter_map f (drop (i + 1) es)
step_keep f es i d b lt is = ap (filter_map f) (drop_more es i d lt) ∙ ap (λ o. cons_option o (filter_map f (drop (i + 1) es))) is

pub weight_step : (f : Edge → Option Bound) (es : List Edge) (i : ℕ) (d : Edge) (b : Bound) → i < length es → f (get_or es i d) ≡ Some b → weight_of (filter_map f (drop i es)) ≡ b.w +ℤ weight_of (filter_map f (drop (i + 1) es))
weight_step f es i d b lt is = ap weight_of (step_keep f es i d b lt is)

-- ---- chains and bounds

-- the bounds of edges that all exist
pub bounds_are : (s : Setting) (es : List Edge) (bs : List Bound) → AreBounds s es bs → filter_map (bound_of s) es ≡ bs
bounds_are s [] [] h = refl
bounds_are s [] (b ∷ bs) h = absurd h
bounds_are s (e ∷ es) [] h = absurd h
bounds_are s (e ∷ es) (b ∷ bs) h =
    ap (λ o. cons_option o (filter_map (bound_of s) es)) h.0 ∙ ap (λ (cs : List Bound). b ∷ cs) (bounds_are s es bs h.1)

pub chain_bounds : (s : Setting) (es : List Edge) (from to : Point) → IsChain s from es to → (bs : List Bound) × AreBounds s es bs × Leads from bs to
chain_bounds s [] from to h = ([], tt, h)
chain_bounds s (e ∷ es) from to h =
    let rest = chain_bounds s es h.0.to to h.3 in
    (h.0 ∷ rest.0, (h.1, rest.1), (h.2, rest.2))

pub bounds_chain : (s : Setting) (es : List Edge) (bs : List Bound) (from to : Point) → AreBounds s es bs → Leads from bs to → IsChain s from es to
bounds_chain s [] [] from to h l = l
bounds_chain s [] (b ∷ bs) from to h l = absurd h
bounds_chain s (e ∷ es) [] from to h l = absurd h
bounds_chain s (e ∷ es) (b ∷ bs) from to h l = (b, h.0, l.0, bounds_chain s es bs b.to to h.1 l.1)

-- a chain leads to one point alone
pub one_end : (s : Setting) (es : List Edge) (from to other : Point) → IsChain s from es to → IsChain s from es other → to ≡ other
one_end s [] from to other h k = sym h ∙ k
one_end s (e ∷ es) from to other h k =
    let both : Some h.0 ≡ Some k.0 = sym h.1 ∙ k.1 in
    let same : k.0 ≡ h.0 = cc in
    one_end s es h.0.to to other h.3 (subst (λ (b : Bound). IsChain s b.to es other) same k.3)

-- ---- closed chains

pub chain_closed : (s : Setting) (es : List Edge) (from : Point) → 0 < length es → IsChain s from es from → (bs : List Bound) × AreBounds s es bs × IsClosed bs
chain_closed s [] from lt h = absurd (omega arith)
chain_closed s (x ∷ xs) from lt h =
    let rest = chain_bounds s xs h.0.to from h.3 in
    (h.0 ∷ rest.0, (h.1, rest.1), (refl, subst (Leads h.0.to rest.0) (sym h.2) rest.2))

pub closed_chain : (s : Setting) (es : List Edge) (bs : List Bound) (e : Edge) (b : Bound) → get_or es 0 e ≡ e → bound_of s e ≡ Some b → AreBounds s es bs → IsClosed bs → IsChain s b.from es b.from
closed_chain s [] [] e b first is h closed = absurd closed
closed_chain s [] (c ∷ cs) e b first is h closed = absurd h
closed_chain s (x ∷ xs) [] e b first is h closed = absurd h
closed_chain s (x ∷ xs) (c ∷ cs) e b first is h closed =
    let both : Some c ≡ Some b = sym h.0 ∙ (ap (bound_of s) first ∙ is) in
    let same : c ≡ b = cc in
    subst (λ (a : Bound). IsChain s a.from (x ∷ xs) a.from) same (bounds_chain s (x ∷ xs) (c ∷ cs) c.from c.from h closed)

-- ---- reasons

pub reason_from : (s : Setting) (es : List Edge) → ((bs : List Bound) × AreBounds s es bs × IsClosed bs) → BeginApart (filter_map (bound_of s) es) → weight_of (filter_map (bound_of s) es) <ℤ pos 0 → IsReason s es
reason_from s es h apart below =
    let same = bounds_are s es h.0 h.1 in
    record {
      bounds = h.0;
      exist = h.1;
      closed = h.2;
      apart = subst BeginApart same apart;
      below = subst (λ bs. weight_of bs <ℤ pos 0) same below;
    }

pub reason_apart : (s : Setting) (es : List Edge) → IsReason s es → BeginApart (filter_map (bound_of s) es)
reason_apart s es r = subst BeginApart (sym (bounds_are s es r.bounds r.exist)) r.apart

pub reason_below : (s : Setting) (es : List Edge) → IsReason s es → weight_of (filter_map (bound_of s) es) <ℤ pos 0
reason_below s es r = subst (λ bs. weight_of bs <ℤ pos 0) (sym (bounds_are s es r.bounds r.exist)) r.below
