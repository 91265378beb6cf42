-- Edges without those of one bound, and what they leave.
use Rattle.std.proofs.Common.{◌≡◌, ◌≢◌, ℕ, suc, ◌+◌, ◌<◌, ◌⊎◌, inl, inr, Bool, true, false, cond, List, [], ◌∷◌, ◌++◌, length, Option, Some, None, refl, sym, ap, subst, ◌∙◌, arith}
use Rattle.std.specs.Ordering.{nat_cmp, eq_by_cmp}
use Rattle.std.specs.Cmp.{nat_cmp_total}
use Rattle.std.specs.FinMap.{FinMap, get, remove, get-remove}
use Rattle.std.proofs.lemmas.Int.{ints}
use Rattle.tp_bounds.specs.declared.Bound.{Bound}
use Rattle.tp_bounds.specs.declared.BoundId.{BoundId}
use Rattle.tp_bounds.specs.declared.Edge.{Edge}
use Rattle.tp_bounds.specs.declared.Edge.TheVariants.{Own, New, PastHigh, PastLow, Now, End}
use Rattle.tp_bounds.specs.Setting.{Setting}
use Rattle.tp_bounds.specs.Changes.{without_bound}
use Rattle.tp_bounds.specs.Reasons.{bound_of}
use Rattle.tp_net.proofs.Laws.{withdrawn, other_key, key_itself}
use Rattle.tp_bounds.proofs.HeldMaps.{removed}
use Rattle.tp_net.specs.declared.slacks.Arc.{Arc}
use Rattle.tp_net.specs.Graph.{arc_at}
use Rattle.tp_net.specs.Moments.{AreExact, IsStart}
use Rattle.tp_net.proofs.Spreads.{same_or}
use Rattle.tp_net.specs.Arcs.{arc_of, name_at, ListsArcs, AreArcs}
use Rattle.tp_net.specs.Kept.{IsFit, IsKept}
use Rattle.tp_net.proofs.Listings.{events_of, listed_more, listed_among}
use Rattle.tp_net.proofs.KeptMoments.{low_schedule}
use Rattle.tp_net.proofs.Starts.{start}

cond_none : {X : Type 0} (b : Bool) (o : Option X) (c : X) → b ≡ true → cond b None o ≡ Some c → ⊥
cond_none true o c h is = let f : ⊥ = cc in f
cond_none false o c h is = let f : ⊥ = cc in f

cond_other : {X : Type 0} (b : Bool) (x o : Option X) → b ≡ false → cond b x o ≡ o
cond_other true x o h = absurd (let f : ⊥ = cc in f)
cond_other false x o h = refl

pub get_remove_other : {X : Type 0} (m : FinMap nat_cmp X) (id q : ℕ) → q ≢ id → get (remove m id) q ≡ get m q
get_remove_other {X} m id q ne = get-remove nat_cmp_total m id q ∙ cond_other (eq_by_cmp nat_cmp q id) None (get m q) (other_key q id ne)

pub none_left : {X : Type 0} (m : FinMap nat_cmp X) (id : ℕ) (b : X) → get (remove m id) id ≡ Some b → ⊥
none_left m id b h = cond_none (eq_by_cmp nat_cmp id id) (get m id) b (key_itself id) (sym (get-remove nat_cmp_total m id id) ∙ h)

-- the edge is among the first k names
abbrev pub IsAmong : List Edge → ℕ → Edge → Type 0
IsAmong names k f = (j : ℕ) × (j < k) × (name_at names j ≡ f)

pub still_there : (s : Setting) (id : BoundId) (c : Bound) (e : Edge) → e ≢ Own id → bound_of s e ≡ Some c → bound_of (without_bound s id.0) e ≡ Some c
still_there s id c (Own j) ne h =
    let apart : j.0 ≢ id.0 = λ same. ne (ap (λ n. Own (record { 0 = n })) same) in
    get_remove_other s.bounds id.0 j.0 apart ∙ h
still_there s id c New ne h = h
still_there s id c (PastHigh e) ne h = h
still_there s id c (PastLow e) ne h = h
still_there s id c (Now e) ne h = h
still_there s id c (End e) ne h = h

pub was_there : (s : Setting) (id : BoundId) (c : Bound) (e : Edge) → bound_of (without_bound s id.0) e ≡ Some c → bound_of s e ≡ Some c
was_there s id c (Own j) h = removed s.bounds id.0 j.0 c h
was_there s id c New h = h
was_there s id c (PastHigh e) h = h
was_there s id c (PastLow e) h = h
was_there s id c (Now e) h = h
was_there s id c (End e) h = h

among_next : (names : List Edge) (k : ℕ) (f : Edge) → IsAmong names (k + 1) f → (f ≡ name_at names k) ⊎ IsAmong names k f
among_next names k f h =
    elim (same_or h.0 k) [
      | inl same ↦ inl (sym h.2 ∙ ap (name_at names) same)
      | inr ne ↦ inr (h.0, omega (arith, h.1, ne), h.2)
    ]

pub without_kept : (s : Setting) (names : List Edge) (arcs : List Arc) (id : BoundId) (k : ℕ) (ns : List Edge) (xs : List Arc)
    → AreArcs s names arcs → k < length arcs → name_at names k ≢ Own id → ListsArcs (IsAmong names k) (without_bound s id.0) ns xs
    → ListsArcs (IsAmong names (k + 1)) (without_bound s id.0) (ns ++ name_at names k ∷ []) (xs ++ arc_at arcs k ∷ [])
without_kept s names arcs id k ns xs a within ne l =
    let x = a.exist k within in
    let s' : Setting = without_bound s id.0 in
    let more = listed_more (IsAmong names k) s' ns xs (name_at names k) x.0 l (still_there s id x.0 (name_at names k) ne x.1) in
    subst (λ y. ListsArcs (IsAmong names (k + 1)) s' (ns ++ name_at names k ∷ []) (xs ++ y ∷ [])) (sym x.2)
    (listed_among (λ f. (f ≡ name_at names k) ⊎ IsAmong names k f) (IsAmong names (k + 1)) s' (ns ++ name_at names k ∷ []) (xs ++ arc_of x.0 ∷ []) more (λ e b is q. among_next names k e q))

pub without_gone : (s : Setting) (names : List Edge) (id : BoundId) (k : ℕ) (ns : List Edge) (xs : List Arc)
    → name_at names k ≡ Own id → ListsArcs (IsAmong names k) (without_bound s id.0) ns xs → ListsArcs (IsAmong names (k + 1)) (without_bound s id.0) ns xs
without_gone s names id k ns xs gone l =
    let s' : Setting = without_bound s id.0 in
    listed_among (IsAmong names k) (IsAmong names (k + 1)) s' ns xs l (λ e b is q.
    (elim (among_next names k e q) [
      | inl same ↦
          (let at : get (remove s.bounds id.0) id.0 ≡ Some b = sym (ap (bound_of s') (same ∙ gone)) ∙ is in
          absurd (none_left s.bounds id.0 b at))
      | inr old ↦ old
    ]))

pub without_done : (s : Setting) (names : List Edge) (arcs : List Arc) (id : BoundId) (k : ℕ) (ns : List Edge) (xs : List Arc)
    → AreArcs s names arcs → k ≡ length arcs → ListsArcs (IsAmong names k) (without_bound s id.0) ns xs → AreArcs (without_bound s id.0) ns xs
without_done s names arcs id k ns xs a is l =
    listed_among (IsAmong names k) (λ _. Unit {0}) (without_bound s id.0) ns xs l (λ e b has q.
    (let x = a.all e b (was_there s id b e has) tt in
    (x.0, omega (arith, is, x.1), x.2)))

-- ---- a bound leaves

pub fit_removed : (s : Setting) (id : ℕ) → IsFit s → IsFit (without_bound s id)
fit_removed s id h =
    record {
      from = λ q c is. h.from q c (removed s.bounds id q c is);
      to = λ q c is. h.to q c (removed s.bounds id q c is);
      weight = λ q c is. h.weight q c (removed s.bounds id q c is);
      past = h.past;
      lags = h.lags;
      lag = h.lag;
      events = h.events;
      horizon = h.horizon;
      in_time = h.in_time;
      asks_nothing = h.asks_nothing;
    }

pub start_removed : (s : Setting) (names : List Edge) (arcs : List Arc) (low high : List ℕ) (id : ℕ) (names' : List Edge) (arcs' : List Arc) (amount : ℕ)
    → IsKept s names arcs low high → AreArcs (without_bound s id) names' arcs' → amount ≡ suc s.horizon → IsStart arcs' low amount
start_removed s names arcs low high id names' arcs' amount k a is =
    start (without_bound s id) names' arcs' low amount (fit_removed s id k.fit) a (let o = k.exact.least.solution.0 in omega (arith, ints, o))
    (withdrawn s id (events_of low) (low_schedule s names arcs low high k)) k.points is

pub kept_removed : (s : Setting) (names : List Edge) (arcs : List Arc) (low high : List ℕ) (id : ℕ) (names' : List Edge) (arcs' : List Arc) (low' high' : List ℕ)
    → IsKept s names arcs low high → AreArcs (without_bound s id) names' arcs' → length low' ≡ length low → AreExact arcs' low' high' → IsKept (without_bound s id) names' arcs' low' high'
kept_removed s names arcs low high id names' arcs' low' high' k a len exact = record { fit = fit_removed s id k.fit; listed = a; exact = exact; points = len ∙ k.points }
