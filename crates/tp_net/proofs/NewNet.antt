-- A network with no bound.
use Rattle.std.proofs.Common.{◌≡◌, ℕ, zero, suc, ◌+◌, ◌<◌, ◌≤◌, ◌⊎◌, inl, inr, List, [], ◌∷◌, ◌++◌, get_or, replicate, Option, Some, None, refl, sym, ap, subst, ◌∙◌, arith}
use Rattle.std.specs.Prelude.{ℤ, pos, ◌≤ℤ◌}
use Rattle.std.specs.Ordering.{nat_cmp}
use Rattle.std.specs.FinMap.{get, empty, get-empty}
use Rattle.std.proofs.Math.ListN.{length-replicate}
use Rattle.std.proofs.lemmas.Int.{ints}
use Rattle.tp_bounds.specs.declared.Bound.{Bound}
use Rattle.tp_bounds.specs.declared.Edge.{Edge}
use Rattle.tp_bounds.specs.declared.Edge.TheVariants.{Own, New, PastHigh, PastLow, Now, End}
use Rattle.tp_bounds.specs.Setting.{Setting, event_count, fixed_at, floor_of}
use Rattle.tp_bounds.specs.Schedule as bounds
use Rattle.tp_bounds.specs.Reasons.{bound_of, at_least, at_most, is_open}
use Rattle.tp_bounds.proofs.Chains.{from_map, from_cond, opened}
use Rattle.tp_net.specs.declared.slacks.Arc.{Arc}
use Rattle.tp_net.specs.Graph.{MeetsArc, IsSolution, no_arc, moment}
use Rattle.tp_net.proofs.Spreads.{same_or}
use Rattle.tp_net.specs.Arcs.{arc_of, ListsArcs, AreArcs}
use Rattle.tp_net.specs.Kept.{IsFit, IsKept}
use Rattle.tp_net.specs.NewNet.{new_setting}
use Rattle.tp_net.proofs.Listings.{schedule_there, events_of, listed_more, listed_among, arc_named, now_edge, end_edge}

none_held : (id : ℕ) (b : Bound) → get (empty {X = Bound} {R = nat_cmp}) id ≡ Some b → ⊥
none_held id b h = let f : None ≡ Some b = sym (get-empty nat_cmp id) ∙ h in let g : ⊥ = cc in g

pub replicate_none : (n k : ℕ) → get_or (replicate {A = Option ℕ} n None) k None ≡ None
replicate_none zero k = refl
replicate_none (suc n) zero = refl
replicate_none (suc n) (suc k) = replicate_none n k

replicate_at : (n k v : ℕ) → k < n → get_or (replicate n v) k 0 ≡ v
replicate_at zero k v lt = absurd (omega (arith, lt))
replicate_at (suc n) zero v lt = refl
replicate_at (suc n) (suc k) v lt = replicate_at n k v (omega (arith, lt))

replicate_zero : (n k : ℕ) → ◌≡◌ {A = ℕ} (get_or (replicate n 0) k 0) 0
replicate_zero zero k = refl
replicate_zero (suc n) zero = refl
replicate_zero (suc n) (suc k) = replicate_zero n k

pub fit_new : (events horizon : ℕ) → events ≤ 1024 → horizon ≤ 1_000_000_000 → IsFit (new_setting events horizon)
fit_new events horizon few soon =
    record {
      from = λ id b is. absurd (none_held id b is);
      to = λ id b is. absurd (none_held id b is);
      weight = λ id b is. absurd (none_held id b is);
      past = λ e m is. let f : None ≡ Some m = sym (replicate_none events e) ∙ is in let g : ⊥ = cc in absurd g;
      lags = length-replicate {A = ℕ} events 0 ∙ sym (length-replicate {A = Option ℕ} events None);
      lag = λ e. omega (arith, replicate_zero events e);
      events = omega (arith, few, length-replicate {A = Option ℕ} events None);
      horizon = soon;
      in_time = omega arith;
      asks_nothing = refl;
    }

-- at 0 the floor of each event is 0
pub zero_edge : (events horizon e : ℕ) → e < events → bound_of (new_setting events horizon) (Now e) ≡ Some (at_least e 0)
zero_edge events horizon e lt =
    let s : Setting = new_setting events horizon in
    let level : floor_of s e ≡ 0 = omega arith in
    now_edge s e (omega (arith, lt, length-replicate {A = Option ℕ} events None)) (replicate_none events e) ∙ ap (λ m. Some (at_least e m)) level

-- the edge is of an event below n
abbrev pub IsBelow : ℕ → Edge → Type 0
IsBelow n (Own id) = ⊥
IsBelow n New = ⊥
IsBelow n (PastHigh e) = ⊥
IsBelow n (PastLow e) = ⊥
IsBelow n (Now e) = e < n
IsBelow n (End e) = e < n

later : (n : ℕ) (e : Edge) → IsBelow (n + 1) e → (e ≡ End n) ⊎ ((e ≡ Now n) ⊎ IsBelow n e)
later n (Own id) h = absurd h
later n New h = absurd h
later n (PastHigh e) h = absurd h
later n (PastLow e) h = absurd h
later n (Now e) h = elim (same_or e n) [ inl same ↦ inr (inl (ap Now same)) | inr ne ↦ inr (inr (omega (arith, h, ne))) ]
later n (End e) h = elim (same_or e n) [ inl same ↦ inl (ap End same) | inr ne ↦ inr (inr (omega (arith, h, ne))) ]

pub star_more : (events horizon n : ℕ) (names : List Edge) (arcs : List Arc) → n < events → ListsArcs (IsBelow n) (new_setting events horizon) names arcs
    → ListsArcs (IsBelow (n + 1)) (new_setting events horizon) ((names ++ Now n ∷ []) ++ End n ∷ []) ((arcs ++ arc_of (at_least n 0) ∷ []) ++ arc_of (at_most n horizon) ∷ [])
star_more events horizon n names arcs lt a =
    let s : Setting = new_setting events horizon in
    let inside : n < event_count s = omega (arith, lt, length-replicate {A = Option ℕ} events None) in
    let free : fixed_at s n ≡ None = replicate_none events n in
    listed_among (λ f. (f ≡ End n) ⊎ ((f ≡ Now n) ⊎ IsBelow n f)) (IsBelow (n + 1)) s ((names ++ Now n ∷ []) ++ End n ∷ []) ((arcs ++ arc_of (at_least n 0) ∷ []) ++ arc_of (at_most n horizon) ∷ [])
    (listed_more (λ f. (f ≡ Now n) ⊎ IsBelow n f) s (names ++ Now n ∷ []) (arcs ++ arc_of (at_least n 0) ∷ []) (End n) (at_most n horizon)
    (listed_more (IsBelow n) s names arcs (Now n) (at_least n 0) a (zero_edge events horizon n lt))
    (end_edge s n inside free))
    (λ e b is below. later n e below)

pub within_star : (events horizon : ℕ) (e : Edge) (b : Bound) → bound_of (new_setting events horizon) e ≡ Some b → IsBelow events e
within_star events horizon (Own id) b is = none_held id.0 b is
within_star events horizon New b is = let f : ⊥ = cc in f
within_star events horizon (PastHigh e) b is =
    let m = from_map (at_most e) (fixed_at (new_setting events horizon) e) b is in
    let f : None ≡ Some m.0 = sym (replicate_none events e) ∙ m.1 in
    let g : ⊥ = cc in g
within_star events horizon (PastLow e) b is =
    let m = from_map (at_least e) (fixed_at (new_setting events horizon) e) b is in
    let f : None ≡ Some m.0 = sym (replicate_none events e) ∙ m.1 in
    let g : ⊥ = cc in g
within_star events horizon (Now e) b is =
    let m = from_cond (is_open (new_setting events horizon) e) (at_least e (floor_of (new_setting events horizon) e)) b is in
    omega (arith, (opened (new_setting events horizon) e m.0).0, length-replicate {A = Option ℕ} events None)
within_star events horizon (End e) b is =
    let m = from_cond (is_open (new_setting events horizon) e) (at_most e horizon) b is in
    omega (arith, (opened (new_setting events horizon) e m.0).0, length-replicate {A = Option ℕ} events None)

pub star_done : (events horizon n : ℕ) (names : List Edge) (arcs : List Arc) → n ≡ events → ListsArcs (IsBelow n) (new_setting events horizon) names arcs → AreArcs (new_setting events horizon) names arcs
star_done events horizon n names arcs is a =
    listed_among (IsBelow n) (λ _. Unit {0}) (new_setting events horizon) names arcs a (λ e b has q. subst (λ m. IsBelow m e) (sym is) (within_star events horizon e b has))

new_schedule : (events horizon : ℕ) (t : ℕ → ℕ) → ((e : ℕ) → e < events → t e ≤ horizon) → bounds.IsSchedule (new_setting events horizon) t
new_schedule events horizon t le =
    record {
      past = λ e m is. let f : None ≡ Some m = sym (replicate_none events e) ∙ is in let g : ⊥ = cc in absurd g;
      floor = λ e lt is. omega arith;
      end = λ e lt is. le e (omega (arith, lt, length-replicate {A = Option ℕ} events None));
      in_force = λ id b is. absurd (none_held id b is);
      proposed = λ b is. let g : ⊥ = cc in absurd g;
    }

-- each event lies between the origin and the horizon
star_low : (events horizon : ℕ) (names : List Edge) (arcs : List Arc) → AreArcs (new_setting events horizon) names arcs → (t : ℕ → ℤ) → IsSolution arcs t → (e : ℕ) → e < events → pos 0 ≤ℤ t (suc e)
star_low events horizon names arcs a t sch e lt =
    let s : Setting = new_setting events horizon in
    let is = zero_edge events horizon e lt in
    let x = a.all (Now e) (at_least e 0) is tt in
    let h : MeetsArc t (arc_of (at_least e 0)) = subst (MeetsArc t) (arc_named (λ _. Unit {0}) s names arcs a (Now e) (at_least e 0) is x.0 x.1 x.2) (sch.1 x.0 no_arc x.1) in
    let o = sch.0 in
    omega (arith, ints, h, o)

star_high : (events horizon : ℕ) (names : List Edge) (arcs : List Arc) → AreArcs (new_setting events horizon) names arcs → (t : ℕ → ℤ) → IsSolution arcs t → (e : ℕ) → e < events → t (suc e) ≤ℤ pos horizon
star_high events horizon names arcs a t sch e lt =
    let s : Setting = new_setting events horizon in
    let is = end_edge s e (omega (arith, lt, length-replicate {A = Option ℕ} events None)) (replicate_none events e) in
    let x = a.all (End e) (at_most e horizon) is tt in
    let h : MeetsArc t (arc_of (at_most e horizon)) = subst (MeetsArc t) (arc_named (λ _. Unit {0}) s names arcs a (End e) (at_most e horizon) is x.0 x.1 x.2) (sch.1 x.0 no_arc x.1) in
    let o = sch.0 in
    omega (arith, ints, h, o)

pub kept_new : (events horizon : ℕ) (names : List Edge) (arcs : List Arc) (low high : List ℕ) → events ≤ 1024 → horizon ≤ 1_000_000_000 → AreArcs (new_setting events horizon) names arcs
    → low ≡ replicate (suc events) 0 → high ≡ 0 ∷ replicate events horizon → IsKept (new_setting events horizon) names arcs low high
kept_new events horizon names arcs low high few soon a low_is high_is =
    rw (low_is, high_is)
    (record {
      fit = fit_new events horizon few soon;
      listed = a;
      exact = record {
        len = omega (arith, length-replicate {A = ℕ} events 0, length-replicate {A = ℕ} events horizon);
        least = record {
          solution = schedule_there (new_setting events horizon) names arcs a (moment (0 ∷ replicate events 0)) (events_of (0 ∷ replicate events 0)) (record { origin = refl; events = λ e. refl })
              (new_schedule events horizon (events_of (0 ∷ replicate events 0)) (λ e lt. omega (arith, replicate_zero events e)));
          least = λ t sch x within. least_at t sch x (omega (arith, within, length-replicate {A = ℕ} events 0));
        };
        greatest = record {
          solution = schedule_there (new_setting events horizon) names arcs a (moment (0 ∷ replicate events horizon)) (events_of (0 ∷ replicate events horizon)) (record { origin = refl; events = λ e. refl })
              (new_schedule events horizon (events_of (0 ∷ replicate events horizon)) (λ e lt. omega (arith, replicate_at events e horizon lt)));
          greatest = λ t sch x within. greatest_at t sch x (omega (arith, within, length-replicate {A = ℕ} events horizon));
        };
      };
      points = omega (arith, length-replicate {A = ℕ} events 0, length-replicate {A = Option ℕ} events None);
    })
  where
    least_at : (t : ℕ → ℤ) → IsSolution arcs t → (x : ℕ) → x < suc events → moment (0 ∷ replicate events 0) x ≤ℤ t x
    least_at t sch zero lt = let o = sch.0 in omega (arith, ints, o)
    least_at t sch (suc e) lt = let h = star_low events horizon names arcs a t sch e (omega (arith, lt)) in let z = replicate_zero events e in omega (arith, ints, h, z)

    greatest_at : (t : ℕ → ℤ) → IsSolution arcs t → (x : ℕ) → x < suc events → t x ≤ℤ moment (0 ∷ replicate events horizon) x
    greatest_at t sch zero lt = let o = sch.0 in omega (arith, ints, o)
    greatest_at t sch (suc e) lt = let h = star_high events horizon names arcs a t sch e (omega (arith, lt)) in let z = replicate_at events e horizon (omega (arith, lt)) in omega (arith, ints, h, z)
