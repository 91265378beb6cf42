-- Numbers in range, and what the kept moments are.
use Rattle.std.proofs.Common.{◌≡◌, ◌≢◌, ℕ, zero, suc, ◌^◌, ◌<◌, ◌≤◌, ◌⊎◌, inl, inr, List, [], ◌∷◌, ◌++◌, length, map, get_or, length-append, Option, Some, None, refl, sym, ap, subst, ◌∙◌, arith}
use Rattle.std.specs.Prelude.{All, ℤ, pos, ◌+ℤ◌, ◌-ℤ◌, ◌≤ℤ◌}
use Rattle.std.specs.FinMap.{get}
use Rattle.std.proofs.lemmas.Int.{ints}
use Rattle.std.proofs.lemmas.List.{get_or_default}
use Rattle.tp_bounds.specs.declared.Point.{Point}
use Rattle.tp_bounds.specs.declared.Point.TheVariants.{Origin, Event}
use Rattle.tp_bounds.specs.declared.Bound.{Bound}
use Rattle.tp_bounds.specs.declared.BoundId.{BoundId}
use Rattle.tp_bounds.specs.declared.Edge.{Edge}
use Rattle.tp_bounds.specs.declared.Edge.TheVariants.{Own, New, PastHigh, PastLow, Now, End}
use Rattle.tp_bounds.specs.Setting.{Setting, event_count, fixed_at, floor_of, HasPoint, IsInRange}
use Rattle.tp_bounds.specs.Schedule as bounds
use Rattle.tp_bounds.specs.Schedule.{HasSchedule, IsLeastMoment, IsGreatestMoment}
use Rattle.tp_bounds.specs.Changes.{with_bound, proposing}
use Rattle.tp_bounds.specs.Reasons.{bound_of, at_least, at_most, is_open}
use Rattle.tp_bounds.proofs.Chains.{from_map, from_cond, opened}
use Rattle.tp_net.specs.Faults.{IsNew, Refutes}
use Rattle.tp_net.proofs.Laws.{get_inserted, get_insert_other, edge_proposing, refutes_new}
use Rattle.tp_bounds.proofs.HeldMaps.{inserted}
use Rattle.tp_net.specs.declared.slacks.Arc.{Arc}
use Rattle.tp_net.specs.Graph.{IsSolution, HasNoSolution, IsLeast, IsGreatest, no_arc, moment}
use Rattle.tp_net.specs.Sizes.{IsSmall, IsSmallWeight}
use Rattle.tp_net.specs.Slacks.{JoinsPoints}
use Rattle.tp_net.specs.Moments.{CycleBeginsWith}
use Rattle.tp_net.specs.Moments.{AreExact}
use Rattle.tp_net.proofs.Spreads.{same_or}
use Rattle.tp_net.proofs.Cycles.{chain_names}
use Rattle.tp_net.specs.Arcs.{number_of, arc_of, name_at, ListsArcs, AreArcs, IsContrary, NamesCycle}
use Rattle.tp_net.proofs.Additions.{without_new}
use Rattle.tp_net.specs.Kept.{IsFit, IsKept}
use Rattle.tp_net.proofs.Listings.{schedule_there, schedule_back, events_of, agree_list, lift, agree_lift, listed_more, listed_among}
use Rattle.tp_net.proofs.Reasons.{reason_of, stand_more, stand_of, first_named}

-- the bound is between points of the setting, and its weight is in range
pub record IsLawful (s : Setting) (b : Bound) : Type 0 where
  pub from : HasPoint s b.from
  pub to : HasPoint s b.to
  pub weight : IsInRange b.w

some_inside : (xs : List (Option ℕ)) (k m : ℕ) → get_or xs k None ≡ Some m → k < length xs
some_inside [] k m h = absurd (let f : ⊥ = cc in f)
some_inside (x ∷ xs) zero m h = omega arith
some_inside (x ∷ xs) (suc k) m h = let r = some_inside xs k m h in omega (arith, r)

lawful_most : (s : Setting) (e m : ℕ) → e < event_count s → m ≤ 1_000_000_000 → IsLawful s (at_most e m)
lawful_most s e m lt le = record { from = tt; to = lt; weight = record { not_low = omega (arith, ints); not_high = omega (arith, ints) } }

lawful_least : (s : Setting) (e m : ℕ) → e < event_count s → m ≤ 1_000_000_000 → IsLawful s (at_least e m)
lawful_least s e m lt le = record { from = lt; to = tt; weight = record { not_low = omega (arith, ints); not_high = omega (arith, ints) } }

pub lawful : (s : Setting) → IsFit s → (e : Edge) (b : Bound) → bound_of s e ≡ Some b → IsLawful s b
lawful s f (Own id) b h = record { from = f.from id.0 b h; to = f.to id.0 b h; weight = f.weight id.0 b h }
lawful s f New b h = absurd (let g : None ≡ Some b = sym f.asks_nothing ∙ h in let g : ⊥ = cc in g)
lawful s f (PastHigh e) b h =
    let m = from_map (at_most e) (fixed_at s e) b h in
    let soon = f.past e m.0 m.1 in
    let end = f.horizon in
    subst (IsLawful s) m.2 (lawful_most s e m.0 (some_inside s.fixed e m.0 m.1) (omega (arith, soon, end)))
lawful s f (PastLow e) b h =
    let m = from_map (at_least e) (fixed_at s e) b h in
    let soon = f.past e m.0 m.1 in
    let end = f.horizon in
    subst (IsLawful s) m.2 (lawful_least s e m.0 (some_inside s.fixed e m.0 m.1) (omega (arith, soon, end)))
lawful s f (Now e) b h =
    let m = from_cond (is_open s e) (at_least e (floor_of s e)) b h in
    let soon = f.in_time in
    let end = f.horizon in
    subst (IsLawful s) m.1 (lawful_least s e (floor_of s e) (opened s e m.0).0 (omega (arith, soon, end)))
lawful s f (End e) b h =
    let m = from_cond (is_open s e) (at_most e s.horizon) b h in
    subst (IsLawful s) m.1 (lawful_most s e s.horizon (opened s e m.0).0 f.horizon)

pub number_inside : (s : Setting) (p : Point) → HasPoint s p → number_of p < suc (event_count s)
number_inside s Origin h = omega arith
number_inside s (Event e) h = omega (arith, h)

pub small_weight : (w : ℤ) → IsInRange w → IsSmallWeight w
small_weight w h = let a = h.not_low in let b = h.not_high in (omega (arith, ints, a), omega (arith, ints, b))

pub joins : (s : Setting) (b : Bound) (points : ℕ) → points ≡ suc (event_count s) → HasPoint s b.from → HasPoint s b.to → JoinsPoints points (arc_of b)
joins s b points is from to = (subst (λ n. number_of b.from < n) (sym is) (number_inside s b.from from), subst (λ n. number_of b.to < n) (sym is) (number_inside s b.to to))

pub all_join : (s : Setting) (names : List Edge) (arcs : List Arc) (points : ℕ) → IsFit s → AreArcs s names arcs → points ≡ suc (event_count s) → All (JoinsPoints points) arcs
all_join s names arcs points f a is k d within =
    let x = a.exist k within in
    let l = lawful s f (name_at names k) x.0 x.1 in
    subst (JoinsPoints points) (sym x.2 ∙ get_or_default arcs k no_arc d within) (joins s x.0 points is l.from l.to)

pub all_small_weight : (s : Setting) (names : List Edge) (arcs : List Arc) → IsFit s → AreArcs s names arcs → All (λ (e : Arc). IsSmallWeight e.weight) arcs
all_small_weight s names arcs f a k d within =
    let x = a.exist k within in
    let l = lawful s f (name_at names k) x.0 x.1 in
    subst (λ (e : Arc). IsSmallWeight e.weight) (sym x.2 ∙ get_or_default arcs k no_arc d within) (small_weight x.0.w l.weight)

pub fixed_or : (o : Option ℕ) → ((m : ℕ) × (o ≡ Some m)) ⊎ (o ≡ None)
fixed_or None = inr refl
fixed_or (Some m) = inl (m, refl)

pub in_horizon : (s : Setting) (t : ℕ → ℕ) → IsFit s → bounds.IsSchedule s t → (e : ℕ) → e < event_count s → t e ≤ s.horizon
in_horizon s t f sch e lt =
    elim (fixed_or (fixed_at s e)) [
      | inl p ↦ (let a = sch.past e p.0 p.1 in let b = f.past e p.0 p.1 in omega (arith, a, b))
      | inr n ↦ sch.end e lt n
    ]

small_at : (s : Setting) (moments : List ℕ) → IsFit s → (moment moments 0 ≡ pos 0) → bounds.IsSchedule s (events_of moments) → (x : ℕ) → x < suc (event_count s) → get_or moments x 0 < 2 ^ 40
small_at s moments f o sch zero lt = omega (arith, ints, o)
small_at s moments f o sch (suc e) lt =
    let h = in_horizon s (events_of moments) f sch e (omega (arith, lt)) in
    let end = f.horizon in
    omega (arith, h, end)

pub all_small : (s : Setting) (names : List Edge) (arcs : List Arc) (moments : List ℕ) → IsFit s → AreArcs s names arcs → IsSolution arcs (moment moments) → length moments ≡ suc (event_count s) → All IsSmall moments
all_small s names arcs moments f a sch len k d within =
    subst (λ v. v < 2 ^ 40) (get_or_default moments k 0 d within)
    (small_at s moments f sch.0 (schedule_back s names arcs a (moment moments) (events_of moments) (agree_list arcs moments sch) sch) k (subst (λ n. k < n) len within))

-- ---- the kept moments

pub low_schedule : (s : Setting) (names : List Edge) (arcs : List Arc) (low high : List ℕ) → IsKept s names arcs low high → bounds.IsSchedule s (events_of low)
low_schedule s names arcs low high k = schedule_back s names arcs k.listed (moment low) (events_of low) (agree_list arcs low k.exact.least.solution) k.exact.least.solution

pub high_schedule : (s : Setting) (names : List Edge) (arcs : List Arc) (low high : List ℕ) → IsKept s names arcs low high → bounds.IsSchedule s (events_of high)
high_schedule s names arcs low high k = schedule_back s names arcs k.listed (moment high) (events_of high) (agree_list arcs high k.exact.greatest.solution) k.exact.greatest.solution

pub kept_possible : (s : Setting) (names : List Edge) (arcs : List Arc) (low high : List ℕ) → IsKept s names arcs low high → HasSchedule s
kept_possible s names arcs low high k = (events_of low, low_schedule s names arcs low high k)

pub kept_least : (s : Setting) (names : List Edge) (arcs : List Arc) (low high : List ℕ) → IsKept s names arcs low high → (e : ℕ) → e < event_count s → IsLeastMoment s e (get_or low (suc e) 0)
kept_least s names arcs low high k e lt = record {
  occurs = (events_of low, low_schedule s names arcs low high k, refl);
  least = λ other m.
      (let h : moment low (suc e) ≤ℤ pos (m.0 e) = k.exact.least.least (lift m.0) (schedule_there s names arcs k.listed (lift m.0) m.0 (agree_lift m.0) m.1) (suc e) (omega (arith, lt, k.points)) in
      let is = m.2 in
      omega (arith, ints, h, is));
}

pub kept_greatest : (s : Setting) (names : List Edge) (arcs : List Arc) (low high : List ℕ) → IsKept s names arcs low high → (e : ℕ) → e < event_count s → IsGreatestMoment s e (get_or high (suc e) 0)
kept_greatest s names arcs low high k e lt = record {
  occurs = (events_of high, high_schedule s names arcs low high k, refl);
  greatest = λ other m.
      (let h : pos (m.0 e) ≤ℤ moment high (suc e) = k.exact.greatest.greatest (lift m.0) (schedule_there s names arcs k.listed (lift m.0) m.0 (agree_lift m.0) m.1) (suc e) (omega (arith, lt, k.points, k.exact.len)) in
      let is = m.2 in
      omega (arith, ints, h, is));
}

-- ---- a bound comes into force

held_of : (s : Setting) (id : ℕ) (b : Bound) (P : Bound → Type 0) → P b → ((q : ℕ) (c : Bound) → get s.bounds q ≡ Some c → P c) → (q : ℕ) (c : Bound) → get (with_bound s id b).bounds q ≡ Some c → P c
held_of s id b P new old q c is = elim (inserted s.bounds id q b c is) [ inl p ↦ subst P p.1 new | inr p ↦ old q c p ]

pub fit_added : (s : Setting) (id : ℕ) (b : Bound) → IsFit s → HasPoint s b.from → HasPoint s b.to → IsInRange b.w → IsFit (with_bound s id b)
fit_added s id b h from to weight =
    record {
      from = held_of s id b (λ c. HasPoint s c.from) from h.from;
      to = held_of s id b (λ c. HasPoint s c.to) to h.to;
      weight = held_of s id b (λ c. IsInRange c.w) weight h.weight;
      past = h.past;
      lags = h.lags;
      lag = h.lag;
      events = h.events;
      horizon = h.horizon;
      in_time = h.in_time;
      asks_nothing = h.asks_nothing;
    }

-- the edge is as before
abbrev pub Stays : Setting → Setting → Edge → Type 0
Stays s s' e = (c : Bound) → bound_of s' e ≡ Some c → bound_of s e ≡ Some c

pub still_there : (s : Setting) (id : ℕ) (b c : Bound) (e : Edge) → get s.bounds id ≡ None → bound_of s e ≡ Some c → bound_of (with_bound s id b) e ≡ Some c
still_there s id b c (Own j) none h =
    let ne : j.0 ≢ id = λ same. (let f : None ≡ Some c = sym none ∙ (ap (get s.bounds) (sym same) ∙ h) in let g : ⊥ = cc in g) in
    get_insert_other s.bounds id j.0 b ne ∙ h
still_there s id b c New none h = h
still_there s id b c (PastHigh e) none h = h
still_there s id b c (PastLow e) none h = h
still_there s id b c (Now e) none h = h
still_there s id b c (End e) none h = h

pub own_or : (s : Setting) (id : BoundId) (b : Bound) (e : Edge) → (e ≡ Own id) ⊎ Stays s (with_bound s id.0 b) e
own_or s id b (Own j) =
    elim (same_or j.0 id.0) [
      | inl same ↦ inl (ap (λ n. Own (record { 0 = n })) same)
      | inr ne ↦ inr (λ c h. sym (get_insert_other s.bounds id.0 j.0 b ne) ∙ h)
    ]
own_or s id b New = inr (λ c h. h)
own_or s id b (PastHigh e) = inr (λ c h. h)
own_or s id b (PastLow e) = inr (λ c h. h)
own_or s id b (Now e) = inr (λ c h. h)
own_or s id b (End e) = inr (λ c h. h)

pub listed_added : (s : Setting) (names : List Edge) (arcs : List Arc) (id : BoundId) (b : Bound) → AreArcs s names arcs → get s.bounds id.0 ≡ None
    → AreArcs (with_bound s id.0 b) (names ++ Own id ∷ []) (arcs ++ arc_of b ∷ [])
listed_added s names arcs id b a none =
    let s' : Setting = with_bound s id.0 b in
    let before : ListsArcs (Stays s s') s' names arcs =
    record {
      len = a.len;
      exist = λ k within. (let x = a.exist k within in (x.0, still_there s id.0 b x.0 (name_at names k) none x.1, x.2));
      all = λ e c is stays. a.all e c (stays c is) tt;
    } in
    listed_among (λ f. (f ≡ Own id) ⊎ Stays s s' f) (λ _. Unit {0}) s' (names ++ Own id ∷ []) (arcs ++ arc_of b ∷ [])
    (listed_more (Stays s s') s' names arcs (Own id) b before (get_inserted s.bounds id.0 b))
    (λ e c is q. own_or s id b e)

pub kept_added : (s : Setting) (names : List Edge) (arcs : List Arc) (low high : List ℕ) (id : BoundId) (b : Bound) (low' high' : List ℕ)
    → IsKept s names arcs low high → get s.bounds id.0 ≡ None → HasPoint s b.from → HasPoint s b.to → IsInRange b.w
    → length low' ≡ length low → AreExact (arcs ++ arc_of b ∷ []) low' high'
    → IsKept (with_bound s id.0 b) (names ++ Own id ∷ []) (arcs ++ arc_of b ∷ []) low' high'
kept_added s names arcs low high id b low' high' k none from to weight len exact = record {
  fit = fit_added s id.0 b k.fit from to weight;
  listed = listed_added s names arcs id b k.listed none;
  exact = exact;
  points = len ∙ k.points;
}

pub refused_add : (s : Setting) (names : List Edge) (arcs : List Arc) (low high : List ℕ) (id : ℕ) (b : Bound) (edges : List Edge)
    → IsKept s names arcs low high → get s.bounds id ≡ None → NamesCycle names arcs New (arc_of b) edges
    → Refutes IsNew (proposing s b) (with_bound s id b) edges
refused_add s names arcs low high id b edges k none h =
    let stand = stand_more (proposing s b) names arcs New b
    (stand_of s (proposing s b) names arcs k.listed (λ e c is. (c, edge_proposing s b c e k.fit.asks_nothing is, refl, refl, omega (arith, ints)))) k.listed.len refl in
    subst (λ es. Refutes IsNew (proposing s b) (with_bound s id b) es) (sym h.2)
    (refutes_new s id b (map (name_at (names ++ New ∷ [])) h.0) none
    (reason_of (proposing s b) (names ++ New ∷ []) (arcs ++ arc_of b ∷ []) stand h.0 h.1.negative)
    (first_named IsNew names New arcs (arc_of b) h.0 k.listed.len refl h.1))

-- ---- what the engine asks for

pub kept_small_low : (s : Setting) (names : List Edge) (arcs : List Arc) (low high : List ℕ) → IsKept s names arcs low high → All IsSmall low
kept_small_low s names arcs low high k = all_small s names arcs low k.fit k.listed k.exact.least.solution k.points

pub kept_small_high : (s : Setting) (names : List Edge) (arcs : List Arc) (low high : List ℕ) → IsKept s names arcs low high → All IsSmall high
kept_small_high s names arcs low high k = all_small s names arcs high k.fit k.listed k.exact.greatest.solution (sym k.exact.len ∙ k.points)

pub kept_weights : (s : Setting) (names : List Edge) (arcs : List Arc) (low high : List ℕ) → IsKept s names arcs low high → All (λ (e : Arc). IsSmallWeight e.weight) arcs
kept_weights s names arcs low high k = all_small_weight s names arcs k.fit k.listed

pub kept_among : (s : Setting) (names : List Edge) (arcs : List Arc) (low high : List ℕ) → IsKept s names arcs low high → All (JoinsPoints (length low)) arcs
kept_among s names arcs low high k = all_join s names arcs (length low) k.fit k.listed k.points

pub kept_low_fits : (s : Setting) (names : List Edge) (arcs : List Arc) (low high : List ℕ) → IsKept s names arcs low high → (e : ℕ) → e < event_count s → get_or low (suc e) 0 < 2 ^ 32
kept_low_fits s names arcs low high k e lt =
    let h = in_horizon s (events_of low) k.fit (low_schedule s names arcs low high k) e lt in
    let end = k.fit.horizon in
    omega (arith, h, end)

pub kept_high_fits : (s : Setting) (names : List Edge) (arcs : List Arc) (low high : List ℕ) → IsKept s names arcs low high → (e : ℕ) → e < event_count s → get_or high (suc e) 0 < 2 ^ 32
kept_high_fits s names arcs low high k e lt =
    let h = in_horizon s (events_of high) k.fit (high_schedule s names arcs low high k) e lt in
    let end = k.fit.horizon in
    omega (arith, h, end)

pub cycle_named : (names : List Edge) (arcs : List Arc) (a : Arc) (cycle : List ℕ) → length names ≡ length arcs → CycleBeginsWith (arcs ++ a ∷ []) (length arcs) cycle → All (λ k. k ≤ length names) cycle
cycle_named names arcs a cycle len h k d within =
    let inside = chain_names (arcs ++ a ∷ []) h.negative.start h.negative.start cycle h.negative.chain k d within in
    omega (arith, inside, len, length-append arcs (a ∷ []))

-- ---- a bound that no schedule meets

pub contrary : (s : Setting) (names : List Edge) (arcs : List Arc) (low high : List ℕ) (names' : List Edge) (b : Bound) → IsKept s names arcs low high → length names' ≡ length names
    → IsLawful s b → HasNoSolution (arcs ++ arc_of b ∷ []) → IsContrary names' arcs low (arc_of b)
contrary s names arcs low high names' b k len law none = record {
  len = len ∙ k.listed.len;
  holds = record {
    origin = omega (arith, k.points);
    small = kept_small_low s names arcs low high k;
    weights = kept_weights s names arcs low high k;
    among = kept_among s names arcs low high k;
    least = k.exact.least;
  };
  weight = small_weight b.w law.weight;
  among = joins s b (length low) k.points law.from law.to;
  none = none;
}

none_after : (arcs : List Arc) (high : List ℕ) (e m : ℕ) → IsGreatest arcs high → suc e < length high → get_or high (suc e) 0 < m → HasNoSolution (arcs ++ arc_of (at_least e m) ∷ [])
none_after arcs high e m g within early t solution =
    let parts = without_new arcs (arc_of (at_least e m)) t solution in
    let below : t (suc e) ≤ℤ moment high (suc e) = g.greatest t parts.0 (suc e) within in
    let met : t 0 ≤ℤ (t (suc e) +ℤ (pos 0 -ℤ pos m)) = parts.1 in
    let origin = solution.0 in
    omega (arith, ints, below, met, origin, early)

none_before : (arcs : List Arc) (low : List ℕ) (e m : ℕ) → IsLeast arcs low → suc e < length low → m < get_or low (suc e) 0 → HasNoSolution (arcs ++ arc_of (at_most e m) ∷ [])
none_before arcs low e m l within late t solution =
    let parts = without_new arcs (arc_of (at_most e m)) t solution in
    let above : moment low (suc e) ≤ℤ t (suc e) = l.least t parts.0 (suc e) within in
    let met : t (suc e) ≤ℤ (t 0 +ℤ pos m) = parts.1 in
    let origin = solution.0 in
    omega (arith, ints, above, met, origin, late)

-- the event has to happen before the moment
pub contrary_after : (s : Setting) (names : List Edge) (arcs : List Arc) (low high : List ℕ) (names' : List Edge) (e m : ℕ) → IsKept s names arcs low high → length names' ≡ length names
    → e < event_count s → m ≤ s.horizon → get_or high (suc e) 0 < m → IsContrary names' arcs low (arc_of (at_least e m))
contrary_after s names arcs low high names' e m k len lt soon early =
    let end = k.fit.horizon in
    contrary s names arcs low high names' (at_least e m) k len (lawful_least s e m lt (omega (arith, soon, end)))
    (none_after arcs high e m k.exact.greatest (omega (arith, lt, k.points, k.exact.len)) early)

-- the event has to happen after the moment
pub contrary_before : (s : Setting) (names : List Edge) (arcs : List Arc) (low high : List ℕ) (names' : List Edge) (e m : ℕ) → IsKept s names arcs low high → length names' ≡ length names
    → e < event_count s → m ≤ s.horizon → m < get_or low (suc e) 0 → IsContrary names' arcs low (arc_of (at_most e m))
contrary_before s names arcs low high names' e m k len lt soon late =
    let end = k.fit.horizon in
    contrary s names arcs low high names' (at_most e m) k len (lawful_most s e m lt (omega (arith, soon, end)))
    (none_before arcs low e m k.exact.least (omega (arith, lt, k.points)) late)
