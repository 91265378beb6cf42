-- The parts of a split: each has a schedule, and schedules of all are one of the whole.
use Rattle.std.proofs.Common.{◌≡◌, ℕ, zero, suc, ◌+◌, ◌<◌, ◌≤◌, inl, inr, Bool, true, false, cond, nat_eq, List, [], ◌∷◌, ◌++◌, length, get_or, slice_get, Option, Some, None, ℤ, pos, ◌+ℤ◌, ◌-ℤ◌, ◌≤ℤ◌, refl, sym, ap, subst, ◌∙◌, arith}
use Rattle.std.proofs.lemmas.Int.{ints}
use Rattle.std.proofs.lemmas.Bool.{cases_eq, eqb-true, eq-eqb, ne_eqb, cond-true, cond-false}
use Rattle.std.proofs.lemmas.Option.{same_Some, slice_get-get_or, slice_get_cases, get_or_from_slice_get}
use Rattle.std.specs.FinMap.{get, values}
use Rattle.tp_bounds.specs.declared.Point.{Point}
use Rattle.tp_bounds.specs.declared.Point.TheVariants.{Origin, Event}
use Rattle.tp_bounds.specs.declared.Bound.{Bound}
use Rattle.tp_bounds.specs.Setting.{Setting, event_count, fixed_at, HasPoint}
use Rattle.tp_bounds.specs.Schedule.{moment_of, Meets}
use Rattle.tp_bounds.specs.Lawful.{IsLawful}
use Rattle.tp_bounds.specs.OwnBounds.{MeetsEach, IsWithin}
use Rattle.tp_bounds.specs.Certificates.{moments_of, IsListedSchedule}
use Rattle.tp_bounds.proofs.Schedules.{is_schedule, schedule_is}
use Rattle.tp_exec_machine.specs.declared.command.Report.{Report}
use Rattle.tp_agents.specs.declared.crosses.CrossBound.{CrossBound}
use Rattle.tp_agents.specs.Owners.{owner_of, agent_count, events_of, place_of}
use Rattle.tp_agents.specs.Crosses.{cross_between, cross_of}
use Rattle.tp_agents.specs.Parts.{own_point, bound_between, inner_of, inner_bounds, keeps_interval, keeps_intervals, part_bounds}
use Rattle.tp_agents.specs.Splits.{IsSplit}
use Rattle.tp_agents.specs.Decoupled.{AreInside, HasPartSchedules}
use Rattle.tp_agents.specs.Joined.{moments_told, AreJoined, KeepParts}
use Rattle.tp_agents.proofs.InForce.{Among, get_among, among_get, among_map, map_among}
use Rattle.tp_agents.proofs.OnSettings.{bound_as, no_some}
use Rattle.tp_agents.proofs.Lists.{all_both}
use Rattle.tp_agents.proofs.Places.{stands_at_place, owner_counted}
use Rattle.tp_agents.proofs.Told.{told_is}
use Rattle.tp_agents.proofs.Decoupling.{decouples, least_here, least_in_time, has_interval}

-- ---- bounds that are met, one by one

meets_front : (t : ℕ → ℕ) (xs ys : List Bound) → MeetsEach t (xs ++ ys) → MeetsEach t xs
meets_front t [] ys h = tt
meets_front t (x ∷ xs) ys h = (h.0, meets_front t xs ys h.1)

meets_rest : (t : ℕ → ℕ) (xs ys : List Bound) → MeetsEach t (xs ++ ys) → MeetsEach t ys
meets_rest t [] ys h = h
meets_rest t (x ∷ xs) ys h = meets_rest t xs ys h.1

meets_of : (t : ℕ → ℕ) (xs : List Bound) (b : Bound) → MeetsEach t xs → Among b xs → Meets t b
meets_of t [] b h a = absurd a
meets_of t (x ∷ xs) b h (inl same) = subst (Meets t) same h.0
meets_of t (x ∷ xs) b h (inr a) = meets_of t xs b h.1 a

meets_by : (t : ℕ → ℕ) (xs : List Bound) → ((b : Bound) → Among b xs → Meets t b) → MeetsEach t xs
meets_by t [] h = tt
meets_by t (x ∷ xs) h = (h x (inl refl), meets_by t xs (λ b a. h b (inr a)))

-- ---- a bound of the whole as an agent numbers its events

-- moments of the agent's events and of those of the whole, that agree at each of the agent's
abbrev pub Agree : List ℕ → ℕ → (ℕ → ℕ) → (ℕ → ℕ) → Type 0
Agree owners agent t u =
    (e : ℕ) → e < length owners → owner_of owners e ≡ agent → t (place_of owners e) ≡ u e

point_if : (owners : List ℕ) (agent e : ℕ) (q : Point) (t u : ℕ → ℕ) → e < length owners → Agree owners agent t u → (b : Bool) → nat_eq (owner_of owners e) agent ≡ b → cond b (Some (Event (place_of owners e))) None ≡ Some q → moment_of t q ≡ u e
point_if owners agent e q t u lt agree true is h =
    ap (moment_of t) (sym (same_Some (Event (place_of owners e)) q h)) ∙ agree e lt (eqb-true (owner_of owners e) agent is)
point_if owners agent e q t u lt agree false is h = absurd (let f : ⊥ = cc in f)

own_moment : (s : Setting) (owners : List ℕ) (agent : ℕ) (p q : Point) (t u : ℕ → ℕ) → length owners ≡ event_count s → HasPoint s p → Agree owners agent t u → own_point owners agent p ≡ Some q → moment_of t q ≡ moment_of u p
own_moment s owners agent Origin q t u count has agree h = ap (moment_of t) (sym (same_Some Origin q h))
own_moment s owners agent (Event e) q t u count has agree h =
    point_if owners agent e q t u (subst (λ n. e < n) (sym count) has) agree (nat_eq (owner_of owners e) agent) refl h

pub record IsInner (owners : List ℕ) (agent : ℕ) (b c : Bound) : Type 0 where
  pub from : own_point owners agent b.from ≡ Some c.from
  pub to : own_point owners agent b.to ≡ Some c.to
  pub weight : b.w ≡ c.w

between_is : (o p : Option Point) (w : ℤ) (c : Bound) → bound_between o p w ≡ Some c → (o ≡ Some c.from) × (p ≡ Some c.to) × (w ≡ c.w)
between_is None p w c h = absurd (let f : ⊥ = cc in f)
between_is (Some x) None w c h = absurd (let f : ⊥ = cc in f)
between_is (Some x) (Some y) w c h =
    let same : ◌≡◌ {A = Bound} (record { from = x; to = y; w = w }) c = same_Some _ c h in
    (ap (λ (b : Bound). Some b.from) same, ap (λ (b : Bound). Some b.to) same, ap (λ (b : Bound). b.w) same)

pub inner_is : (owners : List ℕ) (agent : ℕ) (b c : Bound) → inner_of owners agent b ≡ Some c → IsInner owners agent b c
inner_is owners agent b c h =
    let p = between_is (own_point owners agent b.from) (own_point owners agent b.to) b.w c h in
    record { from = p.0; to = p.1; weight = p.2 }

as_weighed : (a a' b b' : ℕ) (v w : ℤ) → a' ≡ a → b' ≡ b → v ≡ w → pos a ≤ℤ (pos b +ℤ v) → pos a' ≤ℤ (pos b' +ℤ w)
as_weighed a a' b b' v w p q r h = omega (arith, ints)

module _ (s : Setting) (owners : List ℕ) (agent : ℕ) (t u : ℕ → ℕ) (count : length owners ≡ event_count s) (agree : Agree owners agent t u) where
  inner_met : (b c : Bound) → HasPoint s b.from → HasPoint s b.to → inner_of owners agent b ≡ Some c → Meets u b → Meets t c
  inner_met b c from to is h =
      let i = inner_is owners agent b c is in
      as_weighed (moment_of u b.to) (moment_of t c.to) (moment_of u b.from) (moment_of t c.from) b.w c.w
      (own_moment s owners agent b.to c.to t u count to agree i.to)
      (own_moment s owners agent b.from c.from t u count from agree i.from) i.weight h

  inner_told : (b c : Bound) → HasPoint s b.from → HasPoint s b.to → inner_of owners agent b ≡ Some c → Meets t c → Meets u b
  inner_told b c from to is h =
      let i = inner_is owners agent b c is in
      as_weighed (moment_of t c.to) (moment_of u b.to) (moment_of t c.from) (moment_of u b.from) c.w b.w
      (sym (own_moment s owners agent b.to c.to t u count to agree i.to))
      (sym (own_moment s owners agent b.from c.from t u count from agree i.from)) (sym i.weight) h

  -- a schedule of the whole meets the inner bounds
  pub inner_all_met : IsLawful s → ((id : ℕ) (b : Bound) → get s.bounds id ≡ Some b → Meets u b) → MeetsEach t (inner_bounds s owners agent)
  inner_all_met lawful met =
      meets_by t (inner_bounds s owners agent) (λ c a.
      let m = map_among (inner_of owners agent) (values s.bounds) c a in
      let g = among_get s.bounds m.0 m.1 in
      let suits = lawful.in_force g.0 m.0 g.1 in
      inner_met m.0 c suits.from suits.to m.2 (met g.0 m.0 g.1))

  -- moments that meet the inner bounds meet the bound that one comes from
  pub inner_one_met : IsLawful s → MeetsEach t (inner_bounds s owners agent) → (id : ℕ) (b c : Bound) → get s.bounds id ≡ Some b → inner_of owners agent b ≡ Some c → Meets u b
  inner_one_met lawful each id b c there is =
      let suits = lawful.in_force id b there in
      inner_told b c suits.from suits.to is
      (meets_of t (inner_bounds s owners agent) c each (among_map (inner_of owners agent) (values s.bounds) b c (get_among s.bounds id b there) is))

-- ---- the bounds that keep an interval

above_low : (t low : ℕ) → low ≤ t → pos 0 ≤ℤ (pos t +ℤ (pos 0 -ℤ pos low))
above_low t low h = omega (arith, ints)

below_high : (t high : ℕ) → t ≤ high → pos t ≤ℤ (pos 0 +ℤ pos high)
below_high t high h = omega (arith, ints)

low_above : (t low : ℕ) → pos 0 ≤ℤ (pos t +ℤ (pos 0 -ℤ pos low)) → low ≤ t
low_above t low h = omega (arith, ints)

high_below : (t high : ℕ) → pos t ≤ℤ (pos 0 +ℤ pos high) → t ≤ high
high_below t high h = omega (arith, ints)

abbrev IsKept : Option (ℕ × ℕ) → ℕ → Type 0
IsKept o m = (i : ℕ × ℕ) → o ≡ Some i → (i.0 ≤ m) × (m ≤ i.1)

kept_met : (t : ℕ → ℕ) (place : ℕ) (o : Option (ℕ × ℕ)) → IsKept o (t place) → MeetsEach t (keeps_interval place o)
kept_met t place None h = tt
kept_met t place (Some i) h =
    let k = h i refl in
    (above_low (t place) i.0 k.0, (below_high (t place) i.1 k.1, tt))

met_kept : (t : ℕ → ℕ) (place : ℕ) (o : Option (ℕ × ℕ)) → MeetsEach t (keeps_interval place o) → IsKept o (t place)
met_kept t place None h i is = absurd (let f : ⊥ = cc in f)
met_kept t place (Some j) h i is =
    subst (λ (k : ℕ × ℕ). (k.0 ≤ t place) × (t place ≤ k.1)) (same_Some j i is) (low_above (t place) j.0 h.0, high_below (t place) j.1 h.1.0)

place_first : (n : ℕ) → n + 0 ≡ n
place_first n = omega arith

place_next : (n k : ℕ) → n + suc k ≡ suc n + k
place_next n k = omega arith

pub all_kept_met : (xs : List (Option (ℕ × ℕ))) (t : ℕ → ℕ) (place : ℕ) (es : List ℕ) → ((k : ℕ) → k < length es → IsKept (get_or xs (get_or es k 0) None) (t (place + k))) → MeetsEach t (keeps_intervals xs place es)
all_kept_met xs t place [] h = tt
all_kept_met xs t place (e ∷ es) h =
    all_both (Meets t) (keeps_interval place (get_or xs e None)) (keeps_intervals xs (suc place) es)
    (kept_met t place (get_or xs e None) (subst (λ n. IsKept (get_or xs e None) (t n)) (place_first place) (h 0 (omega arith))))
    (all_kept_met xs t (suc place) es (λ k lt. subst (λ n. IsKept (get_or xs (get_or es k 0) None) (t n)) (place_next place k) (h (suc k) (omega arith))))

pub met_all_kept : (xs : List (Option (ℕ × ℕ))) (t : ℕ → ℕ) (place : ℕ) (es : List ℕ) → MeetsEach t (keeps_intervals xs place es) → (k : ℕ) → k < length es → IsKept (get_or xs (get_or es k 0) None) (t (place + k))
met_all_kept xs t place [] h k lt = absurd (let f : ⊥ = omega arith in f)
met_all_kept xs t place (e ∷ es) h zero lt =
    subst (λ n. IsKept (get_or xs e None) (t n)) (sym (place_first place))
    (met_kept t place (get_or xs e None) (meets_front t (keeps_interval place (get_or xs e None)) (keeps_intervals xs (suc place) es) h))
met_all_kept xs t place (e ∷ es) h (suc k) lt =
    subst (λ n. IsKept (get_or xs (get_or es k 0) None) (t n)) (sym (place_next place k))
    (met_all_kept xs t (suc place) es (meets_rest t (keeps_interval place (get_or xs e None)) (keeps_intervals xs (suc place) es) h) k (omega arith))

none_more : (k : ℕ) → k ≡ 0 + k
none_more k = omega arith

none_fewer : (k : ℕ) → 0 + k ≡ k
none_fewer k = omega arith

-- ---- each part has a schedule

module _ (s : Setting) (owners least : List ℕ) (xs : List (Option (ℕ × ℕ))) (sp : IsSplit s owners least xs) (lawful : IsLawful s) where
  own_agrees : (agent : ℕ) → Agree owners agent (λ place. moments_of least (get_or (events_of owners agent) place 0)) (moments_of least)
  own_agrees agent e lt is =
      let at : get_or (events_of owners (owner_of owners e)) (place_of owners e) 0 ≡ e = (stands_at_place owners e lt).is in
      ap (moments_of least) (ap (λ a. get_or (events_of owners a) (place_of owners e) 0) (sym is) ∙ at)

  kept_at : (k agent : ℕ) (i : ℕ × ℕ) → get_or xs (get_or (events_of owners agent) k 0) None ≡ Some i → (i.0 ≤ moments_of least (get_or (events_of owners agent) (0 + k) 0)) × (moments_of least (get_or (events_of owners agent) (0 + k) 0) ≤ i.1)
  kept_at k agent i is =
      subst (λ n. (i.0 ≤ moments_of least (get_or (events_of owners agent) n 0)) × (moments_of least (get_or (events_of owners agent) n 0) ≤ i.1)) (none_more k)
      (least_here s owners least xs sp (get_or (events_of owners agent) k 0) i is)

  pub parts_possible : HasPartSchedules s owners xs
  parts_possible agent =
      let t : ℕ → ℕ = λ place. moments_of least (get_or (events_of owners agent) place 0) in (
        t,
        is_schedule (length (events_of owners agent)) s.horizon t (part_bounds s owners xs agent)
            (λ place lt. least_in_time s owners least xs sp (get_or (events_of owners agent) place 0))
            (all_both (Meets t) (inner_bounds s owners agent) (keeps_intervals xs 0 (events_of owners agent))
            (inner_all_met s owners agent t (moments_of least) sp.owned.count (own_agrees agent) lawful sp.solved.schedule.is.in_force)
            (all_kept_met xs t 0 (events_of owners agent) (λ k lt i is. kept_at k agent i is))),
      )

  -- ---- schedules of the parts, joined

  module _ (reports : List Report) (moments : List ℕ) (all : length reports ≡ agent_count owners) (joined : AreJoined owners reports moments) (keep : KeepParts s owners xs reports) where
    -- the report of the agent of an event
    report_there : (e : ℕ) → e < length owners → (r : Report) × (slice_get reports (owner_of owners e) ≡ Some r)
    report_there e lt =
        elim (slice_get_cases reports (owner_of owners e)).1 [
          | inl w ↦ (w.0, w.2)
          | inr w ↦ absurd (let f : ⊥ = omega (arith, w.0, owner_counted owners e lt) in f)
        ]

    -- it tells the event's moment
    told : (r : Report) (e : ℕ) → e < length owners → slice_get reports (owner_of owners e) ≡ Some r → moments_of (moments_told r) (place_of owners e) ≡ moments_of moments e
    told r e lt there =
        let same : slice_get moments e ≡ slice_get (moments_told r) (place_of owners e) = joined.each e lt ∙ told_is owners reports e r there in
        let here : slice_get moments e ≡ Some (moments_of moments e) = slice_get-get_or moments e 0 (omega (arith, joined.count)) in
        get_or_from_slice_get (moments_told r) (place_of owners e) (moments_of moments e) 0 (sym same ∙ here)

    agrees : (agent : ℕ) (r : Report) → slice_get reports agent ≡ Some r → Agree owners agent (moments_of (moments_told r)) (moments_of moments)
    agrees agent r there e lt is = told r e lt (ap (slice_get reports) is ∙ there)

    -- its part's bounds are met
    part_met : (agent : ℕ) (r : Report) → slice_get reports agent ≡ Some r → IsWithin (length (events_of owners agent)) s.horizon (moments_of (moments_told r)) × MeetsEach (moments_of (moments_told r)) (part_bounds s owners xs agent)
    part_met agent r there = schedule_is (length (events_of owners agent)) s.horizon (moments_of (moments_told r)) (part_bounds s owners xs agent) (keep agent r there).schedule

    in_time : (e : ℕ) → e < length owners → moments_of moments e ≤ s.horizon
    in_time e lt =
        let r = report_there e lt in
        let within : place_of owners e < length (events_of owners (owner_of owners e)) = (stands_at_place owners e lt).within in
        subst (λ n. n ≤ s.horizon) (told r.0 e lt r.1) ((part_met (owner_of owners e) r.0 r.1).0 (place_of owners e) within)

    inside : AreInside xs (moments_of moments)
    inside e i is =
        let lt : e < length owners = omega (arith, has_interval xs e i is, sp.decoupled.count, sp.solved.count, sp.owned.count) in
        let r = report_there e lt in
        let agent : ℕ = owner_of owners e in
        let at = stands_at_place owners e lt in
        let t : ℕ → ℕ = moments_of (moments_told r.0) in
        let kept = met_all_kept xs t 0 (events_of owners agent) (meets_rest t (inner_bounds s owners agent) (keeps_intervals xs 0 (events_of owners agent)) (part_met agent r.0 r.1).1) (place_of owners e) at.within i (ap (λ d. get_or xs d None) at.is ∙ is) in
        subst (λ n. (i.0 ≤ n) × (n ≤ i.1)) (ap t (none_fewer (place_of owners e)) ∙ told r.0 e lt r.1) kept

    inner_bound_met : (agent : ℕ) (r : Report) → slice_get reports agent ≡ Some r → (id : ℕ) (b c : Bound) → get s.bounds id ≡ Some b → inner_of owners agent b ≡ Some c → Meets (moments_of moments) b
    inner_bound_met agent r there id b c got is =
        let t : ℕ → ℕ = moments_of (moments_told r) in
        inner_one_met s owners agent t (moments_of moments) sp.owned.count (agrees agent r there) lawful (meets_front t (inner_bounds s owners agent) (keeps_intervals xs 0 (events_of owners agent)) (part_met agent r there).1) id b c got is

    own_event : (agent e : ℕ) → owner_of owners e ≡ agent → own_point owners agent (Event e) ≡ Some (Event (place_of owners e))
    own_event agent e is = cond-true (nat_eq (owner_of owners e) agent) (Some (Event (place_of owners e))) None (eq-eqb (owner_of owners e) agent is)

    inner_given : (agent : ℕ) (b : Bound) (p q : Point) → own_point owners agent b.from ≡ Some p → own_point owners agent b.to ≡ Some q → inner_of owners agent b ≡ Some (record { from = p; to = q; w = b.w })
    inner_given agent b p q from to = ap (λ o. bound_between o (own_point owners agent b.to) b.w) from ∙ ap (λ o. bound_between (Some p) o b.w) to

    known : (e : ℕ) → HasPoint s (Event e) → e < length owners
    known e h = subst (λ n. e < n) (sym sp.owned.count) h

    bound_met : (id : ℕ) (b : Bound) → get s.bounds id ≡ Some b → (p q : Point) → b.from ≡ p → b.to ≡ q → HasPoint s p → HasPoint s q → Meets (moments_of moments) b
    bound_met id b got Origin Origin from to hp hq =
        let met : Meets (moments_of least) b = sp.solved.schedule.is.in_force id b got in
        bound_as (moment_of (moments_of least) b.to) (moment_of (moments_of moments) b.to) (moment_of (moments_of least) b.from) (moment_of (moments_of moments) b.from) b.w
        (ap (moment_of (moments_of moments)) to ∙ sym (ap (moment_of (moments_of least)) to)) (ap (moment_of (moments_of moments)) from ∙ sym (ap (moment_of (moments_of least)) from)) met
    bound_met id b got Origin (Event e) from to hp hq =
        let r = report_there e (known e hq) in
        inner_bound_met (owner_of owners e) r.0 r.1 id b (record { from = Origin; to = Event (place_of owners e); w = b.w }) got
        (inner_given (owner_of owners e) b Origin (Event (place_of owners e)) (ap (own_point owners (owner_of owners e)) from) (ap (own_point owners (owner_of owners e)) to ∙ own_event (owner_of owners e) e refl))
    bound_met id b got (Event d) Origin from to hp hq =
        let r = report_there d (known d hp) in
        inner_bound_met (owner_of owners d) r.0 r.1 id b (record { from = Event (place_of owners d); to = Origin; w = b.w }) got
        (inner_given (owner_of owners d) b (Event (place_of owners d)) Origin (ap (own_point owners (owner_of owners d)) from ∙ own_event (owner_of owners d) d refl) (ap (own_point owners (owner_of owners d)) to))
    bound_met id b got (Event d) (Event e) from to hp hq =
        elim (cases_eq (owner_of owners d) (owner_of owners e)) [
          | inl same ↦
              let r = report_there e (known e hq) in
              let agent : ℕ = owner_of owners e in
              inner_bound_met agent r.0 r.1 id b (record { from = Event (place_of owners d); to = Event (place_of owners e); w = b.w }) got
              (inner_given agent b (Event (place_of owners d)) (Event (place_of owners e)) (ap (own_point owners agent) from ∙ own_event agent d same) (ap (own_point owners agent) to ∙ own_event agent e refl))
          | inr apart ↦
              let c : CrossBound = record { from = d; to = e; w = b.w } in
              let is : cross_of owners b ≡ Some c =
              ap (λ p. cross_between owners p b.to b.w) from ∙ (ap (λ q. cross_between owners (Event d) q b.w) to ∙ cond-false {A = Option CrossBound} (nat_eq (owner_of owners d) (owner_of owners e)) None (Some c) (ne_eqb (owner_of owners d) (owner_of owners e) apart)) in
              decouples s owners least xs sp lawful (moments_of moments) b inside (id, got, (c, is))
        ]

    pub joined_schedule : IsListedSchedule s moments
    joined_schedule =
        record {
          each = joined.count ∙ sp.owned.count;
          schedule = record {
            past = λ e m f. no_some m (fixed_at s e) (sp.unbegun.no_past e) f;
            floor = λ e l f. omega (arith, sp.unbegun.start);
            end = λ e l f. in_time e (subst (λ n. e < n) (sym sp.owned.count) l);
            in_force = λ id b got. let suits = lawful.in_force id b got in bound_met id b got b.from b.to refl refl suits.from suits.to;
            proposed = λ b f. no_some b s.proposed sp.unbegun.asks_nothing f;
          };
        }
