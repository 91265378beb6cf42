-- Settings in which nothing has happened, and what a network of some of their bounds says of them.
use Rattle.std.proofs.Common.{◌≡◌, ℕ, ◌<◌, ◌≤◌, inl, inr, cond, ◌&&◌, nat_lt, is_none, List, [], ◌∷◌, length, map, Option, Some, None, option_map, ℤ, pos, ◌+ℤ◌, ◌≤ℤ◌, refl, sym, ap, subst, ◌∙◌, arith}
use Rattle.std.proofs.lemmas.Int.{ints}
use Rattle.std.proofs.lemmas.Bool.{cases_lt}
use Rattle.std.proofs.lemmas.List.{get_or_past}
use Rattle.std.specs.FinMap.{get}
use Rattle.tp_bounds.specs.declared.Point.{Point}
use Rattle.tp_bounds.specs.declared.Point.TheVariants.{Origin, Event}
use Rattle.tp_bounds.specs.declared.Bound.{Bound}
use Rattle.tp_bounds.specs.declared.BoundId.{BoundId}
use Rattle.tp_bounds.specs.declared.Edge.{Edge}
use Rattle.tp_bounds.specs.declared.Edge.TheVariants.{Own, New, PastHigh, PastLow, Now, End}
use Rattle.tp_bounds.specs.Setting.{Setting, event_count, fixed_at, floor_of, HasPoint}
use Rattle.tp_bounds.specs.Schedule.{Meets, moment_of, IsSchedule}
use Rattle.tp_bounds.specs.Lawful.{Suits, IsLawful}
use Rattle.tp_bounds.specs.Changes.{with_bound, proposing}
use Rattle.tp_bounds.specs.Certificates.{moments_of}
use Rattle.tp_bounds.specs.Reasons.{at_most, at_least, is_open, bound_of, AreBounds}
use Rattle.tp_exec_machine.proofs.Least.{IsLeastBelow}
use Rattle.tp_net.specs.Faults.{Refutes, IsNew}
use Rattle.tp_net.proofs.Laws.{get_inserted, get_insert_other}
use Rattle.tp_agents.specs.Splits.{IsUnbegun, AreLeast}
use Rattle.tp_agents.specs.Answers.{as_own, Contradicts}

pub no_some : {A P : Type 0} (x : A) (o : Option A) → o ≡ None → o ≡ Some x → P
no_some x o none some = absurd (let f : ⊥ = cc in f)

-- ---- moments that agree at each event

point_agrees : (s : Setting) (t u : ℕ → ℕ) → ((k : ℕ) → k < event_count s → u k ≡ t k) → (p : Point) → HasPoint s p → moment_of u p ≡ moment_of t p
point_agrees s t u same Origin h = refl
point_agrees s t u same (Event e) h = same e h

pub bound_as : (a a' b b' : ℕ) (w : ℤ) → a' ≡ a → b' ≡ b → pos a ≤ℤ (pos b +ℤ w) → pos a' ≤ℤ (pos b' +ℤ w)
bound_as a a' b b' w p q h = omega (arith, ints)

meets_as : (t u : ℕ → ℕ) (b : Bound) → moment_of u b.from ≡ moment_of t b.from → moment_of u b.to ≡ moment_of t b.to → Meets t b → Meets u b
meets_as t u b p q h =
    let from : moment_of u b.from ≡ moment_of t b.from = p in
    let to : moment_of u b.to ≡ moment_of t b.to = q in
    bound_as (moment_of t b.to) (moment_of u b.to) (moment_of t b.from) (moment_of u b.from) b.w to from h

suits_agrees : (s : Setting) (t u : ℕ → ℕ) → ((k : ℕ) → k < event_count s → u k ≡ t k) → (b : Bound) → Suits s b → Meets t b → Meets u b
suits_agrees s t u same b suits h =
    meets_as t u b (point_agrees s t u same b.from suits.from) (point_agrees s t u same b.to suits.to) h

is_event : (s : Setting) (e m : ℕ) → fixed_at s e ≡ Some m → e < event_count s
is_event s e m f =
    elim (cases_lt e (event_count s)) [
      | inl lt ↦ lt
      | inr ge ↦ no_some m (fixed_at s e) (get_or_past s.fixed e None ge) f
    ]

-- a schedule is one whatever it says of what is no event
pub schedule_agrees : (s : Setting) → IsLawful s → (t u : ℕ → ℕ) → ((k : ℕ) → k < event_count s → u k ≡ t k) → IsSchedule s t → IsSchedule s u
schedule_agrees s lawful t u same h =
    record {
      past = λ e m f. same e (is_event s e m f) ∙ h.past e m f;
      floor = λ e l f. subst (λ n. floor_of s e ≤ n) (sym (same e l)) (h.floor e l f);
      end = λ e l f. subst (λ n. n ≤ s.horizon) (sym (same e l)) (h.end e l f);
      in_force = λ id b g. suits_agrees s t u same b (lawful.in_force id b g) (h.in_force id b g);
      proposed = λ b g. suits_agrees s t u same b (lawful.proposed b g) (h.proposed b g);
    }

-- ---- a setting with some of the bounds of another

-- nothing has happened in either, and what is in force in the first is in force in the second
pub record IsPartOf (r s : Setting) : Type 0 where
  pub one : IsUnbegun r
  pub other : IsUnbegun s
  pub count : event_count r ≡ event_count s
  pub until : r.horizon ≡ s.horizon
  pub held : (id : ℕ) (b : Bound) → get r.bounds id ≡ Some b → get s.bounds id ≡ Some b

pub schedule_of_part : (r s : Setting) → IsPartOf r s → (t : ℕ → ℕ) → IsSchedule s t → IsSchedule r t
schedule_of_part r s p t h =
    record {
      past = λ e m f. no_some m (fixed_at r e) (p.one.no_past e) f;
      floor = λ e l f. omega (arith, p.one.start);
      end = λ e l f. subst (λ n. t e ≤ n) (sym p.until) (h.end e (subst (λ n. e < n) p.count l) (p.other.no_past e));
      in_force = λ id b g. h.in_force id b (p.held id b g);
      proposed = λ b f. no_some b r.proposed p.one.asks_nothing f;
    }

open_as : (r s : Setting) → IsPartOf r s → (e : ℕ) → is_open r e ≡ is_open s e
open_as r s p e =
    ap (λ n. nat_lt e n && is_none (fixed_at r e)) p.count
    ∙ ap (λ o. nat_lt e (event_count s) && is_none o) (p.one.no_past e ∙ sym (p.other.no_past e))

floor_as : (r s : Setting) → IsPartOf r s → (e : ℕ) → floor_of r e ≡ floor_of s e
floor_as r s p e =
    let a : floor_of r e ≡ 0 = omega (arith, p.one.start) in
    let b : floor_of s e ≡ 0 = omega (arith, p.other.start) in
    a ∙ sym b

bound_in_part : (r s : Setting) → IsPartOf r s → (e : Edge) (b : Bound) → bound_of r e ≡ Some b → bound_of s e ≡ Some b
bound_in_part r s p (Own id) b is = p.held id.0 b is
bound_in_part r s p New b is = no_some b r.proposed p.one.asks_nothing is
bound_in_part r s p (PastHigh e) b is = no_some b (option_map (at_most e) (fixed_at r e)) (ap (option_map (at_most e)) (p.one.no_past e)) is
bound_in_part r s p (PastLow e) b is = no_some b (option_map (at_least e) (fixed_at r e)) (ap (option_map (at_least e)) (p.one.no_past e)) is
bound_in_part r s p (Now e) b is =
    sym (ap (λ o. cond o (Some (at_least e (floor_of r e))) None) (open_as r s p e)
    ∙ ap (λ n. cond (is_open s e) (Some (at_least e n)) None) (floor_as r s p e)) ∙ is
bound_in_part r s p (End e) b is =
    sym (ap (λ o. cond o (Some (at_most e r.horizon)) None) (open_as r s p e)
    ∙ ap (λ n. cond (is_open s e) (Some (at_most e n)) None) p.until) ∙ is

bounds_in_part : (r s : Setting) → IsPartOf r s → (es : List Edge) (bs : List Bound) → AreBounds r es bs → AreBounds s es bs
bounds_in_part r s p [] [] h = tt
bounds_in_part r s p [] (b ∷ bs) h = absurd h
bounds_in_part r s p (e ∷ es) [] h = absurd h
bounds_in_part r s p (e ∷ es) (b ∷ bs) h = (bound_in_part r s p e b h.0, bounds_in_part r s p es bs h.1)

-- what contradicts a part contradicts the whole
pub contradicts_whole : (r s : Setting) → IsPartOf r s → (es : List Edge) → Contradicts r es → Contradicts s es
contradicts_whole r s p es c =
    let n = c.reason in
    record {
      reason = record {
        bounds = n.bounds;
        exist = bounds_in_part r s p es n.bounds n.exist;
        closed = n.closed;
        apart = n.apart;
        below = n.below;
      };
      none = λ h. c.none (h.0, schedule_of_part r s p h.0 h.1);
    }

-- ---- a bound that is asked for, by its own identifier

own_bound : (s : Setting) (id : BoundId) (b : Bound) → get s.bounds id.0 ≡ None → (e : Edge) (c : Bound) → bound_of (proposing s b) e ≡ Some c → bound_of (with_bound s id.0 b) (as_own id e) ≡ Some c
own_bound s id b free New c is = get_inserted s.bounds id.0 b ∙ is
own_bound s id b free (Own other) c is =
    get_insert_other s.bounds id.0 other.0 b (λ same. no_some c (get s.bounds other.0) (ap (get s.bounds) same ∙ free) is) ∙ is
own_bound s id b free (PastHigh e) c is = is
own_bound s id b free (PastLow e) c is = is
own_bound s id b free (Now e) c is = is
own_bound s id b free (End e) c is = is

own_bounds : (s : Setting) (id : BoundId) (b : Bound) → get s.bounds id.0 ≡ None → (es : List Edge) (bs : List Bound) → AreBounds (proposing s b) es bs → AreBounds (with_bound s id.0 b) (map (as_own id) es) bs
own_bounds s id b free [] [] h = tt
own_bounds s id b free [] (c ∷ cs) h = absurd h
own_bounds s id b free (e ∷ es) [] h = absurd h
own_bounds s id b free (e ∷ es) (c ∷ cs) h = (own_bound s id b free e c h.0, own_bounds s id b free es cs h.1)

pub contradicts_own : (s : Setting) (id : BoundId) (b : Bound) → get s.bounds id.0 ≡ None → (es : List Edge) → Refutes IsNew (proposing s b) (with_bound s id.0 b) es → Contradicts (with_bound s id.0 b) (map (as_own id) es)
contradicts_own s id b free es r =
    let n = r.reason in
    record {
      reason = record {
        bounds = n.bounds;
        exist = own_bounds s id b free es n.bounds n.exist;
        closed = n.closed;
        apart = n.apart;
        below = n.below;
      };
      none = r.none;
    }

-- ---- the least schedule of a setting is that of another that has the same bounds

pub least_as : (r s : Setting) → IsPartOf r s → IsPartOf s r → (least : List ℕ) → AreLeast r least → AreLeast s least
least_as r s p q least h =
    record {
      count = h.count ∙ p.count;
      schedule = record {
        is = schedule_of_part s r q (moments_of least) h.schedule.is;
        least = λ u i e l. h.schedule.least u (schedule_of_part r s p u i) e (subst (λ n. e < n) (sym p.count) l);
      };
    }

-- moments that are those of the least schedule at each event
pub least_listed : (s : Setting) (xs : List ℕ) (t : ℕ → ℕ) (e : ℕ) → IsLawful s → IsLeastBelow s e t → length xs ≡ e → ((k : ℕ) → k < e → moments_of xs k ≡ t k) → event_count s ≤ e → e ≤ event_count s → AreLeast s xs
least_listed s xs t e lawful below count each from to =
    record {
      count = omega arith;
      schedule = record {
        is = schedule_agrees s lawful t (moments_of xs) (λ k lt. each k (omega arith)) below.is;
        least = λ u i k lt.
            let up : t k ≤ u k = below.least u i k (omega arith) in
            let at : moments_of xs k ≡ t k = each k (omega arith) in
            omega arith;
      };
    }
