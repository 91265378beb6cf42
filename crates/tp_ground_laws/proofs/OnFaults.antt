-- The faults of a plan are those of what it says by words.
use Rattle.std.proofs.Common.{◌≡◌, ℕ, zero, suc, ◌+◌, Bool, not, cond, ◌&&◌, ◌==◌, nat_le, nat_lt, List, [], ◌∷◌, map, Option, Some, None, is_some, pos, ◌*ℤ◌, max, refl, sym, ap, ap₂, ◌∙◌}
use Rattle.std.specs.List.{AllByRecursion, list_all, position_from}
use Rattle.tp_task.specs.declared.events.Body.{Body}
use Rattle.tp_task.specs.declared.events.Body.TheVariants.{Instant, Durative}
use Rattle.tp_task.specs.declared.events.Cond.{Cond}
use Rattle.tp_task.specs.State.{State, both, value, holds, compares_values}
use Rattle.tp_task.specs.Event.{interferes, mixes}
use Rattle.tp_task.specs.Happens.{is_defined, atom_after, number_after}
use Rattle.tp_task.specs.Tables.{Tables}
use Rattle.tp_task.specs.Valid.{Planned, Placed, events, at}
use Rattle.tp_task.specs.Verdict.{Fault, Duration, Undefined, Condition, Clash, Interferes, OverAll, Goal, states, is_unlawful, is_broken, pair_or, first_pair, fault_or, fault_at, last_moment, IsFirstFault, at_moment, at_goal}
use Rattle.tp_ground.specs.ReadBack.{named_condition, named_event, named_limit, named_body}
use Rattle.tp_ground_laws.proofs.OnLists.{all_back}
use Rattle.tp_ground_laws.proofs.ByWords.{WordState, value_in, holds_in, interfere, mix, Timed, after, defined_in, Part, Acted, parts, run}
use Rattle.tp_ground_laws.proofs.FaultsByWords.{unlawful_in, broken_in, first_pair_in, fault_between, fault_over, fault_by_words, last_part}
use Rattle.tp_ground_laws.proofs.OnNamed.{seen, value_named, holds_named}
use Rattle.tp_ground_laws.proofs.OnEffects.{AreDistinct, IsWorded, interferes_named, mixes_named, after_named, defined_named}
use Rattle.tp_ground_laws.proofs.OnRuns.{named_planned, named_placed, AreWorded, parts_named, at_named, now_worded}

-- ---- positions of what is told in other words

module _ {A B : Type 0} (f : A → B) where
  position_named : (P : A → Bool) (Q : B → Bool) (W : A → Type 0) → ((x : A) → W x → P x ≡ Q (f x)) → (k : ℕ) (xs : List A) → AllByRecursion W xs → position_from P k xs ≡ position_from Q k (map f xs)
  position_named P Q W h k [] w = refl
  position_named P Q W h k (x ∷ xs) w = ap₂ (λ (b : Bool) (o : Option ℕ). cond b (Some k) o) (h x w.0) (position_named P Q W h (k + 1) xs w.1)

  all_named_same : (P : A → Bool) (Q : B → Bool) → ((x : A) → P x ≡ Q (f x)) → (xs : List A) → list_all P xs ≡ list_all Q (map f xs)
  all_named_same P Q h [] = refl
  all_named_same P Q h (x ∷ xs) = ap₂ (λ (b c : Bool). b && c) (h x) (all_named_same P Q h xs)

everywhere : {A : Type 0} (xs : List A) → AllByRecursion (λ (x : A). Unit {0}) xs
everywhere [] = tt
everywhere (x ∷ xs) = (tt, everywhere xs)

-- ---- faults at a moment

module _ (t : Tables) (d : AreDistinct t) (scale : ℕ) where
  unlawful_named : (s : WordState) (ticks : ℕ) (b : Body) → is_unlawful scale (seen t s) ticks b ≡ unlawful_in scale s ticks (named_body t b)
  unlawful_named s ticks (Instant e) = refl
  unlawful_named s ticks (Durative start end invariant) =
      ap₂ (λ (x y : Bool). x && not (nat_le 1 ticks && y))
      (all_named_same (named_limit t) (λ l. is_some (value (seen t s) None l.value)) (λ l. is_some (value_in s None l.value)) (λ l. ap is_some (value_named t s None l.value)) start.constraint.items)
      (all_named_same (named_limit t)
      (λ l. compares_values l.how (Some (pos ticks)) (both ◌*ℤ◌ (Some (pos scale)) (value (seen t s) None l.value)))
      (λ l. compares_values l.how (Some (pos ticks)) (both ◌*ℤ◌ (Some (pos scale)) (value_in s None l.value)))
      (λ l. ap (λ v. compares_values l.how (Some (pos ticks)) (both ◌*ℤ◌ (Some (pos scale)) v)) (value_named t s None l.value)) start.constraint.items)

  broken_named : (s : WordState) (m : ℕ) (p : Planned) (b : Body) → is_broken (seen t s) m p b ≡ broken_in s m (named_planned t p) (named_body t b)
  broken_named s m p (Instant e) = refl
  broken_named s m p (Durative start end invariant) = ap (λ (x : Bool). nat_le p.moment m && (nat_lt m (p.moment + p.duration) && not x)) (holds_named t s invariant)

  abbrev Worded : Placed → Type 0
  Worded e = IsWorded (named_event t e.timed.event)

  pair_named : (m i : ℕ) (es : List Placed) → AllByRecursion Worded es → first_pair m i es ≡ first_pair_in m i (map (named_placed t) es)
  pair_named m i [] w = refl
  pair_named m i (e ∷ es) w =
      ap₂ (λ (o : Option ℕ) (r : Option (ℕ × ℕ)). pair_or i o r)
      (position_named (named_placed t) (λ (u : Placed). ((e.moment == m) && (u.moment == m)) && interferes e.timed.event u.timed.event) (λ (u : Part). ((e.moment == m) && (u.moment == m)) && interfere (named_event t e.timed.event) u.timed.happening)
      Worded (λ u v. ap (λ (x : Bool). ((e.moment == m) && (u.moment == m)) && x) (interferes_named t d e.timed.event u.timed.event w.0 v)) (i + 1) es w.1)
      (pair_named m (i + 1) es w.1)

  module _ (plan : List Planned) (worded : AreWorded (map (named_placed t) (events plan))) where
    abbrev es : List Placed
    es = events plan

    each : AllByRecursion Worded es
    each = all_back (named_placed t) Worded (λ e. IsWorded e.timed.happening) (λ e q. q) es worded

    abbrev fault_with : State → State → ℕ → Option Fault
    fault_with before after m =
        fault_or Duration (position_from (λ (p : Planned). (p.moment == m) && is_unlawful scale before p.duration p.body) 0 plan)
        (fault_or Undefined (position_from (λ (e : Placed). (e.moment == m) && not (is_defined scale before e.timed)) 0 es)
        (fault_or Condition (position_from (λ (e : Placed). (e.moment == m) && not (holds before e.timed.event.condition)) 0 es)
        (fault_or Clash (position_from (λ (e : Placed). (e.moment == m) && mixes e.timed.event) 0 es)
        (fault_or (λ (p : ℕ × ℕ). Interferes p.0 p.1) (first_pair m 0 es)
        (fault_or OverAll (position_from (λ (p : Planned). is_broken after m p p.body) 0 plan) None)))))

    module _ (b a : WordState) (m : ℕ) where
      durations : position_from (λ (p : Planned). (p.moment == m) && is_unlawful scale (seen t b) p.duration p.body) 0 plan ≡ position_from (λ (p : Acted). (p.moment == m) && unlawful_in scale b p.duration p.body) 0 (map (named_planned t) plan)
      durations =
          position_named (named_planned t) (λ (p : Planned). (p.moment == m) && is_unlawful scale (seen t b) p.duration p.body) (λ (p : Acted). (p.moment == m) && unlawful_in scale b p.duration p.body)
          (λ (p : Planned). Unit {0}) (λ p u. ap (λ (x : Bool). (p.moment == m) && x) (unlawful_named b p.duration p.body)) 0 plan (everywhere plan)

      values : position_from (λ (e : Placed). (e.moment == m) && not (is_defined scale (seen t b) e.timed)) 0 es ≡ position_from (λ (e : Part). (e.moment == m) && not (defined_in scale b e.timed)) 0 (map (named_placed t) es)
      values =
          position_named (named_placed t) (λ (e : Placed). (e.moment == m) && not (is_defined scale (seen t b) e.timed)) (λ (e : Part). (e.moment == m) && not (defined_in scale b e.timed))
          (λ (e : Placed). Unit {0}) (λ e u. ap (λ (x : Bool). (e.moment == m) && not x) (defined_named t d b scale e.timed)) 0 es (everywhere es)

      conditions : position_from (λ (e : Placed). (e.moment == m) && not (holds (seen t b) e.timed.event.condition)) 0 es ≡ position_from (λ (e : Part). (e.moment == m) && not (holds_in b e.timed.happening.condition)) 0 (map (named_placed t) es)
      conditions =
          position_named (named_placed t) (λ (e : Placed). (e.moment == m) && not (holds (seen t b) e.timed.event.condition)) (λ (e : Part). (e.moment == m) && not (holds_in b e.timed.happening.condition))
          (λ (e : Placed). Unit {0}) (λ e u. ap (λ (x : Bool). (e.moment == m) && not x) (holds_named t b e.timed.event.condition)) 0 es (everywhere es)

      clashes : position_from (λ (e : Placed). (e.moment == m) && mixes e.timed.event) 0 es ≡ position_from (λ (e : Part). (e.moment == m) && mix e.timed.happening.writes) 0 (map (named_placed t) es)
      clashes =
          position_named (named_placed t) (λ (e : Placed). (e.moment == m) && mixes e.timed.event) (λ (e : Part). (e.moment == m) && mix e.timed.happening.writes)
          Worded (λ e w. ap (λ (x : Bool). (e.moment == m) && x) (mixes_named t d e.timed.event.writes.items w.writes)) 0 es each

      invariants : position_from (λ (p : Planned). is_broken (seen t a) m p p.body) 0 plan ≡ position_from (λ (p : Acted). broken_in a m p p.body) 0 (map (named_planned t) plan)
      invariants =
          position_named (named_planned t) (λ (p : Planned). is_broken (seen t a) m p p.body) (λ (p : Acted). broken_in a m p p.body)
          (λ (p : Planned). Unit {0}) (λ p u. broken_named a m p p.body) 0 plan (everywhere plan)

      between_named : fault_with (seen t b) (seen t a) m ≡ fault_between scale b a (map (named_placed t) es) (map (named_planned t) plan) m
      between_named =
          ap₂ (λ (o : Option ℕ) (r : Option Fault). fault_or Duration o r) durations
          (ap₂ (λ (o : Option ℕ) (r : Option Fault). fault_or Undefined o r) values
          (ap₂ (λ (o : Option ℕ) (r : Option Fault). fault_or Condition o r) conditions
          (ap₂ (λ (o : Option ℕ) (r : Option Fault). fault_or Clash o r) clashes
          (ap₂ (λ (o : Option (ℕ × ℕ)) (r : Option Fault). fault_or (λ (p : ℕ × ℕ). Interferes p.0 p.1) o r) (pair_named m 0 es each)
          (ap (λ (o : Option ℕ). fault_or OverAll o None) invariants)))))

    module _ (s : WordState) where
      abbrev r : ℕ → WordState
      r = run scale s (map (named_placed t) es)

      pub states_named : (m : ℕ) → states scale (seen t s) es m ≡ seen t (r m)
      states_named zero = refl
      states_named (suc m) =
          ap (λ (z : State). record { atom = atom_after z (at m es); number = number_after scale z (at m es) }) (states_named m)
          ∙ after_named t d (r m) scale (at m es) (now_worded t d scale s es worded m)
          ∙ ap (λ (ts : List Timed). seen t (after scale (r m) ts)) (at_named t m es)

      fault_named : (m : ℕ) → fault_at scale (seen t s) plan m ≡ fault_over scale s (map (named_placed t) es) (map (named_planned t) plan) m
      fault_named m = ap₂ (λ (x y : State). fault_with x y m) (states_named m) (states_named (suc m)) ∙ between_named (r m) (r (suc m)) m

      pub fault_worded : (m : ℕ) → fault_at scale (seen t s) plan m ≡ fault_by_words scale s (map (named_planned t) plan) m
      fault_worded m = fault_named m ∙ ap (λ (ps : List Part). fault_over scale s ps (map (named_planned t) plan) m) (parts_named t 0 plan)

      pub goal_worded : (goal : Cond) (m : ℕ) → holds (states scale (seen t s) es m) goal ≡ holds_in (run scale s (parts (map (named_planned t) plan)) m) (named_condition t goal)
      goal_worded goal m =
          ap (λ (z : State). holds z goal) (states_named m)
          ∙ holds_named t (r m) goal
          ∙ ap (λ (ps : List Part). holds_in (run scale s ps m) (named_condition t goal)) (parts_named t 0 plan)

last_named : (t : Tables) (es : List Placed) → last_moment es ≡ last_part (map (named_placed t) es)
last_named t [] = refl
last_named t (e ∷ es) = ap (max e.moment) (last_named t es)

pub last_worded : (t : Tables) (plan : List Planned) → last_moment (events plan) ≡ last_part (parts (map (named_planned t) plan))
last_worded t plan = last_named t (events plan) ∙ ap last_part (parts_named t 0 plan)

-- ---- the first fault of plans whose faults are the same at each moment

module _ (a b : ℕ) (x y : State) (g h : Cond) (p q : List Planned)
    (fault : (m : ℕ) → fault_at a x p m ≡ fault_at b y q m)
    (last : last_moment (events p) ≡ last_moment (events q))
    (goal : (m : ℕ) → holds (states a x (events p) m) g ≡ holds (states b y (events q) m) h) where
  pub first_same : (m : ℕ) (why : Fault) → IsFirstFault a x g p m why → IsFirstFault b y h q m why
  first_same m why (at_moment before is) = at_moment (λ k lt. sym (fault k) ∙ before k lt) (sym (fault m) ∙ is)
  first_same m Goal (at_goal none is not) = at_goal (λ k. sym (fault k) ∙ none k) (is ∙ last) (sym (goal (suc m)) ∙ not)
