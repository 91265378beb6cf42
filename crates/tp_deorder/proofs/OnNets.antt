-- The list of a sound plan's bounds is its network.
use Rattle.std.proofs.Common.{◌≡◌, ℕ, zero, suc, ◌+◌, ◌≤◌, List, [], ◌∷◌, length, length-append, refl, map, get_or, sym, subst, arith, Bool, true, false, ◌||◌, nat_lt, Result, Ok, Err, IfOk}
use Rattle.std.proofs.lemmas.Bool.Decides.{nat_tests}
use Rattle.std.specs.List.{All, AllByRecursion}
use Rattle.std.proofs.lemmas.List.Elements.{All-nil, All-cons}
use Rattle.tp_bounds.specs.declared.Bound.{Bound}
use Rattle.tp_bounds.specs.Nets.{SuitsNet}
use Rattle.tp_task.specs.declared.task.Task.{Task}
use Rattle.tp_task.specs.declared.events.Body.{Body}
use Rattle.tp_task.specs.declared.events.Body.TheVariants.{Instant, Durative}
use Rattle.tp_task.specs.Valid.{Planned, Placed, events, events_from, events_of, count_of, IsValidRun, IsValid}
use Rattle.tp_task.specs.Verdict.{last_moment}
use Rattle.tp_task.specs.Bounds.{In, MeetsBounds}
use Rattle.tp_task.proofs.Sound.{without_fault}
use Rattle.tp_task.proofs.Retimed.{retimed_run}
use Rattle.tp_task.proofs.Own.{own_bounds}
use Rattle.tp_happen.specs.tp_plan_text.declared.plans.Step.{Step}
use Rattle.tp_validate.specs.OfTask.{scale_of, begin, plan_of, state_at}
use Rattle.tp_validate.specs.Verdict.{IsSound}
use Rattle.tp_validate.proofs.Numbers.{IsNumbered, numbered}
use Rattle.tp_bounds.specs.OwnBounds.{MeetsEach, IsWithin}
use Rattle.tp_bounds.specs.Schedule.{Meets}
use Rattle.tp_deorder.specs.Inequalities.{event_count_of}
use Rattle.tp_deorder.specs.Kept.{net_bounds, AreNumbered}
use Rattle.tp_deorder.specs.Answers.{IsNetOf, own_ticks}
use Rattle.tp_deorder.proofs.Listed.{bounds_listed, listed_bounds}
use Rattle.tp_deorder.proofs.Kept.{all_in_net, net_enough}
use Rattle.tp_deorder.proofs.OnRows.{read_at}
use Rattle.tp_deorder.proofs.OnRunPlans.{moved_is}
use Rattle.tp_deorder.proofs.Suited.{plan_suits}
use Rattle.tp_bounds.proofs.Schedules.{is_schedule, schedule_is}

are_numbered : (k : ℕ) (es : List Placed) → IsNumbered k es → AreNumbered k es
are_numbered k [] h = tt
are_numbered k (e ∷ es) h = (h.0, are_numbered (k + 1) es h.1)

pub plan_numbered : (plan : List Planned) → AreNumbered 0 (events plan)
plan_numbered plan = are_numbered 0 (events plan) (numbered 0 plan)

own_is : (plan : List Planned) (e : Placed) → In e (events plan) → own_ticks plan e.number ≡ e.moment
own_is plan e j = read_at (λ (x : Placed). x.moment) 0 0 (events plan) (plan_numbered plan) e j e.number (omega arith)

abbrev moments : List Placed → List ℕ
moments es = map (λ (e : Placed). e.moment) es

own_by : (es : List Placed) (i : ℕ) → get_or (moments es) i 0 ≤ last_moment es
own_by [] i = omega arith
own_by (x ∷ xs) zero = omega arith
own_by (x ∷ xs) (suc i) = omega (arith, own_by xs i)

all_of : {X : Type 0} (P : X → Type 0) (xs : List X) → AllByRecursion P xs → All P xs
all_of P [] h = All-nil P
all_of P (x ∷ xs) h = All-cons P x xs h.0 (all_of P xs h.1)

module _ (t : Task) (steps : List Step) (horizon : ℕ) (s : IsSound t steps) (l : last_moment (events (plan_of t steps)) ≤ horizon) where
  abbrev plan : List Planned
  plan = plan_of t steps

  abbrev n : ℕ
  n = event_count_of plan

  abbrev bs : List Bound
  bs = net_bounds horizon (scale_of t) (state_at t steps) plan

  run : IsValidRun (scale_of t) (begin t) t.goal plan (state_at t steps)
  run = without_fault (scale_of t) (begin t) t.goal plan s.clear s.reached

  within : IsWithin n horizon (own_ticks plan)
  within e k = omega (arith, own_by (events plan) e)

  met : (m : ℕ → ℕ) → IsWithin n horizon m → MeetsBounds (scale_of t) (state_at t steps) plan m → MeetsEach m bs
  met m w h = all_in_net (Meets m) horizon (scale_of t) (state_at t steps) plan (bounds_listed m horizon (scale_of t) (state_at t steps) plan w h)

  keeps : (m : ℕ → ℕ) → IsWithin n horizon m → MeetsEach m bs → MeetsBounds (scale_of t) (state_at t steps) plan m
  keeps m w h = listed_bounds m horizon (scale_of t) (state_at t steps) plan w (net_enough m horizon (scale_of t) (state_at t steps) plan h)

  pub net_of : IsNetOf t steps horizon bs
  net_of =
      record {
        exact = λ m. (
          λ h. let p = schedule_is n horizon m bs h in (p.0, keeps m p.0 p.1),
          λ h. is_schedule n horizon m bs h.0 (met m h.0 h.1),
        );
        own = is_schedule n horizon (own_ticks plan) bs within
            (met (own_ticks plan) within (own_bounds (scale_of t) (begin t) t.goal plan (state_at t steps) run (own_ticks plan) (own_is plan)));
        valid = λ m h. let p = schedule_is n horizon m bs h in
            subst (λ (ps : List Planned). IsValid (scale_of t) (begin t) t.goal ps) (sym (moved_is t.actions.items m 0 steps))
            (_, retimed_run (scale_of t) (begin t) t.goal plan (state_at t steps) run m (keeps m p.0 p.1));
        suit = λ h. all_of (SuitsNet n) bs
            (all_in_net (SuitsNet n) horizon (scale_of t) (state_at t steps) plan (plan_suits horizon (scale_of t) (state_at t steps) plan h l run.steps));
      }

pub ok_weaker : {A E : Type 0} (r : Result A E) (P Q : A → Type 0) → ((a : A) → P a → Q a) → IfOk r P → IfOk r Q
ok_weaker (Ok a) P Q f h = f a h
ok_weaker (Err e) P Q f h = tt

pub always_ok : {A E : Type 0} (r : Result A E) (P : Type 0) → P → IfOk r (λ _. P)
always_ok (Ok a) P h = h
always_ok (Err e) P h = tt

second_false : (a b : Bool) → (a || b) ≡ false → b ≡ false
second_false true b h = absurd (let f : ⊥ = cc in f)
second_false false b h = h

pub not_past : (a : Bool) (h m : ℕ) → (a || nat_lt h m) ≡ false → m ≤ h
not_past a h m e = let q : nat_lt h m ≡ false = second_false a (nat_lt h m) e in grind (arith, nat_tests)

-- the count of events is that of the steps' bodies
count_one : (k : ℕ) (p : Planned) (b : Body) → length (events_of k p b) ≡ count_of b
count_one k p (Instant e) = refl
count_one k p (Durative x y c) = refl

pub counted : (k : ℕ) (ps : List Planned) → length (events_from k ps) ≡ event_count_of ps
counted k [] = refl
counted k (p ∷ ps) =
    omega (arith, length-append (events_of k p p.body) (events_from (k + count_of p.body) ps), count_one k p p.body, counted (k + count_of p.body) ps)

first_false : (a b : Bool) → (a || b) ≡ false → a ≡ false
first_false true b h = absurd (let f : ⊥ = cc in f)
first_false false b h = refl

pub not_more : (b : Bool) (l n : ℕ) → (nat_lt l n || b) ≡ false → n ≤ l
not_more b l n e = let q : nat_lt l n ≡ false = first_false (nat_lt l n) b e in grind (arith, nat_tests)
