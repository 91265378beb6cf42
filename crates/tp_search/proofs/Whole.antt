-- Choices that can happen at tick 0 and reach the goal are a valid plan.
use Rattle.std.proofs.Common.{◌≡◌, ℕ, zero, suc, ◌+◌, ◌<◌, Bool, true, false, ◌&&◌, ◌==◌, eqb-true, List, [], ◌∷◌, ◌++◌, map, refl, sym, ap, subst, ◌∙◌, arith, add-one, Option, Some, None, ℤ, pos}
use Rattle.std.specs.List.{AllByRecursion, slice_get}
use Rattle.std.specs.Option.{option_map, option_to_list}
use Rattle.std.proofs.lemmas.Bool.{false_from_ne_true, cond-false}
use Rattle.std.proofs.Math.IntN.{+ℤ_idr}
use Rattle.tp_task.specs.declared.events.Cond.{Cond}
use Rattle.tp_task.specs.declared.events.Body.{Body}
use Rattle.tp_task.specs.declared.events.Body.TheVariants.{Instant}
use Rattle.tp_task.specs.declared.task.Task.{Task}
use Rattle.tp_task.specs.State.{State, holds}
use Rattle.tp_task.specs.Happens.{Happens, plus}
use Rattle.tp_task.specs.Valid.{Planned, Placed, events_from, at, BodyHolds, IsValid}
use Rattle.tp_task.proofs.Same.{holds_same}
use Rattle.tp_validate.specs.OfTask.{planned, step_of, scale_of, begin, IsValidPlan}
use Rattle.tp_search.specs.AtOnce.{Choice, IsChoice, timed_of, timed_all, made_of, CanHappen, step_of_choice, steps_of}

abbrev pub planned_of : Choice → Planned
planned_of c = record { moment = 0; duration = 0; body = Instant c.event }

pub plan_is : (bodies : List Body) (cs : List Choice) → AllByRecursion (λ (c : Choice). slice_get bodies c.number ≡ Some (Instant c.event)) cs → planned bodies (steps_of cs) ≡ map planned_of cs
plan_is bodies [] h = refl
plan_is bodies (c ∷ cs) h =
    ap (λ o. option_to_list (option_map (step_of (step_of_choice c)) o) ++ planned bodies (steps_of cs)) h.0
    ∙ ap (λ ps. planned_of c ∷ ps) (plan_is bodies cs h.1)

pub at_first : (k : ℕ) (cs : List Choice) → at 0 (events_from k (map planned_of cs)) ≡ timed_all cs
at_first k [] = refl
at_first k (c ∷ cs) = ap (λ ts. timed_of c ∷ ts) (at_first (k + 1) cs)

never : (m : ℕ) → (0 == suc m) ≡ false
never m = false_from_ne_true _ (λ e. let h : 0 ≡ suc m = eqb-true 0 (suc m) e in omega arith)

at_later : (m k : ℕ) (cs : List Choice) → at (suc m) (events_from k (map planned_of cs)) ≡ []
at_later m k [] = refl
at_later m k (c ∷ cs) = ap (map (λ (e : Placed). e.timed)) (cond-false (0 == suc m) _ _ (never m)) ∙ at_later m (k + 1) cs

and_true : (b : Bool) → b ≡ (b && true)
and_true true = refl
and_true false = refl

plus_none : (n : Option ℤ) → n ≡ plus (pos 0) n
plus_none (Some x) = ap Some (sym (+ℤ_idr x))
plus_none None = refl

nothing_happens : (scale : ℕ) (s : State) → Happens scale s [] s
nothing_happens scale s = record {
  conditions = tt;
  definedness = tt;
  unmixed = tt;
  separate = refl;
  atoms = λ a. and_true (s.atom a);
  numbers = λ f. plus_none (s.number f);
}

abbrev pub trace_of : State → State → ℕ → State
trace_of s n zero = s
trace_of s n (suc m) = n

module _ (scale : ℕ) (s : State) (goal : Cond) (cs : List Choice) (can : CanHappen scale s (timed_all cs)) (reached : holds (made_of scale s (timed_all cs)) goal ≡ true) where
  abbrev new : State
  new = made_of scale s (timed_all cs)

  next_of : (m : ℕ) → Happens scale (trace_of s new m) (at m (events_from 0 (map planned_of cs))) (trace_of s new (suc m))
  next_of zero = subst (λ ts. Happens scale s ts new) (sym (at_first 0 cs)) can
  next_of (suc m) = subst (λ ts. Happens scale new ts new) (sym (at_later m 0 cs)) (nothing_happens scale new)

  steps_hold : (ds : List Choice) → AllByRecursion (λ p. BodyHolds scale (trace_of s new) p.moment p.duration p.body) (map planned_of ds)
  steps_hold [] = tt
  steps_hold (d ∷ ds) = (tt, steps_hold ds)

  last_of : (m : ℕ) → AllByRecursion (λ (e : Placed). e.moment < m) (events_from 0 (map planned_of cs)) → holds (trace_of s new m) goal ≡ true
  last_of (suc m) h = reached
  last_of zero h = at_start cs h reached
    where
      at_start : (ds : List Choice) → AllByRecursion (λ (e : Placed). e.moment < 0) (events_from 0 (map planned_of ds)) → holds (made_of scale s (timed_all ds)) goal ≡ true → holds s goal ≡ true
      at_start [] h r = holds_same s (made_of scale s []) goal (λ a i. and_true (s.atom a)) (λ f i. plus_none (s.number f)) ∙ r
      at_start (d ∷ ds) h r = absurd (omega (arith, h.0))

  pub whole_valid : IsValid scale s goal (map planned_of cs)
  whole_valid = (
    trace_of s new,
    record {
      run = record { first = refl; next = λ m. subst (λ k. Happens scale (trace_of s new m) (at m (events_from 0 (map planned_of cs))) (trace_of s new k)) (sym (add-one m)) (next_of m) };
      steps = steps_hold cs;
      last = last_of;
    },
  )

-- A node whose choices can happen at tick 0 and whose own state meets the goal is a valid plan.
pub node_is_plan : (t : Task) (cs : List Choice) → AllByRecursion (IsChoice t) cs → CanHappen (scale_of t) (begin t) (timed_all cs) → holds (made_of (scale_of t) (begin t) (timed_all cs)) t.goal ≡ true → IsValidPlan t (steps_of cs)
node_is_plan t cs are can reached = subst (IsValid (scale_of t) (begin t) t.goal) (sym (plan_is t.actions.items cs are)) (whole_valid (scale_of t) (begin t) t.goal cs can reached)
