-- What a whole run says of a plan.
use Rattle.std.proofs.Common.{◌≡◌, ℕ, suc, ◌-◌, ◌<◌, true, false, List, inl, inr, sym, ap, ◌∙◌, subst, arith, All}
use Rattle.tp_task.specs.declared.task.Task.{Task}
use Rattle.tp_task.specs.State.{holds}
use Rattle.tp_task.specs.Valid.{Placed}
use Rattle.tp_task.specs.Verdict.{states, at_moment, at_goal, last_moment}
use Rattle.tp_happen.specs.tp_plan_text.declared.plans.Step.{Step}
use Rattle.tp_happen.specs.Stored.{Stored, state_of}
use Rattle.tp_happen.specs.Small.{all_small}
use Rattle.tp_validate.specs.declared.ticks.Fault.{Fault}
use Rattle.tp_validate.specs.declared.ticks.Fault.TheVariants.{Goal}
use Rattle.tp_validate.specs.declared.verdicts.Ran.TheVariants.{Faulty}
use Rattle.tp_validate.specs.OfTask.{scale_of, begin, plan_of, events_of}
use Rattle.tp_validate.specs.Verdict.{IsSound, PassesIn}
use Rattle.tp_validate.specs.Reached.{Reached, IsRan, PassesBy}
use Rattle.tp_validate.specs.Answers.{IsFirst}
use Rattle.tp_validate.proofs.Runs.{all_clear, all_small_here, last_is, last_tick}

module _ (t : Task) (steps : List Step) where
  pub first_fault : (m : ℕ) (why : Fault) → IsRan t (plan_of t steps) (Faulty m why) → IsFirst t steps m why
  first_fault m why h = at_moment h.0 h.1

  pub run_range : PassesBy t (plan_of t steps) → PassesIn t steps
  run_range p = record { moment = p.moment; before = p.before; passes = inl p.passes }

  module _ (from : ℕ) (st : Stored) (r : Reached t (plan_of t steps) from st) (d : All (λ (e : Placed). e.moment < from) (events_of t steps)) where
    pub sound : holds (state_of st) t.goal ≡ true → IsSound t steps
    sound h =
        record {
          clear = all_clear t (plan_of t steps) from st r d;
          reached = ap (λ z. holds z t.goal) (last_is t (plan_of t steps) from st r d) ∙ h;
          small = all_small_here t (plan_of t steps) from st r d;
        }

    pub goal_fault : (tick : ℕ) → tick ≡ from - 1 → holds (state_of st) t.goal ≡ false → IsFirst t steps tick Goal
    goal_fault tick e h =
        let q : tick ≡ last_moment (events_of t steps) = e ∙ last_tick t (plan_of t steps) from st r d in
        at_goal (all_clear t (plan_of t steps) from st r d) q
        (subst (λ k. holds (states (scale_of t) (begin t) (events_of t steps) (suc k)) t.goal ≡ false) (sym q) (ap (λ z. holds z t.goal) (last_is t (plan_of t steps) from st r d) ∙ h))

    pub goal_range : all_small (state_of st) t.goal ≡ false → PassesIn t steps
    goal_range h =
        record {
          moment = 0;
          before = λ k l. absurd (omega arith);
          passes = inr (all_clear t (plan_of t steps) from st r d, ap (λ z. all_small z t.goal) (last_is t (plan_of t steps) from st r d) ∙ h);
        }
