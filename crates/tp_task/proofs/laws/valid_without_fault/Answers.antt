use Rattle.std.proofs.Common.{◌≡◌, ℕ, suc, List, sym, subst, ◌∙◌, false}
use Rattle.std.proofs.lemmas.Bool.{true≢false}
use Rattle.tp_task.specs.declared.events.Cond.{Cond}
use Rattle.tp_task.specs.State.{State, holds}
use Rattle.tp_task.specs.Valid.{Planned, IsValid, events}
use Rattle.tp_task.specs.Verdict.{Fault, IsFirstFault, at_moment, at_goal, states}
use Rattle.tp_task.proofs.Sound.{without_fault}
use Rattle.tp_task.proofs.Complete.{no_fault, goal_holds, one_run}
use Rattle.tp_task.proofs.laws.valid_without_fault.Goals as goal

pub returns-clause-sound : goal.returns-clause-sound
returns-clause-sound c scale initial g plan clear reached = (_, without_fault scale initial g plan clear reached)

pub returns-clause-complete : goal.returns-clause-complete
returns-clause-complete c scale initial g plan v = let w = one_run scale initial g plan v.0 v.1 in (no_fault scale initial g plan w, goal_holds scale initial g plan w)

never : (scale : ℕ) (initial : State) (g : Cond) (plan : List Planned) (m : ℕ) (why : Fault) → IsFirstFault scale initial g plan m why → IsValid scale initial g plan → ⊥
never scale initial g plan m why (at_moment before e) v = let z = sym (no_fault scale initial g plan (one_run scale initial g plan v.0 v.1) m) ∙ e in cc
never scale initial g plan m why (at_goal before l u) v = true≢false (sym (goal_holds scale initial g plan (one_run scale initial g plan v.0 v.1)) ∙ (subst (λ k. holds (states scale initial (events plan) (suc k)) g ≡ false) l u))

pub returns-clause-faulty : goal.returns-clause-faulty
returns-clause-faulty c scale initial g plan m why f v = never scale initial g plan m why f v
