-- From a command to its step.
use Rattle.std.proofs.Common.{◌≡◌, ◌≢◌, ◌↔◌, ℕ, ◌<◌, ◌≤◌, MatchOption, Option, Some, None, sym, subst, arith, refl, is_some, nat_lt, true}
use Rattle.std.proofs.lemmas.Bool.Decides.{nat_tests}
use Rattle.std.specs.FinMap.{get}
use Rattle.tp_bounds.specs.declared.BoundId.{BoundId}
use Rattle.tp_bounds.specs.Setting.{Setting, event_count}
use Rattle.tp_bounds.specs.Schedule.{HasSchedule, IsMoment, IsWindow}
use Rattle.tp_bounds.specs.Changes.{without_bound}
use Rattle.tp_exec_machine.specs.declared.command.Command.{Command}
use Rattle.tp_exec_machine.specs.declared.command.Command.TheVariants.{Withdraw, Window}
use Rattle.tp_exec_machine.specs.declared.command.Answer.{Answer}
use Rattle.tp_exec_machine.specs.declared.command.Answer.TheVariants.{Refused, Told, Accepted}
use Rattle.tp_exec_machine.specs.Machine.{Machine}
use Rattle.tp_exec_machine.specs.Step.{first_refusal, Decides, Step, accepted}

pub decided : (old : Machine) (command : Command) (answer : Answer) (new : Machine) → first_refusal old command ≡ None → Decides old command answer new → Step old command answer new
decided old command answer new none d =
    subst (λ o. MatchOption o (Decides old command answer new) (λ refusal. (answer ≡ Refused refusal) × (new ≡ old))) (sym none) d

pub window_known : (m : Machine) (e : ℕ) → e < event_count m.setting → first_refusal m (Window e) ≡ None
window_known m e lt = let t : nat_lt e (event_count m.setting) ≡ true = grind (arith, nat_tests) in rw t refl

pub withdraw_known : (m : Machine) (id : BoundId) → is_some (get m.setting.bounds id.0) ≡ true → first_refusal m (Withdraw id) ≡ None
withdraw_known m id is = rw is refl

pub window_step : (m : Machine) (s : Setting) (e low high : ℕ) → s ≡ m.setting → e < event_count s → IsWindow s e low high → HasSchedule s → Step m (Window e) (Told low high) m
window_step m s e low high is lt w possible =
    decided m (Window e) (Told low high) m (window_known m e (subst (λ r. e < event_count r) is lt))
    (subst (λ r. IsWindow r e low high) is w, subst HasSchedule is possible, refl)

pub withdraw_step : (m new : Machine) (s : Setting) (id : BoundId) → s ≡ m.setting → is_some (get s.bounds id.0) ≡ true → HasSchedule (without_bound s id.0) → new ≡ accepted m (Withdraw id) → Step m (Withdraw id) Accepted new
withdraw_step m new s id is known possible same =
    decided m (Withdraw id) Accepted new (withdraw_known m id (subst (λ (r : Setting). is_some (get r.bounds id.0) ≡ true) is known))
    (tt, subst (λ r. HasSchedule (without_bound r id.0)) is possible, same)

pub some_is : {A : Type 0} (o : Option A) → o ≢ None → is_some o ≡ true
some_is None h = absurd (h refl)
some_is (Some x) h = refl

-- the moments from the ends of a window are those at which the event happens in some schedule
pub window_exact : (s r : Setting) (e low high : ℕ) → s ≡ r → IsWindow s e low high → (x : ℕ) → ((low ≤ x) × (x ≤ high)) ↔ IsMoment r e x
window_exact s r e low high is w x =
    subst (λ (q : Setting). ((low ≤ x) × (x ≤ high)) ↔ IsMoment q e x) is (λ p. w.occurs x p.0 p.1, w.inside x)
