-- Each state that a new executive comes to is sound.
use Rattle.std.proofs.Common.{◌≡◌, ℕ, suc, inl, inr, List, [], ◌∷◌, Option, Some, None, refl, ap, sym, subst, ◌∙◌}
use Rattle.std.specs.Prelude.{MatchOption}
use Rattle.tp_bounds.specs.declared.Bound.{Bound}
use Rattle.tp_bounds.specs.Setting.{Setting}
use Rattle.tp_bounds.specs.Changes.{with_bound}
use Rattle.tp_bounds.specs.OwnBounds.{with_bounds}
use Rattle.tp_bounds.specs.RunLimits.{RunLimits}
use Rattle.tp_exec_machine.specs.Machine.{Machine, IsFresh, new_machine, plan_machine}
use Rattle.tp_exec_machine.specs.declared.command.Command.{Command}
use Rattle.tp_exec_machine.specs.declared.command.Command.TheVariants.{Advance, Add, Withdraw, Window, Dispatch, Happened, Report as Tell}
use Rattle.tp_exec_machine.specs.declared.command.Answer.{Answer}
use Rattle.tp_exec_machine.specs.declared.command.Answer.TheVariants.{Accepted, Named, Told, Reported, Refused}
use Rattle.tp_exec_machine.specs.declared.refusal.Refusal.{Refusal}
use Rattle.tp_exec_machine.specs.Step.{Step, Decides, first_refusal, accepted}
use Rattle.tp_exec_machine.proofs.Ready.{unused_added, unused_removed}
use Rattle.tp_exec_machine.proofs.OwnBounds.{unused_behind}
use Rattle.tp_journal_pairs.specs.Sound.{IsSound}
use Rattle.tp_journal_pairs.specs.Writing.{IsNewExecutive}

accepted_sound : (m : Machine) (c : Command) → IsSound m → IsSound (accepted m c)
accepted_sound m (Advance to) h = record { unused = h.unused; asks_nothing = h.asks_nothing }
accepted_sound m (Add b) h = record { unused = unused_added m.setting.bounds m.next b h.unused; asks_nothing = h.asks_nothing }
accepted_sound m (Withdraw id) h = record { unused = unused_removed m.setting.bounds m.next id.0 h.unused; asks_nothing = h.asks_nothing }
accepted_sound m (Window e) h = h
accepted_sound m (Dispatch e) h = record { unused = h.unused; asks_nothing = h.asks_nothing }
accepted_sound m (Happened e t) h = record { unused = h.unused; asks_nothing = h.asks_nothing }
accepted_sound m Tell h = h

decided_sound : (m new : Machine) (c : Command) (a : Answer) → IsSound m → Decides m c a new → IsSound new
decided_sound m new c Accepted h d = subst IsSound (sym d.2) (accepted_sound m c h)
decided_sound m new c (Named id) h d = subst IsSound (sym d.2) (accepted_sound m c h)
decided_sound m new c (Told low high) h d = subst IsSound (sym d.2) (accepted_sound m c h)
decided_sound m new c (Reported r) h d = subst IsSound (sym d.2) (accepted_sound m c h)
decided_sound m new c (Refused r) h d = subst IsSound (sym d.1) h

by_refusal : (o : Option Refusal) (m new : Machine) (c : Command) (a : Answer) → IsSound m → MatchOption o (Decides m c a new) (λ r. (a ≡ Refused r) × (new ≡ m)) → IsSound new
by_refusal None m new c a h step = decided_sound m new c a h step
by_refusal (Some r) m new c a h step = subst IsSound (sym step.1) h

pub step_sound : (m new : Machine) (c : Command) (a : Answer) → IsSound m → Step m c a new → IsSound new
step_sound m new c a h step = by_refusal (first_refusal m c) m new c a h step

asks_the_same : (s : Setting) (id : ℕ) (bs : List Bound) → (with_bounds s id bs).proposed ≡ s.proposed
asks_the_same s id [] = refl
asks_the_same s id (b ∷ bs) = asks_the_same (with_bound s id b) (suc id) bs

pub new_sound : (m : Machine) → IsNewExecutive m → IsSound m
new_sound m (inl p) =
    subst IsSound (sym p.2) (record { unused = λ id le. unused_behind p.0 p.1 [] id le; asks_nothing = p.1.asks_nothing })
new_sound m (inr p) =
    subst IsSound (sym p.3) (record { unused = unused_behind p.0 p.2 p.1; asks_nothing = asks_the_same p.0 0 p.1 ∙ p.2.asks_nothing })

-- an executive that `bare` made is new
pub bare_is_new : (m : Machine) (s : Setting) (limits : RunLimits) → IsFresh s → m ≡ new_machine s limits → IsNewExecutive m
bare_is_new m s limits fresh is = inl (s, fresh, is ∙ ap (new_machine s) (sym (ap (λ x. x.limits) is)))

-- and so is one that `from_plan` made
pub plan_is_new : (m : Machine) (s : Setting) (bounds : List Bound) (limits : RunLimits) → IsFresh s → m ≡ plan_machine s bounds limits → IsNewExecutive m
plan_is_new m s bounds limits fresh is = inr (s, bounds, fresh, is ∙ ap (plan_machine s bounds) (sym (ap (λ x. x.limits) is)))
