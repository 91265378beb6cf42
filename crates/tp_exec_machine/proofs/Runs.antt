-- A run goes on by one step, and what it tells is true.
use Rattle.std.proofs.Common.{◌≡◌, ◌≢◌, ◌↔◌, ◌⊎◌, inl, inr, List, [], ◌∷◌, ◌++◌, Option, Some, None, MatchOption, refl, subst}
use Rattle.tp_bounds.specs.Schedule.{HasSchedule, IsWindow}
use Rattle.tp_exec_machine.specs.declared.command.Command.TheVariants.{Window}
use Rattle.tp_exec_machine.specs.declared.command.Answer.TheVariants.{Accepted, Named, Told, Reported, Refused}
use Rattle.tp_exec_machine.specs.declared.refusal.Refusal.{Refusal}
use Rattle.tp_exec_machine.specs.declared.refusal.Refusal.TheVariants.{NoEvent, Done, NoBound, Weight, Back, Moment, Full, Spent, Memory, Conflict}
use Rattle.tp_exec_machine.specs.declared.command.Command.{Command}
use Rattle.tp_exec_machine.specs.declared.command.Answer.{Answer}
use Rattle.tp_exec_machine.specs.Machine.{Machine}
use Rattle.tp_exec_machine.specs.Step.{Step, Decides, first_refusal, accepted}
use Rattle.tp_exec_machine.specs.Run.{Run, TellsWindow, IsConflict, RefusesExactly, RunTellsTruth}

pub run_more : (cs : List Command) (answers : List Answer) (old mid new : Machine) (c : Command) (a : Answer) → Run old cs answers mid → Step mid c a new → Run old (cs ++ c ∷ []) (answers ++ a ∷ []) new
run_more [] [] old mid new c a run step = (new, subst (λ m. Step m c a new) run step, refl)
run_more [] (b ∷ bs) old mid new c a run step = absurd run
run_more (d ∷ ds) [] old mid new c a run step = absurd run
run_more (d ∷ ds) (b ∷ bs) old mid new c a run step = (run.0, run.1, run_more ds bs run.0 mid new c a run.2 step)

-- ---- a run tells the truth

-- the first refusal is the answer, or none applies and the command is decided
pub either : (m : Machine) (c : Command) (a : Answer) (new : Machine) (o : Option Refusal) → MatchOption o (Decides m c a new) (λ r. (a ≡ Refused r) × (new ≡ m)) → ((o ≡ None) × Decides m c a new) ⊎ ((r : Refusal) × (o ≡ Some r) × (a ≡ Refused r))
either m c a new None step = inl (refl, step)
either m c a new (Some r) step = inr (r, refl, step.0)

window_true : (m : Machine) (c : Command) (a : Answer) (new : Machine) → Step m c a new → TellsWindow m c a
window_true m (Window e) (Told low high) new step =
    elim (either m (Window e) (Told low high) new (first_refusal m (Window e)) step) [
      | inl p ↦ let w : IsWindow m.setting e low high = p.1.0 in λ x. (λ q. w.occurs x q.0 q.1, w.inside x)
      | inr p ↦ absurd (let is : Told low high ≡ Refused p.0 = p.2 in let f : ⊥ = cc in f)
    ]
window_true m c a new step = tt

decided_exactly : (m : Machine) (c : Command) (a : Answer) (new : Machine) → Decides m c a new → a ≢ Refused Memory → (IsConflict a ↔ (HasSchedule ((accepted m c).setting) → ⊥))
decided_exactly m c (Refused (Conflict reason)) new d other = (λ _. d.0.none, λ _. tt)
decided_exactly m c (Refused Memory) new d other = absurd (other refl)
decided_exactly m c (Refused NoEvent) new d other = absurd d.0
decided_exactly m c (Refused Done) new d other = absurd d.0
decided_exactly m c (Refused NoBound) new d other = absurd d.0
decided_exactly m c (Refused Weight) new d other = absurd d.0
decided_exactly m c (Refused Back) new d other = absurd d.0
decided_exactly m c (Refused Moment) new d other = absurd d.0
decided_exactly m c (Refused Full) new d other = absurd d.0
decided_exactly m c (Refused Spent) new d other = absurd d.0
decided_exactly m c Accepted new d other = (λ f. absurd f, λ none. none d.1)
decided_exactly m c (Named id) new d other = (λ f. absurd f, λ none. none d.1)
decided_exactly m c (Told low high) new d other = (λ f. absurd f, λ none. none d.1)
decided_exactly m c (Reported r) new d other = (λ f. absurd f, λ none. none d.1)

refused_exactly : (m : Machine) (c : Command) (a : Answer) (new : Machine) → Step m c a new → RefusesExactly m c a
refused_exactly m c a new step none other =
    elim (either m c a new (first_refusal m c) step) [
      | inl p ↦ decided_exactly m c a new p.1 other
      | inr p ↦ absurd (let is : first_refusal m c ≡ Some p.0 = p.1 in let f : ⊥ = cc in f)
    ]

pub run_true : (cs : List Command) (answers : List Answer) (old new : Machine) → Run old cs answers new → RunTellsTruth old cs answers new
run_true [] [] old new run = run
run_true [] (a ∷ answers) old new run = absurd run
run_true (c ∷ cs) [] old new run = absurd run
run_true (c ∷ cs) (a ∷ answers) old new run =
    (run.0, run.1, window_true old c a run.0 run.1, refused_exactly old c a run.0 run.1, run_true cs answers run.0 new run.2)
