-- A run of the machine: commands with their answers, joined from state to state.
use Rattle.std.specs.Prelude.{◌≡◌, ◌≢◌, ◌↔◌, ℕ, ◌≤◌, List, [], ◌∷◌, None}
use Rattle.tp_bounds.specs.Schedule.{IsMoment, HasSchedule}
use Rattle.tp_exec_machine.specs.declared.command.Command.{Command}
use Rattle.tp_exec_machine.specs.declared.command.Command.TheVariants.{Window}
use Rattle.tp_exec_machine.specs.declared.command.Answer.{Answer}
use Rattle.tp_exec_machine.specs.declared.command.Answer.TheVariants.{Told, Refused}
use Rattle.tp_exec_machine.specs.declared.refusal.Refusal.TheVariants.{Memory, Conflict}
use Rattle.tp_exec_machine.specs.Machine.{Machine}
use Rattle.tp_exec_machine.specs.Step.{Step, first_refusal, accepted}

-- the commands are answered so, one after another, and lead from the one state to the other
abbrev pub Run : Machine → List Command → List Answer → Machine → Type 0
Run old [] [] new = new ≡ old
Run old [] (answer ∷ answers) new = ⊥
Run old (command ∷ commands) [] new = ⊥
Run old (command ∷ commands) (answer ∷ answers) new =
    (mid : Machine) × Step old command answer mid × Run mid commands answers new

-- ---- what answers mean

-- a window told is exactly the set of moments at which the event happens in some remaining schedule
abbrev pub TellsWindow : Machine → Command → Answer → Type 0
TellsWindow m (Window e) (Told low high) =
    (x : ℕ) → ((low ≤ x) × (x ≤ high)) ↔ IsMoment m.setting e x
TellsWindow m command answer = Unit {0}

abbrev pub IsConflict : Answer → Type 0
IsConflict (Refused (Conflict reason)) = Unit {0}
IsConflict answer = ⊥

-- a well-formed command that memory does not stop is answered Conflict exactly if no schedule would remain
abbrev pub RefusesExactly : Machine → Command → Answer → Type 0
RefusesExactly m command answer =
    first_refusal m command ≡ None → answer ≢ Refused Memory
    → (IsConflict answer ↔ (HasSchedule ((accepted m command).setting) → ⊥))

-- a run of which each answer is true in the state in which it was given
abbrev pub RunTellsTruth : Machine → List Command → List Answer → Machine → Type 0
RunTellsTruth old [] [] new = new ≡ old
RunTellsTruth old [] (answer ∷ answers) new = ⊥
RunTellsTruth old (command ∷ commands) [] new = ⊥
RunTellsTruth old (command ∷ commands) (answer ∷ answers) new =
    (mid : Machine)
    × Step old command answer mid
    × TellsWindow old command answer
    × RefusesExactly old command answer
    × RunTellsTruth mid commands answers new
