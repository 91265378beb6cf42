-- Which answers a command may have in a state of the machine, by their text.
use Rattle.std.specs.Prelude.{◌≡◌, ℕ, Bool, true, false, List, Result, Ok, Err}
use Rattle.std.specs.declared.alloc.AllocError.{AllocError}
use Rattle.tp_exec_machine.specs.declared.command.Command.{Command}
use Rattle.tp_exec_machine.specs.declared.command.Answer.{Answer}
use Rattle.tp_exec_machine.specs.Machine.{Machine}
use Rattle.tp_exec_machine.specs.Step.{Step}
use Rattle.tp_script.specs.Transcript.{answer_text}
use Rattle.tp_journal_pairs.specs.declared.judging.Finding.{Finding}
use Rattle.tp_journal_pairs.specs.declared.judging.Finding.TheVariants.{Right, Wrong, Memory}

-- the machine may answer the command by that text, and goes on to the other state
abbrev pub Allows : Machine → Command → List ℕ → Machine → Type 0
Allows old command text new =
    (answer : Answer) × Step old command answer new × (text ≡ answer_text answer)

-- the machine may answer the command by that text
abbrev pub IsAllowed : Machine → Command → List ℕ → Type 0
IsAllowed old command text = (new : Machine) × Allows old command text new

-- what is found of a text: that it is allowed, with the state to which it leads, or that it is not. Memory says nothing
abbrev pub IsJudged : Machine → Command → List ℕ → Machine → Finding → Type 0
IsJudged old command text new Right = Allows old command text new
IsJudged old command text new Wrong = ¬ IsAllowed old command text
IsJudged old command text new Memory = Unit {0}

abbrev pub verdict_of : Result Bool AllocError → Finding
verdict_of (Ok true) = Right
verdict_of (Ok false) = Wrong
verdict_of (Err e) = Memory
