-- The one spelling of a command, and what it means that a line spells it.
use Rattle.std.specs.Prelude.{◌≡◌, ℕ, List, [], ◌∷◌, ◌++◌, Some, codes, decimal}
use Rattle.std.specs.Fmt.{signed_decimal}
use Rattle.tp_bounds.specs.declared.Point.{Point}
use Rattle.tp_bounds.specs.declared.Point.TheVariants.{Origin, Event}
use Rattle.tp_bounds.specs.declared.Bound.{Bound}
use Rattle.tp_exec_machine.specs.declared.command.Command.{Command}
use Rattle.tp_exec_machine.specs.declared.command.Command.TheVariants.{Advance, Add, Withdraw, Window, Dispatch, Happened, Report}
use Rattle.tp_script.specs.Commands.{command_of}

abbrev pub point_text : Point → List ℕ
point_text Origin = codes "o"
point_text (Event e) = decimal e

-- from, to and weight, with one space between
abbrev pub bound_text : Bound → List ℕ
bound_text b = point_text b.from ++ codes " " ++ point_text b.to ++ codes " " ++ signed_decimal b.w

-- the line of a bound under an identifier, with its end
abbrev pub bound_line : ℕ → Bound → List ℕ
bound_line id b = (codes "bound " ++ decimal id ++ codes " " ++ bound_text b) ++ 10 ∷ []

-- a command's words, with one space between and no leading zeros
abbrev pub command_text : Command → List ℕ
command_text (Advance to) = codes "advance " ++ decimal to
command_text (Add b) = codes "add " ++ bound_text b
command_text (Withdraw id) = codes "withdraw " ++ decimal id.0
command_text (Window e) = codes "window " ++ decimal e
command_text (Dispatch e) = codes "dispatch " ++ decimal e
command_text (Happened e moment) = codes "happened " ++ decimal e ++ codes " " ++ decimal moment
command_text Report = codes "report"

-- a command's line, with its end
abbrev pub command_line : Command → List ℕ
command_line command = command_text command ++ 10 ∷ []

-- some line spells the command
abbrev pub IsSpelled : Command → Type 0
IsSpelled command = (line : List ℕ) × (command_of line ≡ Some command)

-- a command that some line spells is read again from its one spelling
abbrev pub AreReadAgain : Type 0
AreReadAgain =
    (command : Command) → IsSpelled command → command_of (command_text command) ≡ Some command
