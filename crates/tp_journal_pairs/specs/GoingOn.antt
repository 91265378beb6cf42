-- What the writing of further pairs does to the machine, the reader, the writer of answers and the log.
use Rattle.std.specs.Prelude.{◌≡◌, ℕ, List, Option, Result, Ok, Err}
use Rattle.std.specs.Io.KnownBytes.{Appends}
use Rattle.tp_exec_machine.specs.Machine.{Machine}
use Rattle.tp_script.specs.Pending.{Reading}
use Rattle.tp_script.specs.Serving.{Goes}
use Rattle.tp_script.specs.declared.serving.Served.{Served}
use Rattle.tp_journal_pairs.specs.declared.faults.JournalFault.{JournalFault}
use Rattle.tp_journal_pairs.specs.declared.writing.Turn.{Turn}
use Rattle.tp_journal_pairs.specs.declared.writing.Turn.TheVariants.{Over}
use Rattle.tp_journal_pairs.specs.Journal.{Entry, Runs}
use Rattle.tp_journal_pairs.specs.Writing.{EntersAll, Turns, pairs_text}

-- so far these lines were taken, entered and answered, and their pairs are in the log
pub record Follows (old new : Machine) (before after : Reading)
    (held now log logged : Option (List ℕ)) (commands : ℕ) : Type 0 where
  pub goes : Goes old new before after held now commands
  pub entries : List Entry
  pub ran : EntersAll old goes.lines entries goes.text new
  pub runs : Runs 2 old entries new
  pub logs : Appends log logged (pairs_text entries)

-- the last turn: no line was left, or it ended with the fault
abbrev pub last_turn : Result Served JournalFault → Result Turn JournalFault
last_turn (Ok served) = Ok Over
last_turn (Err fault) = Err fault

abbrev pub IsCounted : Result Served JournalFault → ℕ → Type 0
IsCounted (Ok served) commands = served.commands ≡ commands
IsCounted (Err fault) commands = Unit {0}

-- some lines were answered with their pairs in the log, and then came the last turn
pub record GoesOn (old new : Machine) (before after : Reading)
    (held now log logged : Option (List ℕ)) (result : Result Served JournalFault) : Type 0 where
  pub mid : Machine
  pub behind : Reading
  pub said : Option (List ℕ)
  pub kept : Option (List ℕ)
  pub commands : ℕ
  pub follows : Follows old mid before behind held said log kept commands
  pub turn : Turns mid new behind after said now kept logged (last_turn result)
  pub counted : IsCounted result commands
