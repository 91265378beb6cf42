-- What holds of what a journal writes: it has the form by which a journal is read, and is accepted.
use Rattle.std.specs.Prelude.{◌≡◌, ℕ, ◌+◌, ◌<◌, ◌≤◌, ◌^◌, true, List, [], length, Option, Some, flat_map, Result, Ok, Err}
use Rattle.std.specs.List.{All}
use Rattle.tp_bounds.specs.Lawful.{IsLawful}
use Rattle.tp_bounds.specs.RunLimits.{AreLimits}
use Rattle.tp_exec_machine.specs.declared.command.Command.{Command}
use Rattle.tp_exec_machine.specs.declared.command.Answer.{Answer}
use Rattle.tp_exec_machine.specs.Machine.{Machine}
use Rattle.tp_exec_machine.specs.Step.{Step}
use Rattle.tp_script.specs.Transcript.{answer_text}
use Rattle.tp_script.specs.Written.{IsSpelled}
use Rattle.tp_journal_pairs.specs.Journal.{Head, IsHead, head_of, head_lines, Entry, question_line, answer_line, pair_lines, Has, Runs, journal_lines, text_of, longest_line}
use Rattle.tp_journal_pairs.specs.Sound.{IsSound}
use Rattle.tp_journal_pairs.specs.Writing.{IsNewExecutive, Journals, journal_bytes}
use Rattle.tp_script.specs.declared.serving.Served.{Served}
use Rattle.tp_script.specs.Pending.{Reading}
use Rattle.tp_journal_pairs.specs.declared.faults.JournalFault.{JournalFault}
use Rattle.tp_journal.specs.declared.faults.AuditFault.{AuditFault}
use Rattle.tp_journal.specs.declared.faults.AuditFault.TheVariants.{Memory, Read, Line, Wrong, Head as OtherHead}
use Rattle.tp_journal.specs.declared.faults.Audited.{Audited}
use Rattle.tp_journal.specs.declared.form.Asked.TheVariants.{Told}
use Rattle.tp_journal.specs.declared.form.Place.{Place}
use Rattle.tp_journal.specs.declared.form.Place.TheVariants.{Start, Lag, Question}
use Rattle.tp_journal.specs.Form.{question_of, is_reply, place_after, may_end}
use Rattle.tp_journal.specs.Auditing.{BreaksAt, DisallowsAt, HasOtherHead, Audits}

-- each answer of the machine, as it is written, has the form of an answer
abbrev pub AnswersHaveTheForm : Type 0
AnswersHaveTheForm =
    (old new : Machine) (command : Command) (answer : Answer)
    → IsSound old → IsLawful old.setting → old.next < 2 ^ 32
    → Step old command answer new
    → is_reply (answer_line (Some (command, answer))) ≡ true

-- each question of a version, as it is written, is read as its command
abbrev pub QuestionsAreRead : Type 0
QuestionsAreRead =
    (version : ℕ) (command : Command) (answer : Answer)
    → IsSpelled command → Has version command
    → question_of version (question_line (Some (command, answer))) ≡ Some (Told command)

-- a sound state whose numbers are in range, and in which no more identifiers were given out than the limits allow
pub record IsWithin (m : Machine) : Type 0 where
  pub sound : IsSound m
  pub lawful : IsLawful m.setting
  pub next : m.next ≤ m.limits.ids
  pub ids : m.limits.ids < 2 ^ 32

-- the lines of the pairs of each run are pairs of lines of the format: each question is followed by a reply
abbrev pub PairsHaveTheForm : Type 0
PairsHaveTheForm =
    (version : ℕ) (old new : Machine) (entries : List Entry)
    → IsWithin old → Runs version old entries new
    → place_after (Question version) (flat_map pair_lines entries) ≡ Some (Question version)

-- the lines of each head, as they are written, are lines of a head of the format
abbrev pub HeadsAreRead : Type 0
HeadsAreRead =
    (head : Head) → IsHead head → (least : ℕ)
    × (place_after Start (head_lines head) ≡ Some (Lag head.version head.events least))

-- the lines of each journal are lines of the format, each where it may stand, and they end where lines may end
abbrev pub JournalsHaveTheForm : Type 0
JournalsHaveTheForm =
    (version : ℕ) (old new : Machine) (entries : List Entry)
    → IsWithin old → IsHead (head_of version old) → Runs version old entries new
    → (place : Place) × (place_after Start (journal_lines version old entries) ≡ Some place)
    × (may_end place ≡ true)

-- no line of a journal that was written whole has more bytes than a line of a journal may have
abbrev pub JournalsHaveShortLines : Type 0
JournalsHaveShortLines =
    (version : ℕ) (old new : Machine) (entries : List Entry)
    → IsWithin old → IsHead (head_of version old) → Runs version old entries new
    → All (λ line. length line ≤ longest_line) (journal_lines version old entries)

-- no line of a journal that was written whole breaks the format
abbrev pub JournalsBreakNowhere : Type 0
JournalsBreakNowhere =
    (old new : Machine) (entries : List Entry) (n : ℕ)
    → IsWithin old → IsHead (head_of 2 old) → Runs 2 old entries new
    → ¬ BreaksAt (text_of (journal_lines 2 old entries)) n

-- one text of an answer to a command leads to one state
abbrev pub TextsLeadToOneState : Type 0
TextsLeadToOneState =
    (old new other : Machine) (command : Command) (answer same : Answer)
    → Step old command answer new → Step old command same other
    → answer_text answer ≡ answer_text same → new ≡ other

-- no answer in a journal that was written whole is one that the machine does not allow there
abbrev pub JournalsAreNeverWrong : Type 0
JournalsAreNeverWrong =
    (old new : Machine) (entries : List Entry) (n : ℕ)
    → IsWithin old → IsHead (head_of 2 old) → Runs 2 old entries new
    → ¬ DisallowsAt old (text_of (journal_lines 2 old entries)) n

-- the head of a journal that was written whole is not that of another executive
abbrev pub JournalsHaveTheirHead : Type 0
JournalsHaveTheirHead =
    (old new : Machine) (entries : List Entry)
    → IsWithin old → IsHead (head_of 2 old) → Runs 2 old entries new
    → ¬ HasOtherHead old (text_of (journal_lines 2 old entries))

-- an executive as `bare` and `from_plan` leave it, over a setting with all its numbers in range: with no more bounds, and
-- no more identifiers given out, than its limits allow
pub record IsStart (m : Machine) : Type 0 where
  pub new : IsNewExecutive m
  pub lawful : IsLawful m.setting
  pub limits : AreLimits m.limits
  pub bounds : m.next ≤ m.limits.bounds
  pub ids : m.next ≤ m.limits.ids

-- a yes, with that many pairs, or that memory was refused or the reader failed
abbrev pub IsYes : ℕ → Result Audited AuditFault → Type 0
IsYes pairs (Ok audited) = audited.pairs ≡ pairs
IsYes pairs (Err Memory) = Unit {0}
IsYes pairs (Err Read) = Unit {0}
IsYes pairs (Err (Line n)) = ⊥
IsYes pairs (Err (Wrong n)) = ⊥
IsYes pairs (Err OtherHead) = ⊥

-- A journal of a run is accepted: where a reader has its bytes, and may deliver so many, an audit with an executive in the state in which the
-- run began tells nothing but a yes, with that many pairs, unless memory is refused or the reader fails
abbrev pub JournalsAreAccepted : Type 0
JournalsAreAccepted =
    (old new : Machine) (entries : List Entry) (start after : Reading)
    (result : Result Audited AuditFault)
    → IsStart old → Runs 2 old entries new
    → start.rest ≡ Some (journal_bytes old entries)
    → start.taken + length (journal_bytes old entries) ≤ start.most → after.most ≡ start.most
    → Audits old start after result → IsYes (length entries) result

-- So what `journal` wrote to an empty log, where it met no fault, is accepted
abbrev pub WrittenJournalsAreAccepted : Type 0
WrittenJournalsAreAccepted =
    (old new : Machine) (lines behind : Reading) (held answered : Option (List ℕ))
    (bytes : List ℕ) (served : Served) (start after : Reading) (result : Result Audited AuditFault)
    → IsStart old
    → (journal : Journals old new lines behind held answered (Some []) (Some bytes) (Ok served))
    → start.rest ≡ Some bytes → start.taken + length bytes ≤ start.most → after.most ≡ start.most
    → Audits old start after result → IsYes (length journal.entries) result

-- No line of the journal that `journal` writes has more bytes than a line of a journal may have, however it ends
abbrev pub WrittenJournalsHaveShortLines : Type 0
WrittenJournalsHaveShortLines =
    (old new : Machine) (lines behind : Reading)
    (held answered log logged : Option (List ℕ)) (result : Result Served JournalFault)
    → IsStart old → (journal : Journals old new lines behind held answered log logged result)
    → All (λ line. length line ≤ longest_line) (journal_lines 2 old journal.entries)
