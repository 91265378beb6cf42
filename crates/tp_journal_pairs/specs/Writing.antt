-- What the writing of a journal does to the machine, the reader, the writer of answers and the log.
use Rattle.std.specs.Prelude.{◌≡◌, ◌≢◌, ◌⊎◌, ℕ, ◌+◌, ◌≤◌, ◌<◌, List, [], ◌∷◌, ◌++◌, length, take, Option, Some, None, MatchOption, MatchBool, Result, Ok, Err, nat_lt, flat_map}
use Rattle.std.specs.FinMap.{get}
use Rattle.std.specs.Io.KnownBytes.{Appends, Consumes, IsAtEnd}
use Rattle.tp_device.specs.Bytes.{AppendsPart}
use Rattle.tp_bounds.specs.declared.Bound.{Bound}
use Rattle.tp_bounds.specs.Setting.{Setting}
use Rattle.tp_exec_machine.specs.Machine.{Machine, IsFresh, new_machine, plan_machine}
use Rattle.tp_exec_machine.specs.declared.command.Answer.{Answer}
use Rattle.tp_exec_machine.specs.declared.command.Kind.TheVariants.{Bare}
use Rattle.tp_exec_machine.specs.declared.command.Command.{Command}
use Rattle.tp_exec_machine.specs.Step.{Step}
use Rattle.tp_script.specs.Words.{words_of}
use Rattle.tp_script.specs.Commands.{command_of, list_is_empty}
use Rattle.tp_script.specs.Transcript.{line_of, refused_line, Transcript}
use Rattle.tp_script.specs.Pending.{Reading}
use Rattle.tp_script.specs.Reading.{Free, HasMore, TakesWhole, TakesPart}
use Rattle.tp_script.specs.Serving.{TakesLines, Goes, EndsUnwritten, commands_of, commands_in}
use Rattle.tp_script.specs.declared.serving.Served.{Served}
use Rattle.tp_journal_pairs.specs.declared.faults.JournalFault.{JournalFault}
use Rattle.tp_journal_pairs.specs.declared.faults.JournalFault.TheVariants.{Read, Write, Log, TooLong}
use Rattle.tp_journal_pairs.specs.declared.writing.Turn.{Turn}
use Rattle.tp_journal_pairs.specs.declared.writing.Turn.TheVariants.{Answered, Over}
use Rattle.tp_journal_pairs.specs.Journal.{Entry, IsHead, Runs, head_of, pair_lines, journal_lines, text_of}

-- the executive is as `bare` leaves it, or as `from_plan` does
abbrev pub IsNewExecutive : Machine → Type 0
IsNewExecutive m =
    ((s : Setting) × IsFresh s × (m ≡ new_machine s m.limits))
    ⊎ ((s : Setting) × (bounds : List Bound) × IsFresh s × (m ≡ plan_machine s bounds m.limits))

-- each identifier below the next one is that of a bound in force
abbrev pub AllAreInForce : Machine → Type 0
AllAreInForce m = (id : ℕ) → id < m.next → get m.setting.bounds id ≢ None

-- what one line becomes: its entry, none for a line without words; what it is answered; and the
-- state after it
abbrev pub Enters : Machine → List ℕ → List Entry → List ℕ → Machine → Type 0
Enters old line entries text new =
    MatchBool (nat_lt 256 (length line)) ((entries ≡ None ∷ []) × (text ≡ refused_line)
    × (new ≡ old)) (MatchBool (list_is_empty (words_of line)) ((entries ≡ []) × (text ≡ [])
    × (new ≡ old)) (MatchOption (command_of line) ((entries ≡ None ∷ []) × (text ≡ refused_line)
    × (new ≡ old)) (λ command. (answer : Answer) × Step old command answer new
    × (entries ≡ Some (command, answer) ∷ []) × (text ≡ line_of answer))))

-- what all lines become, one after another
abbrev pub EntersAll : Machine → List (List ℕ) → List Entry → List ℕ → Machine → Type 0
EntersAll old [] entries text new = (entries ≡ []) × (text ≡ []) × (new ≡ old)
EntersAll old (line ∷ lines) entries text new =
    (first : List Entry) × (rest : List Entry) × (said : List ℕ) × (more : List ℕ) × (mid : Machine)
    × (entries ≡ first ++ rest) × (text ≡ said ++ more) × Enters old line first said mid
    × EntersAll mid lines rest more new

-- the bytes of the pairs
abbrev pub pairs_text : List Entry → List ℕ
pairs_text entries = text_of (flat_map pair_lines entries)

-- the bytes of a journal of version 2
abbrev pub journal_bytes : Machine → List Entry → List ℕ
journal_bytes old entries = text_of (journal_lines 2 old entries)

-- the pairs go to the log, and then the answers go out
abbrev pub SaysAll : {T : Type 0} → List Entry → List ℕ → Option (List ℕ) → Option (List ℕ)
    → Option (List ℕ) → Option (List ℕ) → Result T JournalFault → Type 0
SaysAll entries text held now log logged (Ok x) =
    Appends held now text × Appends log logged (pairs_text entries)
SaysAll entries text held now log logged (Err Write) =
    AppendsPart held now text × Appends log logged (pairs_text entries)
SaysAll entries text held now log logged (Err Log) =
    Appends held now [] × AppendsPart log logged (pairs_text entries)
SaysAll entries text held now log logged (Err Read) = ⊥
SaysAll entries text held now log logged (Err TooLong) = ⊥

-- a command is carried out, and its answer said
abbrev pub EntersCommand : Machine → Machine → Command → Option (List ℕ) → Option (List ℕ)
    → Option (List ℕ) → Option (List ℕ) → Result (Unit {0}) JournalFault → Type 0
EntersCommand old new command held now log logged result =
    (answer : Answer) × Step old command answer new
    × SaysAll (Some (command, answer) ∷ []) (line_of answer) held now log logged result

-- a line is entered, and what it is answered said
abbrev pub EntersLine : Machine → Machine → List ℕ → Option (List ℕ) → Option (List ℕ)
    → Option (List ℕ) → Option (List ℕ) → Result ℕ JournalFault → Type 0
EntersLine old new line held now log logged result =
    (entries : List Entry) × (text : List ℕ) × Enters old line entries text new
    × SaysAll entries text held now log logged result

-- one turn. The pair goes to the log before the answer goes out
abbrev pub Turns : Machine → Machine → Reading → Reading → Option (List ℕ) → Option (List ℕ)
    → Option (List ℕ) → Option (List ℕ) → Result Turn JournalFault → Type 0
Turns old new before after held now log logged (Ok Over) =
    (new ≡ old) × Consumes before.rest after.rest [] × IsAtEnd after.rest × Appends held now []
    × Appends log logged [] × (after.taken ≡ before.taken)
Turns old new before after held now log logged (Ok (Answered n)) =
    (line : List ℕ) × (entries : List Entry) × (text : List ℕ) × TakesWhole before after line
    × Enters old line entries text new × Appends held now text
    × Appends log logged (pairs_text entries) × (n ≡ commands_of line)
Turns old new before after held now log logged (Err Read) =
    (new ≡ old) × TakesPart before after × Appends held now [] × Appends log logged []
Turns old new before after held now log logged (Err TooLong) =
    (new ≡ old) × TakesPart before after × Appends held now [] × Appends log logged []
    × HasMore after.rest × (after.taken ≡ after.most)
Turns old new before after held now log logged (Err Write) =
    (line : List ℕ) × (entries : List Entry) × (text : List ℕ) × TakesWhole before after line
    × Enters old line entries text new × AppendsPart held now text
    × Appends log logged (pairs_text entries)
Turns old new before after held now log logged (Err Log) =
    (line : List ℕ) × (entries : List Entry) × (text : List ℕ) × TakesWhole before after line
    × Enters old line entries text new × Appends held now []
    × AppendsPart log logged (pairs_text entries)

-- so far these lines were taken, entered, and answered
pub record Records (old new : Machine) (before after : Reading)
    (held now log logged : Option (List ℕ)) (commands : ℕ) : Type 0 where
  pub goes : Goes old new before after held now commands
  pub entries : List Entry
  pub ran : EntersAll old goes.lines entries goes.text new
  pub runs : Runs 2 old entries new
  pub logs : Appends log logged (journal_bytes old entries)

-- Where the log failed. Before: the entries whose answers went out; the log holds all of these,
-- unless it holds no whole head. Last: that of which a part may be in the log, and whose answer did
-- not go out
pub record EndsUnlogged (old new : Machine) (lines : List (List ℕ)) (entries : List Entry)
    (held now log logged : Option (List ℕ)) : Type 0 where
  pub lines_before : List (List ℕ)
  pub lines_last : List (List ℕ)
  pub before : List Entry
  pub last : List Entry
  pub said : List ℕ
  pub unsaid : List ℕ
  pub mid : Machine
  pub lines_are : lines ≡ lines_before ++ lines_last
  pub entries_are : entries ≡ before ++ last
  pub one : length last ≤ 1
  pub ran_before : EntersAll old lines_before before said mid
  pub ran_last : EntersAll mid lines_last last unsaid new
  pub answered : Appends held now said
  pub count : ℕ
  pub within : count ≤ length (journal_bytes old entries)
  pub pairs_before : before ≢ [] → length (journal_bytes old before) ≤ count
  pub logs : Appends log logged (take count (journal_bytes old entries))

-- How it ended. Without a fault of writer or log, both hold all of it. Where the writer failed the
-- log holds all, and all answers but the last went out whole
abbrev pub EndsJournal : Machine → Machine → Reading → List (List ℕ) → List Entry → List ℕ → List ℕ
    → Option (List ℕ) → Option (List ℕ) → Option (List ℕ) → Option (List ℕ)
    → Result Served JournalFault → Type 0
EndsJournal old new after lines entries text part held now log logged (Ok served) =
    (part ≡ []) × IsAtEnd after.rest × Appends held now text
    × Appends log logged (journal_bytes old entries) × (served.commands ≡ commands_in lines)
EndsJournal old new after lines entries text part held now log logged (Err Read) =
    Appends held now text × Appends log logged (journal_bytes old entries)
EndsJournal old new after lines entries text part held now log logged (Err TooLong) =
    Appends held now text × Appends log logged (journal_bytes old entries) × HasMore after.rest
    × (after.taken ≡ after.most)
EndsJournal old new after lines entries text part held now log logged (Err Write) =
    (part ≡ []) × EndsUnwritten old new lines text held now
    × Appends log logged (journal_bytes old entries)
EndsJournal old new after lines entries text part held now log logged (Err Log) =
    (part ≡ []) × EndsUnlogged old new lines entries held now log logged

-- The lines that were read whole, what they became, which is their transcript and a run, and how it
-- ended
pub record Journals (old new : Machine) (before after : Reading)
    (held now log logged : Option (List ℕ)) (result : Result Served JournalFault) : Type 0 where
  pub lines : List (List ℕ)
  pub entries : List Entry
  pub text : List ℕ
  pub left : Option (List ℕ)
  pub part : List ℕ
  pub read : TakesLines before.rest left lines
  pub behind : Consumes left after.rest part
  pub free : Free part
  pub counted : after.taken ≡ before.taken + (length read.text + length part)
  pub ran : EntersAll old lines entries text new
  pub transcript : Transcript old lines text new
  pub runs : Runs 2 old entries new
  pub ended : EndsJournal old new after lines entries text part held now log logged result

-- whose fault it was
abbrev pub read_failures : {T : Type 0} → ℕ → Result T JournalFault → ℕ
read_failures n (Ok x) = n
read_failures n (Err Read) = n + 1
read_failures n (Err Write) = n
read_failures n (Err Log) = n
read_failures n (Err TooLong) = n

abbrev pub write_failures : {T : Type 0} → ℕ → Result T JournalFault → ℕ
write_failures n (Ok x) = n
write_failures n (Err Read) = n
write_failures n (Err Write) = n + 1
write_failures n (Err Log) = n
write_failures n (Err TooLong) = n

abbrev pub log_failures : {T : Type 0} → ℕ → Result T JournalFault → ℕ
log_failures n (Ok x) = n
log_failures n (Err Read) = n
log_failures n (Err Write) = n
log_failures n (Err Log) = n + 1
log_failures n (Err TooLong) = n

-- where a head can tell how many own bounds there are, the head is one of the format
abbrev pub HeadIsOne : Machine → Type 0
HeadIsOne m = (m.kind ≡ Bare) ⊎ (m.next ≤ 65_535) → IsHead (head_of 2 m)
