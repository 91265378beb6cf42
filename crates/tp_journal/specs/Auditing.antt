-- What the reading of a journal finds: its head, that it is one, or the line at which it is none.
use Rattle.std.specs.Prelude.{◌≡◌, ◌≢◌, ◌⊎◌, ℕ, ◌+◌, ◌≤◌, ◌<◌, true, false, List, [], ◌∷◌, ◌++◌, length, take, drop, Option, Some, None, IfSome, Result, Ok, Err, codes}
use Rattle.std.specs.List.{All}
use Rattle.std.specs.Io.KnownBytes.{Consumes, IsAtEnd}
use Rattle.tp_exec_machine.specs.declared.command.Kind.TheVariants.{Bare}
use Rattle.tp_exec_machine.specs.Machine.{Machine}
use Rattle.tp_script.specs.Pending.{Reading}
use Rattle.tp_script.specs.Reading.{Free, HasMore, TakesPart}
use Rattle.tp_journal_pairs.specs.Journal.{Entry, IsHead, head_of, head_lines, question_line, answer_line, Runs, IsJournal, IsJournalText, text_of, longest_line}
use Rattle.tp_journal_pairs.specs.Allowed.{IsJudged}
use Rattle.tp_journal_pairs.specs.declared.judging.Finding.{Finding}
use Rattle.tp_journal_pairs.specs.declared.judging.Finding.TheVariants.{Right, Wrong as Wrongly, Memory as Unknown}
use Rattle.tp_journal.specs.declared.form.Asked.{Asked}
use Rattle.tp_journal.specs.declared.form.Asked.TheVariants.{Nothing, Told}
use Rattle.tp_journal.specs.declared.form.Place.{Place}
use Rattle.tp_journal.specs.declared.form.Place.TheVariants.{Start, Network, Kind, Own, Lag, Question, Reply}
use Rattle.tp_journal.specs.declared.faults.AuditFault.{AuditFault}
use Rattle.tp_journal.specs.declared.faults.AuditFault.TheVariants.{Memory, Read, Line, Wrong, Head}
use Rattle.tp_journal.specs.declared.faults.Audited.{Audited}
use Rattle.tp_journal.specs.declared.auditing.Found.{Found}
use Rattle.tp_journal.specs.declared.auditing.Found.TheVariants.{Whole, Over}
use Rattle.tp_journal.specs.declared.auditing.Piece.{Piece}
use Rattle.tp_journal.specs.declared.auditing.Piece.TheVariants.{Whole as WholePiece, Open, Long, Cut, Over as NoPiece}
use Rattle.tp_journal.specs.declared.auditing.Turn.{Turn}
use Rattle.tp_journal.specs.declared.auditing.Turn.TheVariants.{Goes, Asks, Stops}
use Rattle.tp_journal.specs.declared.auditing.Headed.{Headed}
use Rattle.tp_journal.specs.Form.{version_of, question_of, is_reply, next_place, place_after, may_end}

-- ---- lines that are taken

-- one line was taken, with its end, of no more bytes than a line of a journal has
pub record TakesOne (old new : Reading) (line : List ℕ) : Type 0 where
  pub took : Consumes old.rest new.rest (line ++ 10 ∷ [])
  pub free : Free line
  pub short : length line ≤ longest_line
  pub counted : new.taken ≡ old.taken + (length line + 1)

-- nothing was left
pub record Ends (old new : Reading) : Type 0 where
  pub took : Consumes old.rest new.rest []
  pub over : IsAtEnd new.rest
  pub counted : new.taken ≡ old.taken

-- bytes are there, but no whole line of a journal's length stands first
abbrev pub IsTorn : List ℕ → Type 0
IsTorn left =
    (left ≢ [])
    × ((line more : List ℕ) → left ≡ line ++ 10 ∷ more → Free line → longest_line < length line)

-- a line of too many bytes stands first, whose first bytes are shown
abbrev pub IsLong : List ℕ → List ℕ → Type 0
IsLong shown left =
    (part : List ℕ) × (more : List ℕ) × (left ≡ part ++ more) × Free part
    × (longest_line < length part) × (shown ≡ take longest_line part)

-- the last bytes were taken, which no end of a line follows
pub record TakesOpen (old new : Reading) (line : List ℕ) : Type 0 where
  pub took : Consumes old.rest new.rest line
  pub free : Free line
  pub some : 0 < length line
  pub over : IsAtEnd new.rest

-- part of a line was taken, as many bytes as may be, and more are left
abbrev pub IsCut : Reading → Reading → Type 0
IsCut old new = TakesPart old new × HasMore new.rest × (new.taken ≡ new.most)

abbrev pub TakesPiece : Reading → Reading → Result Piece AuditFault → Type 0
TakesPiece old new (Ok WholePiece) = TakesOne old new new.line
TakesPiece old new (Ok Open) = TakesOpen old new new.line
TakesPiece old new (Ok Long) = IfSome old.rest (IsLong new.line)
TakesPiece old new (Ok Cut) = (cut : IsCut old new) × (new.line ≡ take longest_line cut.0.text)
TakesPiece old new (Ok NoPiece) = Ends old new
TakesPiece old new (Err Memory) = ⊥
TakesPiece old new (Err Read) = Unit {0}
TakesPiece old new (Err (Line n)) = ⊥
TakesPiece old new (Err (Wrong n)) = ⊥
TakesPiece old new (Err Head) = ⊥

abbrev pub TakesNext : Reading → Reading → ℕ → Result Found AuditFault → Type 0
TakesNext old new number (Ok Whole) = TakesOne old new new.line
TakesNext old new number (Ok Over) = Ends old new
TakesNext old new number (Err Memory) = ⊥
TakesNext old new number (Err Read) = Unit {0}
TakesNext old new number (Err (Line n)) = (n ≡ number) × (IfSome old.rest IsTorn ⊎ IsCut old new)
TakesNext old new number (Err (Wrong n)) = ⊥
TakesNext old new number (Err Head) = ⊥

-- these lines were taken
pub record IsBehind (start now : Reading) (before : List (List ℕ)) : Type 0 where
  pub took : Consumes start.rest now.rest (text_of before)
  pub free : All Free before
  pub short : All (λ line. length line ≤ longest_line) before
  pub counted : now.taken ≡ start.taken + length (text_of before)

-- ---- a line that breaks the format

-- where the lines so far call for a place, what is left breaks the format at once: nothing is left, and the lines may not end there; no
-- whole line stands first, or one of too many bytes; or one that may not stand there
abbrev pub Breaks : Place → List ℕ → Type 0
Breaks place left =
    ((left ≡ []) × (may_end place ≡ false)) ⊎ (IsTorn left ⊎ ((line : List ℕ) × (more : List ℕ)
    × (left ≡ line ++ 10 ∷ more) × Free line × (next_place place line ≡ None)))

-- line n of the bytes breaks the format, and it is the first that does
pub record BreaksAt (bytes : List ℕ) (n : ℕ) : Type 0 where
  pub before : List (List ℕ)
  pub left : List ℕ
  pub place : Place
  pub reached : place_after Start before ≡ Some place
  pub free : All Free before
  pub short : All (λ line. length line ≤ longest_line) before
  pub bytes_are : bytes ≡ text_of before ++ left
  pub number : n ≡ length before + 1
  pub breaks : Breaks place left

-- behind lines of the format, as many bytes were taken as may be, and more are left: line n does not end there
pub record CutsAt (start after : Reading) (n : ℕ) : Type 0 where
  pub before : List (List ℕ)
  pub part : List ℕ
  pub place : Place
  pub reached : place_after Start before ≡ Some place
  pub free : All Free before
  pub free_part : Free part
  pub took : Consumes start.rest after.rest (text_of before ++ part)
  pub number : n ≡ length before + 1
  pub more : HasMore after.rest
  pub counted : after.taken ≡ start.taken + length (text_of before ++ part)
  pub all : after.taken ≡ after.most

abbrev pub BreaksLine : Reading → Reading → ℕ → Type 0
BreaksLine start after n = IfSome start.rest (λ bytes. BreaksAt bytes n) ⊎ CutsAt start after n

-- ---- an answer that is not allowed

-- Line n is an answer that is not allowed: the lines before it, but for its question, are a journal of the executive, and the machine,
-- where that journal leaves it, may not answer the question so
pub record DisallowsAt (old : Machine) (bytes : List ℕ) (n : ℕ) : Type 0 where
  pub version : ℕ
  pub before : List (List ℕ)
  pub pairs : ℕ
  pub mid : Machine
  pub question : List ℕ
  pub reply : List ℕ
  pub left : List ℕ
  pub asked : Asked
  pub journal : IsJournal version old before pairs mid
  pub asks : question_of version question ≡ Some asked
  pub formed : is_reply reply ≡ true
  pub free_question : Free question
  pub free_reply : Free reply
  pub bytes_are : bytes ≡ text_of (before ++ question ∷ reply ∷ []) ++ left
  pub number : n ≡ length before + 2
  pub refuses : (entry : Entry) (new : Machine) → Runs version mid (entry ∷ []) new
      → question ≡ question_line entry → reply ≢ answer_line entry

-- ---- the head of another executive

-- the version that the lines of a head named
abbrev pub head_version : Place → Option ℕ
head_version Start = None
head_version (Network version) = Some version
head_version (Kind version events) = Some version
head_version (Own version events id count) = Some version
head_version (Lag version events least) = Some version
head_version (Question version) = None
head_version (Reply version) = None

-- a head ends there: nothing is left, or a question
abbrev pub EndsHead : Place → ℕ → List ℕ → Type 0
EndsHead place version left =
    (may_end place ≡ true) × ((left ≡ []) ⊎ ((line : List ℕ) × (more : List ℕ) × (asked : Asked)
    × (left ≡ line ++ 10 ∷ more) × Free line × (question_of version line ≡ Some asked)))

-- The bytes begin with lines with which some head of the format begins, or that are all of it, and the head of the executive, in a journal of
-- that version, does not begin with them, or is not they
pub record HasOtherHead (old : Machine) (bytes : List ℕ) : Type 0 where
  pub before : List (List ℕ)
  pub left : List ℕ
  pub version : ℕ
  pub place : Place
  pub reached : place_after Start before ≡ Some place
  pub names : head_version place ≡ Some version
  pub free : All Free before
  pub bytes_are : bytes ≡ text_of before ++ left
  pub differs : ((more : List (List ℕ)) → IsHead (head_of version old)
      → before ++ more ≢ head_lines (head_of version old)) ⊎ (EndsHead place version left
      × (IsHead (head_of version old) → before ≢ head_lines (head_of version old)))

-- ---- an audit

-- What an audit of an executive that begins in that state tells of the bytes
abbrev pub Audits : Machine → Reading → Reading → Result Audited AuditFault → Type 0
Audits old start after (Ok audited) =
    IfSome start.rest (λ bytes. IsJournalText old bytes audited.pairs) × IsAtEnd after.rest
Audits old start after (Err Memory) = Unit {0}
Audits old start after (Err Read) = Unit {0}
Audits old start after (Err (Line n)) = BreaksLine start after n
Audits old start after (Err (Wrong n)) = IfSome start.rest (λ bytes. DisallowsAt old bytes n)
Audits old start after (Err Head) = IfSome start.rest (λ bytes. HasOtherHead old bytes)

-- whose fault it was
abbrev pub audit_failures : {T : Type 0} → ℕ → Result T AuditFault → ℕ
audit_failures n (Ok x) = n
audit_failures n (Err Memory) = n
audit_failures n (Err Read) = n + 1
audit_failures n (Err (Line k)) = n
audit_failures n (Err (Wrong k)) = n
audit_failures n (Err Head) = n

-- line n was wanted next, and what stands there breaks the format
abbrev pub NoNext : Place → Reading → Reading → ℕ → ℕ → Type 0
NoNext place old new number n =
    (n ≡ number)
    × ((IfSome old.rest IsTorn ⊎ IsCut old new) ⊎ ((Ends old new × (may_end place ≡ false))
    ⊎ ((line : List ℕ) × TakesOne old new line × (next_place place line ≡ None))))

-- ---- the head, line by line

abbrev pub TakesVersion : Reading → Reading → Result ℕ AuditFault → Type 0
TakesVersion old new (Ok version) =
    (line : List ℕ) × TakesOne old new line × (version_of line ≡ Some version)
TakesVersion old new (Err Memory) = ⊥
TakesVersion old new (Err Read) = Unit {0}
TakesVersion old new (Err (Line n)) = NoNext Start old new 1 n
TakesVersion old new (Err (Wrong n)) = ⊥
TakesVersion old new (Err Head) = ⊥

-- the bytes begin with the line and its end
abbrev pub BeginsWithLine : List ℕ → List ℕ → Type 0
BeginsWithLine bytes line = bytes ≡ line ++ 10 ∷ drop (length line + 1) bytes

-- What a line is behind the lines of a head that call for that place, where the executive's head has these bytes left: the next line of
-- both; a question behind all of the executive's head; no line of the format; or another line than the executive's head has
abbrev pub Matches : Place → ℕ → List ℕ → List ℕ → ℕ → Result Turn AuditFault → Type 0
Matches place version line head number (Ok (Goes next count)) =
    (next_place place line ≡ Some next) × (head_version next ≡ Some version)
    × (count ≡ length line + 1) × (count ≤ length head) × (head ≡ line ++ 10 ∷ drop count head)
Matches place version line head number (Ok (Asks asked)) =
    (next_place place line ≡ Some (Reply version)) × (question_of version line ≡ Some asked)
    × (may_end place ≡ true) × (head ≡ [])
Matches place version line head number (Ok Stops) = ⊥
Matches place version line head number (Err Memory) = Unit {0}
Matches place version line head number (Err Read) = ⊥
Matches place version line head number (Err (Line n)) =
    (n ≡ number) × (next_place place line ≡ None)
Matches place version line head number (Err (Wrong n)) = ⊥
Matches place version line head number (Err Head) =
    ((next : Place) × (next_place place line ≡ Some next) × (head_version next ≡ Some version)
    × ((more : List ℕ) → head ≢ line ++ 10 ∷ more)) ⊎ ((asked : Asked)
    × (question_of version line ≡ Some asked) × (may_end place ≡ true) × (head ≢ []))

-- a head can tell how many own bounds there are
abbrev pub HasFew : Machine → Type 0
HasFew m = (m.kind ≡ Bare) ⊎ (m.next ≤ 65_535)

-- one turn in a head: a line is taken, or the end was reached
abbrev pub TurnsHead : Place → ℕ → List ℕ → ℕ → Reading → Reading → Result Turn AuditFault → Type 0
TurnsHead place version head number old new (Ok (Goes next count)) =
    (line : List ℕ) × TakesOne old new line
    × Matches place version line head number (Ok (Goes next count))
TurnsHead place version head number old new (Ok (Asks asked)) =
    (line : List ℕ) × TakesOne old new line
    × Matches place version line head number (Ok (Asks asked))
TurnsHead place version head number old new (Ok Stops) =
    Ends old new × (may_end place ≡ true) × (head ≡ [])
TurnsHead place version head number old new (Err Memory) = Unit {0}
TurnsHead place version head number old new (Err Read) = Unit {0}
TurnsHead place version head number old new (Err (Line n)) = NoNext place old new number n
TurnsHead place version head number old new (Err (Wrong n)) = ⊥
TurnsHead place version head number old new (Err Head) =
    ((line : List ℕ) × TakesOne old new line × Matches place version line head number (Err Head))
    ⊎ (Ends old new × (may_end place ≡ true) × (head ≢ []))

-- where the head ended: nothing is left, or a question was put
abbrev pub HeadEnds : ℕ → Reading → List (List ℕ) → Option Asked → Reading → ℕ → Type 0
HeadEnds version start seen None now count = IsBehind start now seen × IsAtEnd now.rest
HeadEnds version start seen (Some asked) now count =
    (line : List ℕ) × IsBehind start now (seen ++ line ∷ [])
    × (question_of version line ≡ Some asked) × (count ≡ length seen + 1)

-- the executive's head, whole, and what stands behind it
pub record HasHead (old : Machine) (start now : Reading) (headed : Headed) : Type 0 where
  pub seen : List (List ℕ)
  pub place : Place
  pub allowed : IsHead (head_of headed.version old)
  pub reached : place_after Start seen ≡ Some place
  pub names : head_version place ≡ Some headed.version
  pub over : may_end place ≡ true
  pub head : text_of seen ≡ text_of (head_lines (head_of headed.version old))
  pub ends : HeadEnds headed.version start seen headed.asked now headed.count

abbrev pub Heads : Machine → Reading → Reading → Result Headed AuditFault → Type 0
Heads old start now (Ok headed) = HasHead old start now headed
Heads old start now (Err Memory) = Unit {0}
Heads old start now (Err Read) = Unit {0}
Heads old start now (Err (Line n)) = BreaksLine start now n
Heads old start now (Err (Wrong n)) = ⊥
Heads old start now (Err Head) = IfSome start.rest (λ bytes. HasOtherHead old bytes)

-- ---- pairs

-- what is found of a reply to a question
abbrev pub IsReplyJudged : Machine → Machine → Asked → List ℕ → Finding → Type 0
IsReplyJudged old new (Told command) line verdict = IsJudged old command (drop 2 line) new verdict
IsReplyJudged old new Nothing line Right = (new ≡ old) × (line ≡ codes "< refused line")
IsReplyJudged old new Nothing line Wrongly = line ≢ codes "< refused line"
IsReplyJudged old new Nothing line Unknown = Unit {0}

abbrev pub TakesReply : Machine → Machine → Reading → Reading → Asked → ℕ
    → Result (Unit {0}) AuditFault → Type 0
TakesReply old new before after asked number (Ok x) =
    (line : List ℕ) × TakesOne before after line × (is_reply line ≡ true)
    × IsReplyJudged old new asked line Right
TakesReply old new before after asked number (Err Memory) = Unit {0}
TakesReply old new before after asked number (Err Read) = Unit {0}
TakesReply old new before after asked number (Err (Line n)) =
    (version : ℕ) → NoNext (Reply version) before after number n
TakesReply old new before after asked number (Err (Wrong n)) =
    (n ≡ number) × ((line : List ℕ) × TakesOne before after line × (is_reply line ≡ true)
    × IsReplyJudged old new asked line Wrongly)
TakesReply old new before after asked number (Err Head) = ⊥

abbrev pub TakesQuestion : Reading → Reading → ℕ → ℕ → Result (Option Asked) AuditFault → Type 0
TakesQuestion old new version number (Ok None) = Ends old new
TakesQuestion old new version number (Ok (Some asked)) =
    (line : List ℕ) × TakesOne old new line × (question_of version line ≡ Some asked)
TakesQuestion old new version number (Err Memory) = Unit {0}
TakesQuestion old new version number (Err Read) = Unit {0}
TakesQuestion old new version number (Err (Line n)) = NoNext (Question version) old new number n
TakesQuestion old new version number (Err (Wrong n)) = ⊥
TakesQuestion old new version number (Err Head) = ⊥

-- a reply, and the question behind it
abbrev pub TakesPair : Machine → Machine → Reading → Reading → ℕ → Asked → ℕ
    → Result (Option Asked) AuditFault → Type 0
TakesPair old new before after version asked count (Ok next) =
    (mid : Reading) × TakesReply old new before mid asked (count + 1) (Ok tt)
    × TakesQuestion mid after version (count + 2) (Ok next)
TakesPair old new before after version asked count (Err fault) =
    TakesReply old new before after asked (count + 1) (Err fault)
    ⊎ ((mid : Reading) × TakesReply old new before mid asked (count + 1) (Ok tt)
    × TakesQuestion mid after version (count + 2) (Err fault))
