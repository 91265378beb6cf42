-- What the lines of a head tell.
use Rattle.std.specs.Prelude.{◌≡◌, ◌⊎◌, ℕ, ◌≤◌, Bool, true, false, List, [], ◌∷◌, ◌++◌, length, Option, Some, None, IfSome, Result, Ok, Err}
use Rattle.std.specs.List.{All}
use Rattle.std.specs.Option.{option_map, option_to_list}
use Rattle.tp_script.specs.Pending.{Reading}
use Rattle.tp_script.specs.Reading.{Free}
use Rattle.tp_journal_pairs.specs.Journal.{text_of, longest_line}
use Rattle.tp_journal.specs.declared.form.Place.{Place}
use Rattle.tp_journal.specs.declared.form.Place.TheVariants.{Start, Network, Kind, Own, Lag, Question, Reply}
use Rattle.tp_journal.specs.declared.faults.AuditFault.{AuditFault}
use Rattle.tp_journal.specs.declared.faults.AuditFault.TheVariants.{Memory, Read, Line, Wrong, Head}
use Rattle.tp_journal.specs.declared.faults.JournalHead.{JournalHead}
use Rattle.tp_journal.specs.declared.telling.Told.{Told}
use Rattle.tp_journal.specs.declared.telling.Step.{Step}
use Rattle.tp_journal.specs.declared.telling.Step.TheVariants.{On, Done}
use Rattle.tp_journal.specs.Form.{version_of, network_of, own_count_of, lag_of, is_of_pair, next_place, place_after, may_end}
use Rattle.tp_journal.specs.Auditing.{TakesOne, IsCut, head_version, Breaks, BreaksAt, CutsAt, BreaksLine}

-- nothing is told
abbrev pub nothing_told : Told
nothing_told = record { events = 0; horizon = 0; own = None }

abbrev pub network_told : Option (ℕ × ℕ) → Told → Told
network_told None told = told
network_told (Some p) told = record { events = p.0; horizon = p.1; own = told.own }

-- what is told with a line that stands where the lines call for that place: line 2 tells the events and the horizon, line 3 how many own
-- bounds there are, if the network came from a plan
abbrev pub tell : Place → List ℕ → Told → Told
tell Start line told = told
tell (Network version) line told = network_told (network_of line) told
tell (Kind version events) line told =
    record { events = told.events; horizon = told.horizon; own = own_count_of line }
tell (Own version events id count) line told = told
tell (Lag version events least) line told = told
tell (Question version) line told = told
tell (Reply version) line told = told

-- the lag that a line tells there
abbrev pub new_lag : Place → List ℕ → Option (ℕ × ℕ)
new_lag Start line = None
new_lag (Network version) line = None
new_lag (Kind version events) line = None
new_lag (Own version events id count) line = None
new_lag (Lag version events least) line = lag_of line
new_lag (Question version) line = None
new_lag (Reply version) line = None

abbrev pub told_or : Option Told → Told → Told
told_or None told = told
told_or (Some more) told = more

-- what lines tell, one after another
abbrev pub told_after : Place → Told → List (List ℕ) → Told
told_after place told [] = told
told_after place told (line ∷ lines) =
    told_or
    (option_map (λ next. told_after next (tell place line told) lines) (next_place place line)) told

abbrev pub lags_or : Option (List (ℕ × ℕ)) → List (ℕ × ℕ)
lags_or None = []
lags_or (Some lags) = lags

-- the lags that lines tell
abbrev pub lags_after : Place → List (List ℕ) → List (ℕ × ℕ)
lags_after place [] = []
lags_after place (line ∷ lines) =
    option_to_list (new_lag place line)
    ++ lags_or (option_map (λ next. lags_after next lines) (next_place place line))

-- ---- where a head ends

-- the lines so far are of a head
abbrev pub is_in_head : Place → Bool
is_in_head Start = true
is_in_head (Network version) = true
is_in_head (Kind version events) = true
is_in_head (Own version events id count) = true
is_in_head (Lag version events least) = true
is_in_head (Question version) = false
is_in_head (Reply version) = false

-- a head ends there: nothing is left, or what is left begins as a line of a pair does
abbrev pub EndsTold : Place → List ℕ → Type 0
EndsTold place left =
    (may_end place ≡ true) × ((left ≡ []) ⊎ (is_of_pair left ≡ true))

-- no head ends before these bytes: it may not, or they do not begin as a line of a pair does
abbrev pub EndsNot : Place → List ℕ → Type 0
EndsNot place bytes =
    (is_in_head place ≡ true) × ((may_end place ≡ false) ⊎ (is_of_pair bytes ≡ false))

-- ---- line by line

-- what a line is behind the lines of a head, whatever stands behind its first byte: the end of the head, or no end of it
abbrev pub MatchesPart : Place → List ℕ → ℕ → Result Step AuditFault → Type 0
MatchesPart place line number (Ok (On next)) = ⊥
MatchesPart place line number (Ok Done) = (may_end place ≡ true) × (is_of_pair line ≡ true)
MatchesPart place line number (Err Memory) = ⊥
MatchesPart place line number (Err Read) = ⊥
MatchesPart place line number (Err (Line n)) =
    (n ≡ number) × ((may_end place ≡ false) ⊎ (is_of_pair line ≡ false))
MatchesPart place line number (Err (Wrong n)) = ⊥
MatchesPart place line number (Err Head) = ⊥

-- what a line is behind the lines of a head: one more of it, one that begins as that of a pair behind it, or no line of the format
abbrev pub MatchesAny : Place → List ℕ → ℕ → Result Step AuditFault → Type 0
MatchesAny place line number (Ok (On next)) =
    (next_place place line ≡ Some next) × (head_version next ≡ head_version place)
MatchesAny place line number (Ok Done) = MatchesPart place line number (Ok Done)
MatchesAny place line number (Err Memory) = ⊥
MatchesAny place line number (Err Read) = ⊥
MatchesAny place line number (Err (Line n)) =
    (next_place place line ≡ None) × MatchesPart place line number (Err (Line n))
MatchesAny place line number (Err (Wrong n)) = ⊥
MatchesAny place line number (Err Head) = ⊥

-- what is left breaks the format at once, and no head ends there
abbrev pub BreaksIn : Place → List ℕ → Type 0
BreaksIn place left = Breaks place left × EndsNot place left

-- part of a line was taken, as many bytes as may be, and no head ends before it
abbrev pub CutsIn : Place → Reading → Reading → Type 0
CutsIn place old new = (cut : IsCut old new) × EndsNot place cut.0.text

abbrev pub TurnsAny : Place → ℕ → Reading → Reading → Result Step AuditFault → Type 0
TurnsAny place number old new (Ok (On next)) =
    TakesOne old new new.line × (next_place place new.line ≡ Some next)
    × (head_version next ≡ head_version place)
TurnsAny place number old new (Ok Done) = IfSome old.rest (EndsTold place)
TurnsAny place number old new (Err Memory) = ⊥
TurnsAny place number old new (Err Read) = Unit {0}
TurnsAny place number old new (Err (Line n)) =
    (n ≡ number) × (IfSome old.rest (BreaksIn place) ⊎ CutsIn place old new)
TurnsAny place number old new (Err (Wrong n)) = ⊥
TurnsAny place number old new (Err Head) = ⊥

-- ---- a head

-- the bytes begin with a head of the format, which tells this, and which ends there, whatever follows
pub record IsHeadTold (bytes : List ℕ) (head : JournalHead) : Type 0 where
  pub first : List ℕ
  pub more : List (List ℕ)
  pub left : List ℕ
  pub place : Place
  pub reached : place_after Start (first ∷ more) ≡ Some place
  pub free : All Free (first ∷ more)
  pub short : All (λ line. length line ≤ longest_line) (first ∷ more)
  pub bytes_are : bytes ≡ text_of (first ∷ more) ++ left
  pub names : head_version place ≡ Some head.version
  pub ends : EndsTold place left
  pub version : version_of first ≡ Some head.version
  pub told : told_after (Network head.version) nothing_told more ≡ record {
    events = head.events;
    horizon = head.horizon;
    own = head.own;
  }
  pub lags : lags_after (Network head.version) more ≡ head.lags.items

abbrev pub TellsHead : Reading → Reading → Result JournalHead AuditFault → Type 0
TellsHead start after (Ok head) = IfSome start.rest (λ bytes. IsHeadTold bytes head)
TellsHead start after (Err Memory) = Unit {0}
TellsHead start after (Err Read) = Unit {0}
TellsHead start after (Err (Line n)) = BreaksLine start after n
TellsHead start after (Err (Wrong n)) = ⊥
TellsHead start after (Err Head) = ⊥

-- Line n of the bytes is wanted in a head, and breaks the format: no head ends at the line before, by what stands there, or by what was
-- taken of it where as many bytes were taken as may be
abbrev pub BreaksHead : Reading → Reading → ℕ → Type 0
BreaksHead start after n =
    IfSome start.rest (λ bytes. (broken : BreaksAt bytes n) × EndsNot broken.place broken.left)
    ⊎ ((cut : CutsAt start after n) × EndsNot cut.place cut.part)

-- no more than the head was judged: a line is told only as one of it
abbrev pub StaysInHead : Reading → Reading → AuditFault → Type 0
StaysInHead start after Memory = Unit {0}
StaysInHead start after Read = Unit {0}
StaysInHead start after (Line n) = BreaksHead start after n
StaysInHead start after (Wrong n) = ⊥
StaysInHead start after Head = ⊥
