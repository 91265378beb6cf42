-- What a journal is: the head of an executive, then for each line that has an answer a pair, whose commands with their answers are a
-- run of the machine. What breaks the format: no journal's lines go on so.
use Rattle.std.specs.Prelude.{◌≡◌, ◌≢◌, ℕ, zero, suc, ◌+◌, ◌≤◌, ◌<◌, ◌⊎◌, nat_eq, if◌then◌else◌, List, [], ◌∷◌, ◌++◌, length, map, Option, Some, None, MatchOption, ℤ, pos, negsuc, codes, decimal, flat_map}
use Rattle.std.specs.List.{All}
use Rattle.std.specs.Ordering.{nat_cmp}
use Rattle.std.specs.FinMap.{FinMap, get}
use Rattle.tp_bounds.specs.declared.Bound.{Bound}
use Rattle.tp_bounds.specs.declared.Point.{Point}
use Rattle.tp_bounds.specs.declared.Point.TheVariants.{Origin, Event}
use Rattle.tp_bounds.specs.Setting.{event_count}
use Rattle.tp_exec_machine.specs.declared.command.Kind.{Kind}
use Rattle.tp_exec_machine.specs.declared.command.Kind.TheVariants.{Bare, Kept, Altered}
use Rattle.tp_exec_machine.specs.declared.command.Command.{Command}
use Rattle.tp_exec_machine.specs.declared.command.Command.TheVariants.{Advance, Add, Withdraw, Window, Dispatch, Happened, Report}
use Rattle.tp_exec_machine.specs.declared.command.Answer.{Answer}
use Rattle.tp_exec_machine.specs.Machine.{Machine}
use Rattle.tp_exec_machine.specs.Step.{Step}
use Rattle.tp_script.specs.Transcript.{answer_text}
use Rattle.tp_script.specs.Written.{command_text, bound_text, IsSpelled}

-- ---- the head

-- What stands before the pairs. version: 1, or 2 with lags. events, horizon: of the network. own: the bounds that it began with, under
-- identifiers from 0, if it came from a plan. lags: events with their lags, those that are not 0, by rising event
pub record Head : Type 0 where
  pub version : ℕ
  pub events : ℕ
  pub horizon : ℕ
  pub own : Option (List Bound)
  pub lags : List (ℕ × ℕ)

-- the lines of own bounds, from an identifier on
abbrev pub own_lines : ℕ → List Bound → List (List ℕ)
own_lines id [] = []
own_lines id (b ∷ bs) = (codes "bound " ++ decimal id ++ codes " " ++ bound_text b)
    ∷ own_lines (suc id) bs

abbrev pub kind_lines : Option (List Bound) → List (List ℕ)
kind_lines None = codes "bare" ∷ []
kind_lines (Some bounds) = (codes "own " ++ decimal (length bounds)) ∷ own_lines 0 bounds

abbrev pub lag_line : ℕ × ℕ → List ℕ
lag_line p = codes "lag " ++ decimal p.0 ++ codes " " ++ decimal p.1

abbrev pub head_lines : Head → List (List ℕ)
head_lines h =
    (codes "journal " ++ decimal h.version) ∷
    (codes "network " ++ decimal h.events ++ codes " " ++ decimal h.horizon) ∷
    (kind_lines h.own ++ map lag_line h.lags)

-- each event is at or above the number, and they rise
abbrev pub AreLags : ℕ → ℕ → List (ℕ × ℕ) → Type 0
AreLags least events [] = Unit {0}
AreLags least events (p ∷ ps) =
    (least ≤ p.0) × (p.0 < events) × (0 < p.1) × (p.1 ≤ 1_000_000_000) × AreLags (p.0 + 1) events ps

-- the numbers of a point and of a weight are ones that words spell
abbrev pub IsWritablePoint : Point → Type 0
IsWritablePoint Origin = Unit {0}
IsWritablePoint (Event e) = e ≤ 65_535

abbrev pub IsWritableWeight : ℤ → Type 0
IsWritableWeight (pos n) = n < 10_000_000_000
IsWritableWeight (negsuc n) = n + 1 < 10_000_000_000

-- and so are those of a bound
abbrev pub IsWritable : Bound → Type 0
IsWritable b = IsWritablePoint b.from × IsWritablePoint b.to × IsWritableWeight b.w

-- a version of the format
abbrev pub IsVersion : ℕ → Type 0
IsVersion n = (n ≡ 1) ⊎ (n ≡ 2)

-- a head of the format; version 1 has no lags
pub record IsHead (h : Head) : Type 0 where
  pub version : IsVersion h.version
  pub events : h.events ≤ 1_024
  pub horizon : h.horizon ≤ 1_000_000_000
  pub own : MatchOption h.own (Unit {0}) (λ bounds. (length bounds ≤ 65_535)
      × All IsWritable bounds)
  pub lags : AreLags 0 h.events h.lags
  pub first_version : h.version ≡ 1 → h.lags ≡ []

-- a bound, if there is one, before others
abbrev pub before_bounds : Option Bound → List Bound → List Bound
before_bounds None bs = bs
before_bounds (Some b) bs = b ∷ bs

-- so many bounds, from an identifier on
abbrev pub bounds_from : FinMap nat_cmp Bound → ℕ → ℕ → List Bound
bounds_from held id zero = []
bounds_from held id (suc count) = before_bounds (get held id) (bounds_from held (suc id) count)

-- the bounds that a new executive of that kind begins with, if its network came from a plan
abbrev pub own_by : Kind → List Bound → Option (List Bound)
own_by Bare bounds = None
own_by Kept bounds = Some bounds
own_by Altered bounds = Some bounds

abbrev pub own_of : Machine → Option (List Bound)
own_of m = own_by m.kind (bounds_from m.setting.bounds 0 m.next)

-- the events with their lags, from a number on, without those of lag 0
abbrev pub lags_from : ℕ → List ℕ → List (ℕ × ℕ)
lags_from e [] = []
lags_from e (l ∷ ls) = if nat_eq l 0 then lags_from (e + 1) ls else (e, l) ∷ lags_from (e + 1) ls

abbrev pub lags_of : Machine → List (ℕ × ℕ)
lags_of m = lags_from 0 m.setting.lags

-- the head of an executive as it begins, in a journal of that version
abbrev pub head_of : ℕ → Machine → Head
head_of version m =
    record {
      version = version;
      events = event_count m.setting;
      horizon = m.setting.horizon;
      own = own_of m;
      lags = lags_of m;
    }

-- ---- the pairs

-- a line that was no command, or a command with its answer
abbrev pub Entry : Type 0
Entry = Option (Command × Answer)

abbrev pub question_line : Entry → List ℕ
question_line None = codes "> ?"
question_line (Some p) = codes "> " ++ command_text p.0

abbrev pub answer_line : Entry → List ℕ
answer_line None = codes "< refused line"
answer_line (Some p) = codes "< " ++ answer_text p.1

abbrev pub pair_lines : Entry → List (List ℕ)
pair_lines entry = question_line entry ∷ answer_line entry ∷ []

-- the commands of a version of the format: version 1 has no reports of events
abbrev pub Has : ℕ → Command → Type 0
Has version (Advance to) = Unit {0}
Has version (Add b) = Unit {0}
Has version (Withdraw id) = Unit {0}
Has version (Window e) = Unit {0}
Has version (Dispatch e) = Unit {0}
Has version (Happened e moment) = version ≡ 2
Has version Report = Unit {0}

-- the pairs whose first line is a command are a run of the machine, by commands of the version that some line spells
abbrev pub Runs : ℕ → Machine → List Entry → Machine → Type 0
Runs version old [] new = new ≡ old
Runs version old (None ∷ entries) new = Runs version old entries new
Runs version old (Some p ∷ entries) new =
    (mid : Machine) × IsSpelled p.0 × Has version p.0 × Step old p.0 p.1 mid
    × Runs version mid entries new

-- ---- a journal

-- the lines of a journal with these entries
abbrev pub journal_lines : ℕ → Machine → List Entry → List (List ℕ)
journal_lines version old entries = head_lines (head_of version old) ++ flat_map pair_lines entries

-- each line with its end
abbrev pub text_of : List (List ℕ) → List ℕ
text_of lines = flat_map (λ line. line ++ 10 ∷ []) lines

-- these are the lines of a journal of an executive that begins in that state, with so many pairs, and it comes to the other state
pub record IsJournal (version : ℕ) (old : Machine) (lines : List (List ℕ)) (pairs : ℕ)
    (new : Machine) : Type 0 where
  pub entries : List Entry
  pub head : IsHead (head_of version old)
  pub runs : Runs version old entries new
  pub count : length entries ≡ pairs
  pub free : All (λ line. All (λ b. b ≢ 10) line) lines
  pub bytes_are : text_of lines ≡ text_of (journal_lines version old entries)

-- no line of a journal has more bytes
abbrev pub longest_line : ℕ
longest_line = 16_384

-- the bytes are a journal of an executive that begins in that state, with so many pairs
abbrev pub IsJournalText : Machine → List ℕ → ℕ → Type 0
IsJournalText old bytes pairs =
    (version : ℕ) × (lines : List (List ℕ)) × (new : Machine)
    × IsJournal version old lines pairs new × (bytes ≡ text_of lines)
    × All (λ line. length line ≤ longest_line) lines
