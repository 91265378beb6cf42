-- Lines of lags, which stand behind the head, and what they do to a setting.
use Rattle.std.specs.Prelude.{◌≡◌, ℕ, ◌+◌, ◌-◌, ◌≤◌, ◌<◌, ◌⊎◌, List, [], ◌∷◌, ◌++◌, length, min, take, Option, Some, None, Result, Ok, Err, nat_lt, if◌then◌else◌, codes, slice_index}
use Rattle.std.specs.Str.{bytes_eq}
use Rattle.std.specs.Io.KnownBytes.{Keeps, Consumes, IsAtEnd}
use Rattle.tp_device.specs.declared.Failed.{Failed}
use Rattle.tp_bounds.specs.Setting.{Setting, event_count, lag_of}
use Rattle.tp_bounds.specs.Changes.{with_lag}
use Rattle.tp_script.specs.Words.{words_of}
use Rattle.tp_script.specs.Commands.{pair_spelled}
use Rattle.tp_script.specs.Transcript.{lines_of}
use Rattle.tp_script.specs.Pending.{Pending, Reading}
use Rattle.tp_script.specs.Reading.{TakesWhole}
use Rattle.tp_script.specs.Serving.{TakesLines}
use Rattle.tp_script.specs.declared.serving.ServeFault.{ServeFault}
use Rattle.tp_script.specs.declared.serving.ServeFault.TheVariants.{Read, Write, Memory, TooLong, Head}

abbrev pub lag_from : List (List ℕ) → Option (ℕ × ℕ)
lag_from [] = None
lag_from (name ∷ ws) = if bytes_eq name (codes "lag") then pair_spelled ws else None

-- the event and the lag that a line spells, if it does
abbrev pub lag_spelled : List ℕ → Option (ℕ × ℕ)
lag_spelled line = if nat_lt 256 (length line) then None else lag_from (words_of line)

-- there is the event, its lag is 0 so far, and the new one is in range
pub record MaySet (s : Setting) (lag : ℕ × ℕ) : Type 0 where
  pub event : lag.0 < event_count s
  pub unset : lag_of s lag.0 ≡ 0
  pub range : lag.1 ≤ 1_000_000_000

-- the lags of these lines are set, one after another
abbrev pub SetsLags : Setting → List (List ℕ) → Setting → Type 0
SetsLags old [] new = new ≡ old
SetsLags old (line ∷ lines) new =
    (lag : ℕ × ℕ)
    × (lag_spelled line ≡ Some lag)
    × MaySet old lag
    × SetsLags (with_lag old lag.0 lag.1) lines new

-- what is left, where it is known, does not begin with the line of a lag, or with one of more bytes
-- than may be taken, with its LF if it has one
abbrev pub NoLagNext : Option (List ℕ) → ℕ → Type 0
NoLagNext None may = Unit {0}
NoLagNext (Some bytes) may =
    (line : List ℕ) (rest : List (List ℕ))
    → lines_of bytes ≡ line ∷ rest → (lag_spelled line ≡ None)
    ⊎ (may < min (length bytes) (length line + 1))

-- the line of a lag is taken, or nothing is
abbrev pub TakesLag : Reading → Reading → Result (Option (ℕ × ℕ)) Failed → Type 0
TakesLag old new (Ok (Some lag)) =
    (line : List ℕ) × TakesWhole old new line × (lag_spelled line ≡ Some lag)
TakesLag old new (Ok None) =
    Keeps old.rest new.rest × (new.taken ≡ old.taken) × NoLagNext new.rest (new.most - new.taken)
TakesLag old new (Err e) = Keeps old.rest new.rest × (new.taken ≡ old.taken)

-- these lines of lags were taken, and the lags set
pub record TakesLags (old new : Reading) (s t : Setting) (lines : List (List ℕ)) : Type 0 where
  pub read : TakesLines old.rest new.rest lines
  pub counted : new.taken ≡ old.taken + length read.text
  pub set : SetsLags s lines t

-- All lines of lags were taken and the lags set. Or the reader failed behind some of them; or
-- behind some of them stood one that names no event, an event that has a lag already, or a lag out
-- of range, and was taken too
abbrev pub ReadsLags :
    Reading → Reading → Setting → Setting → Result (Unit {0}) ServeFault → Type 0
ReadsLags old new s t (Ok x) =
    (lines : List (List ℕ))
    × TakesLags old new s t lines
    × NoLagNext new.rest (new.most - new.taken)
ReadsLags old new s t (Err Read) = (lines : List (List ℕ)) × TakesLags old new s t lines
ReadsLags old new s t (Err Head) =
    (lines : List (List ℕ))
    × (mid : Reading)
    × (line : List ℕ)
    × (lag : ℕ × ℕ)
    × TakesLags old mid s t lines
    × TakesWhole mid new line
    × (lag_spelled line ≡ Some lag)
    × ¬ MaySet t lag
ReadsLags old new s t (Err Write) = ⊥
ReadsLags old new s t (Err Memory) = ⊥
ReadsLags old new s t (Err TooLong) = ⊥

-- ---- bytes that are at hand

-- more bytes came behind those that were at hand
pub record Grows (old new : Pending) (count : ℕ) : Type 0 where
  pub more : length new.ready ≡ length old.ready + count
  pub end : count ≡ 0 → length old.ready ≤ 256 → IsAtEnd new.left

-- a source gives bytes behind the first ones, none only at its end or where there is no room
abbrev pub PullsBehind :
    Option (List ℕ) → Option (List ℕ) → List ℕ → List ℕ → ℕ → Result ℕ Failed → Type 0
PullsBehind old new before after end (Ok n) =
    (more : List ℕ)
    × (take (end + n) after ≡ take end before ++ more)
    × (length more ≡ n)
    × (end + n ≤ length after)
    × Consumes old new more
    × (n ≡ 0 → end < length before → IsAtEnd new)
PullsBehind old new before after end (Err e) = (take end after ≡ take end before) × Keeps old new

-- a line's end is at hand, or more bytes than the line of a lag has, or all that is left
abbrev pub IsInSight : Pending → Type 0
IsInSight p =
    ((k : ℕ) × (k < length p.ready) × (slice_index p.ready k ≡ 10))
    ⊎ ((256 < length p.ready) ⊎ IsAtEnd p.left)
