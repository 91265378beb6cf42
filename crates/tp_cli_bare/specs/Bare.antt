-- What is written for a network and its commands.
use Rattle.std.specs.Prelude.{◌≡◌, ℕ, ◌+◌, ◌≤◌, ◌<◌, List, [], ◌∷◌, ◌++◌, length, Option, Some, None, Result, Ok, Err, ◌⊎◌}
use Rattle.std.specs.Io.KnownBytes.{Appends}
use Rattle.tp_device.specs.Bytes.{AppendsPart}
use Rattle.tp_bounds.specs.RunLimits.{greatest_limits}
use Rattle.tp_bounds.specs.Setting.{Setting}
use Rattle.tp_net.specs.NewNet.{new_setting}
use Rattle.tp_script.specs.Machine.{Machine, new_machine}
use Rattle.tp_script.specs.Transcript.{lines_of, Transcript}
use Rattle.tp_script.specs.Pending.{Reading}
use Rattle.tp_script.specs.Reading.{Free}
use Rattle.tp_script.specs.Lags.{lag_spelled, MaySet, SetsLags, ReadsLags}
use Rattle.tp_script.specs.Serving.{Serves, ServesAll, head_of}
use Rattle.tp_script.specs.declared.serving.Served.{Served}
use Rattle.tp_script.specs.declared.serving.ServeFault.{ServeFault}
use Rattle.tp_script.specs.declared.serving.ServeFault.TheVariants as serving
use Rattle.tp_cli_files.specs.FaultLines.{Tells}
use Rattle.tp_cli_bare.specs.ServeLines.{bare_status, bare_text}
use Rattle.tp_cli_bare.specs.declared.bare.BareFault.{BareFault}
use Rattle.tp_cli_bare.specs.declared.bare.BareFault.TheVariants.{Network, Serving}

-- the network of a head: so many events up to a horizon, and nothing else
abbrev pub first_setting : ℕ × ℕ → Setting
first_setting head = new_setting head.0 head.1

-- the machine in which a run begins: a new network but for lags, under the greatest limits
abbrev pub first_machine : ℕ × ℕ → Setting → Machine
first_machine head setting = new_machine setting (greatest_limits head.1)

-- The lines of lags were all taken: the first of the lines behind them, if there is one, is none,
-- unless the bytes are more than are taken at most.
abbrev pub EndLags : List ℕ → List (List ℕ) → Type 0
EndLags bytes lines =
    (line : List ℕ) (rest : List (List ℕ)) → lines ≡ line ∷ rest → (lag_spelled line ≡ None)
    ⊎ (4_294_967_296 < length bytes)

-- the first line is the head, lines of lags follow, and the transcript of all other lines was
-- written
pub record AnswersHead (bytes : List ℕ) (held now : Option (List ℕ)) : Type 0 where
  pub head : ℕ × ℕ
  pub setting : Setting
  pub line : List ℕ
  pub lags : List (List ℕ)
  pub lines : List (List ℕ)
  pub text : List ℕ
  pub last : Machine
  pub read : lines_of bytes ≡ line ∷ (lags ++ lines)
  pub short : length line ≤ 256
  pub spelled : head_of line ≡ Some head
  pub set : SetsLags (first_setting head) lags setting
  pub end : EndLags bytes lines
  pub ran : Transcript (first_machine head setting) lines text last
  pub written : Appends held now text

-- the same, where the reader tells its bytes
abbrev pub AnswersAll : Option (List ℕ) → Option (List ℕ) → Option (List ℕ) → Type 0
AnswersAll None held now = Unit {0}
AnswersAll (Some bytes) held now = AnswersHead bytes held now

-- the first line is the head, lines of lags follow, and some first part of the transcript of some
-- first lines behind them was written
pub record AnswersSome (bytes : List ℕ) (held now : Option (List ℕ)) : Type 0 where
  pub head : ℕ × ℕ
  pub setting : Setting
  pub line : List ℕ
  pub lags : List (List ℕ)
  pub lines : List (List ℕ)
  pub rest : List (List ℕ)
  pub text : List ℕ
  pub last : Machine
  pub read : lines_of bytes ≡ line ∷ (lags ++ (lines ++ rest))
  pub short : length line ≤ 256
  pub spelled : head_of line ≡ Some head
  pub set : SetsLags (first_setting head) lags setting
  pub end : EndLags bytes (lines ++ rest)
  pub ran : Transcript (first_machine head setting) lines text last
  pub written : AppendsPart held now text

-- nothing was written, or some first part of the answers
abbrev pub AnswersPart : Option (List ℕ) → Option (List ℕ) → Option (List ℕ) → Type 0
AnswersPart None held now = Unit {0}
AnswersPart (Some bytes) held now = Appends held now [] ⊎ AnswersSome bytes held now

-- the first line is the head, lines of lags follow, and the transcript of the lines behind them was
-- written whole, up to what is left
pub record AnswersLinesTo (bytes left : List ℕ) (held now : Option (List ℕ)) : Type 0 where
  pub head : ℕ × ℕ
  pub setting : Setting
  pub line : List ℕ
  pub lags : List (List ℕ)
  pub lines : List (List ℕ)
  pub text : List ℕ
  pub last : Machine
  pub read : lines_of bytes ≡ line ∷ (lags ++ (lines ++ lines_of left))
  pub short : length line ≤ 256
  pub spelled : head_of line ≡ Some head
  pub set : SetsLags (first_setting head) lags setting
  pub end : EndLags bytes (lines ++ lines_of left)
  pub ran : Transcript (first_machine head setting) lines text last
  pub written : Appends held now text

-- nothing was written, or the answers to the lines up to some place, each whole
abbrev pub AnswersRead : List ℕ → Option (List ℕ) → Option (List ℕ) → Type 0
AnswersRead bytes held now =
    Appends held now [] ⊎ ((left : List ℕ) × AnswersLinesTo bytes left held now)

-- As many bytes were read as are taken at most, and there are more. The answers to all lines among
-- them that are whole were written: what is left begins with a part of a line, up to where the
-- reading stopped. Or these bytes are a part of the first line, and nothing was written.
abbrev pub AnswersMost : List ℕ → Option (List ℕ) → Option (List ℕ) → Type 0
AnswersMost bytes held now =
    ((part more : List ℕ) × (bytes ≡ part ++ more) × Free part × (length part ≡ 4_294_967_296)
    × (0 < length more) × Appends held now []) ⊎ ((left part more : List ℕ) × (left ≡ part ++ more)
    × Free part × (length bytes ≡ 4_294_967_296 + length more) × (0 < length more)
    × AnswersLinesTo bytes left held now)

abbrev pub bare_result : Result Served ServeFault → Result Served BareFault
bare_result (Ok served) = Ok served
bare_result (Err fault) = Err (Serving fault)

-- the lines of lags behind the head were taken, and this is the network then
pub record TakesAllLags (head : ℕ × ℕ) (before after : Reading) (setting : Setting) : Type 0 where
  pub lags : ReadsLags before after (first_setting head) setting (Ok tt)
  pub most : after.most ≡ before.most

-- what came of the lines of lags behind a head: the machine in which the run begins, or one of them
-- was at fault or not read, or there was no memory for the network
abbrev pub BeginsLines : ℕ × ℕ → Reading → Reading → Result Machine BareFault → Type 0
BeginsLines head before after (Ok m) =
    (setting : Setting) × TakesAllLags head before after setting
    × (m ≡ first_machine head setting)
BeginsLines head before after (Err (Serving fault)) =
    (setting : Setting) × ReadsLags before after (first_setting head) setting (Err fault)
BeginsLines head before after (Err Network) = Unit {0}

-- what came of the commands behind the lags: the lines were answered, or not all of them
abbrev pub AnswersLines : ℕ × ℕ → Reading → Reading → Option (List ℕ) → Option (List ℕ)
    → Result Served BareFault → Type 0
AnswersLines head before after held now (Ok served) =
    (setting : Setting) × (mid : Reading) × (last : Machine)
    × TakesAllLags head before mid setting
    × Serves (first_machine head setting) last mid after held now (Ok served)
    × ServesAll (first_machine head setting) last mid.rest held now
AnswersLines head before after held now (Err (Serving fault)) =
    ((setting : Setting) × ReadsLags before after (first_setting head) setting (Err fault)
    × (now ≡ held)) ⊎ ((setting : Setting) × (mid : Reading) × (last : Machine)
    × TakesAllLags head before mid setting
    × Serves (first_machine head setting) last mid after held now (Err fault))
AnswersLines head before after held now (Err Network) = now ≡ held

-- there is no first line, or it is too long for a head, or none
abbrev pub HasNoHead : List (List ℕ) → Type 0
HasNoHead [] = Unit {0}
HasNoHead (line ∷ lines) = (256 < length line) ⊎ (head_of line ≡ None)

-- behind the head and perhaps some lags stands the line of a lag that does not fit: it names no
-- event, one that has a lag already, or a lag out of range
pub record HasBadLag (all : List (List ℕ)) : Type 0 where
  pub head : ℕ × ℕ
  pub setting : Setting
  pub line : List ℕ
  pub lags : List (List ℕ)
  pub bad : List ℕ
  pub lag : ℕ × ℕ
  pub rest : List (List ℕ)
  pub read : all ≡ line ∷ (lags ++ bad ∷ rest)
  pub short : length line ≤ 256
  pub spelled : head_of line ≡ Some head
  pub set : SetsLags (first_setting head) lags setting
  pub names : lag_spelled bad ≡ Some lag
  pub unfit : ¬ MaySet setting lag

-- the input is refused: it has no head, or a lag that does not fit, or more than 2^32 bytes
abbrev pub IsRefused : Option (List ℕ) → Type 0
IsRefused None = Unit {0}
IsRefused (Some bytes) =
    HasNoHead (lines_of bytes) ⊎ (HasBadLag (lines_of bytes) ⊎ (4_294_967_296 < length bytes))

-- what a fault tells of the input and of what was written
abbrev pub BareStopsAt : List ℕ → Option (List ℕ) → Option (List ℕ) → BareFault → Type 0
BareStopsAt bytes held now Network = Appends held now []
BareStopsAt bytes held now (Serving serving.Read) = AnswersRead bytes held now
BareStopsAt bytes held now (Serving serving.Write) = AnswersPart (Some bytes) held now
BareStopsAt bytes held now (Serving serving.Memory) = Appends held now []
BareStopsAt bytes held now (Serving serving.TooLong) = AnswersMost bytes held now
BareStopsAt bytes held now (Serving serving.Head) =
    (HasNoHead (lines_of bytes) ⊎ HasBadLag (lines_of bytes)) × Appends held now []

-- the same, where the reader tells its bytes
abbrev pub BareStops : Option (List ℕ) → Option (List ℕ) → Option (List ℕ) → BareFault → Type 0
BareStops None held now fault = Unit {0}
BareStops (Some bytes) held now fault = BareStopsAt bytes held now fault

-- a write that failed is counted
abbrev pub bare_failures : {T : Type 0} → ℕ → Result T BareFault → ℕ
bare_failures n (Ok x) = n
bare_failures n (Err Network) = n
bare_failures n (Err (Serving serving.Write)) = n + 1
bare_failures n (Err (Serving serving.Read)) = n
bare_failures n (Err (Serving serving.Memory)) = n
bare_failures n (Err (Serving serving.TooLong)) = n
bare_failures n (Err (Serving serving.Head)) = n

-- a read that failed is counted
abbrev pub bare_read_failures : {T : Type 0} → ℕ → Result T BareFault → ℕ
bare_read_failures n (Ok x) = n
bare_read_failures n (Err Network) = n
bare_read_failures n (Err (Serving serving.Read)) = n + 1
bare_read_failures n (Err (Serving serving.Write)) = n
bare_read_failures n (Err (Serving serving.Memory)) = n
bare_read_failures n (Err (Serving serving.TooLong)) = n
bare_read_failures n (Err (Serving serving.Head)) = n

-- The fault that ended it with that status was told, and it is as it tells. A failed read and a
-- failed write are ones that the counts of failures tell of.
pub record StopsBare (status : ℕ) (input : Option (List ℕ)) (reads reads-now : ℕ)
    (held held-now : Option (List ℕ)) (output output-now : ℕ) (failures : ℕ)
    (before : Option (List ℕ)) (failures-now : ℕ) (now : Option (List ℕ)) : Type 0 where
  pub fault : BareFault
  pub is : bare_status fault ≡ status
  pub cause : BareStops input held held-now fault
  pub read : reads-now ≡ bare_read_failures {T = Unit {0}} reads (Err fault)
  pub write : output-now ≡ bare_failures {T = Unit {0}} output (Err fault)
  pub told : Tells (bare_text fault) failures before failures-now now
