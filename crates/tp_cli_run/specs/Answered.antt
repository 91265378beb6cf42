-- What is written for the commands on the network of a plan.
use Rattle.std.specs.Prelude.{◌≡◌, ℕ, ◌+◌, ◌<◌, List, [], ◌∷◌, ◌++◌, length, Option, Some, None, ◌⊎◌}
use Rattle.std.specs.Io.KnownBytes.{Appends}
use Rattle.tp_device.specs.Bytes.{AppendsPart}
use Rattle.tp_bounds.specs.Setting.{Setting}
use Rattle.tp_bounds.specs.declared.plan_nets.PlanNet.{PlanNet}
use Rattle.tp_exec_machine.specs.Machine.{Machine}
use Rattle.tp_script.specs.Transcript.{lines_of, Transcript}
use Rattle.tp_script.specs.Reading.{Free}
use Rattle.tp_script.specs.Lags.{lag_spelled, MaySet, SetsLags}
use Rattle.tp_script.specs.declared.serving.ServeFault.TheVariants as serving
use Rattle.tp_cli_bare.specs.Bare.{EndLags, first_setting}
use Rattle.tp_cli_bare.specs.declared.bare.BareFault.{BareFault}
use Rattle.tp_cli_bare.specs.declared.bare.BareFault.TheVariants.{Network, Serving}
use Rattle.tp_cli_run.specs.Starts.{net_head, run_machine}

-- the lines of the input, where the reader tells it
abbrev pub AreLines : Option (List ℕ) → List (List ℕ) → Type 0
AreLines None lines = Unit {0}
AreLines (Some bytes) lines = lines_of bytes ≡ lines

-- the lines of lags before these were all taken, where the reader tells its bytes
abbrev pub AreBehindLags : Option (List ℕ) → List (List ℕ) → Type 0
AreBehindLags None lines = Unit {0}
AreBehindLags (Some bytes) lines = EndLags bytes lines

-- Lines of lags come first. The lines behind them, but for the rest, are answered by this text, and the machine of the plan's network has
-- come to this.
pub record Answered (net : PlanNet) (input : Option (List ℕ)) (rest : List (List ℕ)) (text : List ℕ)
    (last : Machine) : Type 0 where
  pub setting : Setting
  pub lags : List (List ℕ)
  pub lines : List (List ℕ)
  pub read : AreLines input (lags ++ (lines ++ rest))
  pub set : SetsLags (first_setting (net_head net)) lags setting
  pub end : AreBehindLags input (lines ++ rest)
  pub ran : Transcript (run_machine net setting) lines text last

-- all lines were answered
abbrev pub AnswersWhole : PlanNet → Option (List ℕ) → Option (List ℕ) → Option (List ℕ) → Machine
    → Type 0
AnswersWhole net input held now last =
    (text : List ℕ) × Answered net input [] text last × Appends held now text

-- nothing was written, or the answers to some first lines, each whole
abbrev pub AnswersSome : PlanNet → Option (List ℕ) → Option (List ℕ) → Option (List ℕ) → Type 0
AnswersSome net input held now =
    Appends held now [] ⊎ ((rest : List (List ℕ)) × (text : List ℕ) × (last : Machine)
    × Answered net input rest text last × Appends held now text)

-- a first part of the answers to some first lines was written
abbrev pub AnswersPart : PlanNet → Option (List ℕ) → Option (List ℕ) → Option (List ℕ) → Type 0
AnswersPart net input held now =
    (rest : List (List ℕ)) × (text : List ℕ) × (last : Machine) × Answered net input rest text last
    × AppendsPart held now text

-- As many bytes were read as are taken at most, and there are more. What is left begins with a part of a line, up to where the reading
-- stopped.
abbrev pub IsTooLong : Option (List ℕ) → List (List ℕ) → Type 0
IsTooLong None rest = Unit {0}
IsTooLong (Some bytes) rest =
    (part more : List ℕ) × (rest ≡ lines_of (part ++ more)) × Free part
    × (length bytes ≡ 4_294_967_296 + length more) × (0 < length more)

-- the input is longer than is taken
abbrev pub IsLong : Option (List ℕ) → Type 0
IsLong None = Unit {0}
IsLong (Some bytes) = 4_294_967_296 < length bytes

-- Of an input that is too long the answers to all lines that are whole were written.
abbrev pub AnswersMost : PlanNet → Option (List ℕ) → Option (List ℕ) → Option (List ℕ) → Type 0
AnswersMost net input held now =
    (rest : List (List ℕ)) × (text : List ℕ) × (last : Machine) × IsTooLong input rest
    × Answered net input rest text last × Appends held now text

-- Behind perhaps some lags stands the line of a lag that does not fit: it names no event, one that has a lag already, or a lag out of range.
pub record HasUnfitLag (net : PlanNet) (input : Option (List ℕ)) : Type 0 where
  pub setting : Setting
  pub lags : List (List ℕ)
  pub bad : List ℕ
  pub lag : ℕ × ℕ
  pub rest : List (List ℕ)
  pub read : AreLines input (lags ++ bad ∷ rest)
  pub set : SetsLags (first_setting (net_head net)) lags setting
  pub names : lag_spelled bad ≡ Some lag
  pub unfit : ¬ MaySet setting lag

-- What a fault tells of the input and of what was written. Where memory is wanting, nothing was written; or all answers, and there was none
-- for the plan of the run.
abbrev pub StopsAnswers : PlanNet → Option (List ℕ) → Option (List ℕ) → Option (List ℕ) → BareFault
    → Type 0
StopsAnswers net input held now Network =
    (now ≡ held) ⊎ ((last : Machine) × AnswersWhole net input held now last)
StopsAnswers net input held now (Serving serving.Read) = AnswersSome net input held now
StopsAnswers net input held now (Serving serving.Write) = AnswersPart net input held now
StopsAnswers net input held now (Serving serving.Memory) = now ≡ held
StopsAnswers net input held now (Serving serving.TooLong) = AnswersMost net input held now
StopsAnswers net input held now (Serving serving.Head) = HasUnfitLag net input × (now ≡ held)
