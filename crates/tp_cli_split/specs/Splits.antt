-- The split of the network of the plan in a file among the agents in another.
use Rattle.std.specs.Prelude.{◌≡◌, ℕ, List, [], Option, Bool, true, false, Err, ◌⊎◌}
use Rattle.std.specs.Io.KnownBytes.{Appends}
use Rattle.tp_device.specs.Bytes.{AppendsPart}
use Rattle.tp_task.specs.declared.task.Task.{Task}
use Rattle.tp_happen.specs.tp_plan_text.declared.plans.Step.{Step}
use Rattle.tp_validate.specs.declared.verdicts.Verdict.{Verdict}
use Rattle.tp_validate.specs.declared.verdicts.Verdict.TheVariants.{Valid, Invalid}
use Rattle.tp_cli_files.specs.Causes.{raised}
use Rattle.tp_cli_files.specs.FaultLines.{Tells}
use Rattle.tp_cli_inputs.specs.Causes.{Explains}
use Rattle.tp_cli_inputs.specs.VerdictLines.{invalid_line}
use Rattle.tp_cli_inputs.specs.declared.plan_words.PlanWords.{PlanWords}
use Rattle.tp_cli_run.specs.Invalid.{SaysInvalid, SaysInvalidPart}
use Rattle.tp_cli_run.specs.Runs.{RunsNamed}
use Rattle.tp_cli_split.specs.Divides.{DividesPlan, StopsPlan}
use Rattle.tp_cli_split.specs.Stops.{split_failures, split_status, split_text, split_unread}
use Rattle.tp_cli_split.specs.declared.stops.SplitStop.{SplitStop}
use Rattle.tp_cli_split.specs.declared.stops.SplitStop.TheVariants.{Judging, Network, Setting, OwnersFile, Owner, Agent, TooMany, Memory, Conflict, Write}

-- the lines of the intervals of a valid plan's network were written, or those of one agent's part
abbrev pub WritesPlan : Option ℕ → Task → List Step → ℕ → Option (List ℕ) → Option (List ℕ) → Option (List ℕ)
    → Type 0
WritesPlan part task steps horizon owners_held before now =
    (text : List ℕ) × DividesPlan part task steps horizon owners_held text × Appends before now text

-- a first part of them was written
abbrev pub WritesSome : Option ℕ → Task → List Step → ℕ → Option (List ℕ) → Option (List ℕ) → Option (List ℕ)
    → Type 0
WritesSome part task steps horizon owners_held before now =
    (text : List ℕ) × DividesPlan part task steps horizon owners_held text × AppendsPart before now text

-- why they were not written, and what was written
abbrev pub StopsWriting : Option ℕ → Task → List Step → ℕ → Option (List ℕ) → Option (List ℕ)
    → Option (List ℕ) → SplitStop → Type 0
StopsWriting part task steps horizon owners_held before now (Judging fault) = ⊥
StopsWriting part task steps horizon owners_held before now (Network fault) =
    StopsPlan part task steps horizon owners_held (Network fault) × (now ≡ before)
StopsWriting part task steps horizon owners_held before now Setting = now ≡ before
StopsWriting part task steps horizon owners_held before now (OwnersFile fault) =
    StopsPlan part task steps horizon owners_held (OwnersFile fault) × (now ≡ before)
StopsWriting part task steps horizon owners_held before now (Owner e) =
    StopsPlan part task steps horizon owners_held (Owner e) × (now ≡ before)
StopsWriting part task steps horizon owners_held before now (Agent a) =
    StopsPlan part task steps horizon owners_held (Agent a) × (now ≡ before)
StopsWriting part task steps horizon owners_held before now TooMany =
    StopsPlan part task steps horizon owners_held TooMany × (now ≡ before)
StopsWriting part task steps horizon owners_held before now Memory = now ≡ before
StopsWriting part task steps horizon owners_held before now Conflict = ⊥
StopsWriting part task steps horizon owners_held before now Write =
    WritesSome part task steps horizon owners_held before now

-- the lines of a valid plan's intervals were written, or the first fault of another, and the answer is whether it is valid
abbrev pub TellsSplit : Option ℕ → Verdict → ℕ → Option (List ℕ) → Option (List ℕ) → Option (List ℕ) → Bool
    → Type 0
TellsSplit part (Valid plan) horizon owners_held before now valid =
    (valid ≡ true) × WritesPlan part plan.task plan.steps horizon owners_held before now
TellsSplit part (Invalid plan tick why) horizon owners_held before now valid =
    (valid ≡ false) × Appends before now (invalid_line tick why)

abbrev pub StopsTelling : Option ℕ → Verdict → ℕ → Option (List ℕ) → Option (List ℕ) → Option (List ℕ)
    → SplitStop → Type 0
StopsTelling part (Valid plan) horizon owners_held before now stop =
    StopsWriting part plan.task plan.steps horizon owners_held before now stop
StopsTelling part (Invalid plan tick why) horizon owners_held before now stop =
    (stop ≡ Write) × AppendsPart before now (invalid_line tick why)

-- the plan that the words name is valid, and the intervals into which its network is split among the agents in the file of that name
-- were written, or the part of one of them
abbrev pub WritesSplit : Option ℕ → (List ℕ → Option (List ℕ)) → PlanWords → List ℕ → Option (List ℕ)
    → Option (List ℕ) → Type 0
WritesSplit part held w owners before now =
    RunsNamed held w (λ task steps. WritesPlan part task steps w.horizon (held owners) before now)

-- they were written, or the first fault of a plan that is not valid
abbrev pub Splits : Option ℕ → (List ℕ → Option (List ℕ)) → PlanWords → List ℕ → Option (List ℕ)
    → Option (List ℕ) → Bool → Type 0
Splits part held w owners before now true = WritesSplit part held w owners before now
Splits part held w owners before now false = SaysInvalid held w before now

-- why nothing was written, or not all
abbrev pub StopsSplit : Option ℕ → (List ℕ → Option (List ℕ)) → PlanWords → List ℕ → Option (List ℕ)
    → Option (List ℕ) → SplitStop → Type 0
StopsSplit part held w owners before now (Judging fault) = Explains held w fault × (now ≡ before)
StopsSplit part held w owners before now (Network fault) =
    RunsNamed held w (λ task steps. StopsPlan part task steps w.horizon (held owners) (Network fault))
    × (now ≡ before)
StopsSplit part held w owners before now Setting = now ≡ before
StopsSplit part held w owners before now (OwnersFile fault) =
    RunsNamed held w (λ task steps.
    StopsPlan part task steps w.horizon (held owners) (OwnersFile fault)) × (now ≡ before)
StopsSplit part held w owners before now (Owner e) =
    RunsNamed held w (λ task steps. StopsPlan part task steps w.horizon (held owners) (Owner e))
    × (now ≡ before)
StopsSplit part held w owners before now (Agent a) =
    RunsNamed held w (λ task steps. StopsPlan part task steps w.horizon (held owners) (Agent a))
    × (now ≡ before)
StopsSplit part held w owners before now TooMany =
    RunsNamed held w (λ task steps. StopsPlan part task steps w.horizon (held owners) TooMany)
    × (now ≡ before)
StopsSplit part held w owners before now Memory = now ≡ before
StopsSplit part held w owners before now Conflict = ⊥
StopsSplit part held w owners before now Write =
    SaysInvalidPart held w before now
    ⊎ RunsNamed held w (λ task steps. WritesSome part task steps w.horizon (held owners) before now)

-- nothing was written, or a first part of what is written of the plan that the words name
abbrev pub SplitsPart : Option ℕ → (List ℕ → Option (List ℕ)) → PlanWords → List ℕ → Option (List ℕ)
    → Option (List ℕ) → Type 0
SplitsPart part held w owners before now =
    Appends before now [] ⊎ (SaysInvalidPart held w before now
    ⊎ RunsNamed held w (λ task steps. WritesSome part task steps w.horizon (held owners) before now))

-- It stopped so with that status, and that was told. A file that can't be read and a failed write are ones that the counts of failures tell
-- of.
pub record EndsSplit (part : Option ℕ) (held : List ℕ → Option (List ℕ)) (w : PlanWords) (owners : List ℕ)
    (status : ℕ) (before now : Option (List ℕ)) (unread unread-now : ℕ) (output output-now : ℕ)
    (failures : ℕ)
    (said : Option (List ℕ)) (failures-now : ℕ) (said-now : Option (List ℕ)) : Type 0 where
  pub stop : SplitStop
  pub is : split_status stop ≡ status
  pub cause : StopsSplit part held w owners before now stop
  pub opened : unread-now ≡ raised (split_unread stop) unread
  pub write : output-now ≡ split_failures {T = Unit {0}} output (Err stop)
  pub told : Tells (split_text w owners stop) failures said failures-now said-now
