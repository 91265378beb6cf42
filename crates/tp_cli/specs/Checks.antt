-- The judging of the plan in a file.
use Rattle.std.specs.Prelude.{◌≡◌, ℕ, List, [], Option, Bool, true, false, ◌⊎◌, codes}
use Rattle.std.specs.Io.KnownBytes.{Appends}
use Rattle.tp_device.specs.Bytes.{AppendsPart}
use Rattle.tp_task.specs.declared.task.Task.{Task}
use Rattle.tp_happen.specs.tp_plan_text.declared.plans.Step.{Step}
use Rattle.tp_validate.specs.Answers.{IsFirst}
use Rattle.tp_validate.specs.OfTask.{IsValidPlan}
use Rattle.tp_validate.specs.declared.ticks.Fault.{Fault}
use Rattle.tp_cli.specs.Judgements.{judgement_line}
use Rattle.tp_cli.specs.declared.judgements.Judgement.{Judgement}
use Rattle.tp_cli.specs.declared.judgements.Judgement.TheVariants.{Valid, Invalid}
use Rattle.tp_cli_inputs.specs.Named.{IsNamedPlan}
use Rattle.tp_cli_inputs.specs.VerdictLines.{invalid_line}
use Rattle.tp_cli_inputs.specs.declared.plan_words.PlanWords.{PlanWords}
use Rattle.tp_cli_run.specs.Invalid.{SaysInvalid}
use Rattle.tp_cli.specs.Stops.{EndsPlan, StopsOn}
use Rattle.tp_cli.specs.declared.stops.PlanStop.{PlanStop}
use Rattle.tp_cli.specs.declared.stops.PlanStop.TheVariants.{Write}

abbrev pub is_valid : Judgement → Bool
is_valid Valid = true
is_valid (Invalid tick why) = false

-- the line of a judgement was written, and the answer is whether the plan is valid
abbrev pub TellsJudgement : Judgement → Option (List ℕ) → Option (List ℕ) → Bool → Type 0
TellsJudgement judgement before now valid =
    (valid ≡ is_valid judgement) × Appends before now (judgement_line judgement)

-- the line of a judgement was not written whole
abbrev pub StopsLine : Judgement → Option (List ℕ) → Option (List ℕ) → PlanStop → Type 0
StopsLine judgement before now stop =
    (stop ≡ Write) × AppendsPart before now (judgement_line judgement)

-- the line of the verdict on the steps of a plan: that it is valid, or its first fault
abbrev pub IsVerdictLine : Task → List Step → List ℕ → Type 0
IsVerdictLine task steps line =
    (IsValidPlan task steps × (line ≡ codes "valid\n"))
    ⊎ ((tick : ℕ) × (why : Fault) × IsFirst task steps tick why × (¬ IsValidPlan task steps)
    × (line ≡ invalid_line tick why))

-- nothing was written, or a first part of the line of the verdict on the plan that the words name
abbrev pub SaysPart : (List ℕ → Option (List ℕ)) → PlanWords → Option (List ℕ) → Option (List ℕ)
    → Type 0
SaysPart held w before now =
    Appends before now [] ⊎ ((task : Task) × (steps : List Step) × (line : List ℕ)
    × IsNamedPlan held w task steps × IsVerdictLine task steps line × AppendsPart before now line)

-- the plan is valid, and that was written
pub record SaysValid (held : List ℕ → Option (List ℕ)) (w : PlanWords)
    (before now : Option (List ℕ)) : Type 0 where
  pub task : Task
  pub steps : List Step
  pub named : IsNamedPlan held w task steps
  pub valid : IsValidPlan task steps
  pub written : Appends before now (codes "valid\n")

abbrev pub Says : (List ℕ → Option (List ℕ)) → PlanWords → Option (List ℕ) → Option (List ℕ) → Bool
    → Type 0
Says held w before now true = SaysValid held w before now
Says held w before now false = SaysInvalid held w before now

-- why no verdict was written
abbrev pub StopsCheck : (List ℕ → Option (List ℕ)) → PlanWords → Option (List ℕ) → Option (List ℕ)
    → PlanStop → Type 0
StopsCheck held w before now stop = StopsOn IsVerdictLine (λ _ _ _. ⊥) held w before now stop

abbrev pub EndsCheck : (List ℕ → Option (List ℕ)) → PlanWords → ℕ → Option (List ℕ)
    → Option (List ℕ) → ℕ → ℕ → ℕ → ℕ → ℕ → Option (List ℕ) → ℕ → Option (List ℕ) → Type 0
EndsCheck held w status before now unread unread-now output output-now failures said failures-now
    said-now = EndsPlan IsVerdictLine (λ _ _ _. ⊥) held w status before now unread unread-now
    output output-now failures said failures-now said-now
