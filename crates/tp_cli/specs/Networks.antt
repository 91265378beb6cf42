-- The network of the plan in a file.
use Rattle.std.specs.Prelude.{◌≡◌, ℕ, List, [], Option, Bool, true, false, ◌⊎◌}
use Rattle.std.specs.Io.KnownBytes.{Appends}
use Rattle.tp_device.specs.Bytes.{AppendsPart}
use Rattle.tp_bounds.specs.RunLimits.{RunLimits, greatest_limits}
use Rattle.tp_bounds.specs.declared.plan_nets.PlanNet.{PlanNet}
use Rattle.tp_task.specs.declared.task.Task.{Task}
use Rattle.tp_happen.specs.tp_plan_text.declared.plans.Step.{Step}
use Rattle.tp_validate.specs.Answers.{IsFirst}
use Rattle.tp_validate.specs.OfTask.{IsValidPlan}
use Rattle.tp_validate.specs.declared.ticks.Fault.{Fault}
use Rattle.tp_validate.specs.declared.verdicts.Verdict.{Verdict}
use Rattle.tp_validate.specs.declared.verdicts.Verdict.TheVariants.{Valid, Invalid}
use Rattle.tp_deorder.specs.Answers.{IsPlanNetOf, OnTooMany, PassesLimits}
use Rattle.tp_deorder.specs.declared.DeorderFault.{DeorderFault}
use Rattle.tp_script.specs.NetLines.{network_lines}
use Rattle.tp_cli_inputs.specs.Named.{IsNamedPlan}
use Rattle.tp_cli_inputs.specs.VerdictLines.{invalid_line}
use Rattle.tp_cli_inputs.specs.declared.plan_words.PlanWords.{PlanWords}
use Rattle.tp_cli_run.specs.Invalid.{SaysInvalid}
use Rattle.tp_cli.specs.Stops.{EndsPlan, StopsOn}
use Rattle.tp_cli.specs.declared.stops.PlanStop.{PlanStop}
use Rattle.tp_cli.specs.declared.stops.PlanStop.TheVariants.{Judging, Network, Write}

-- the text is the lines of the network of a plan, within limits
abbrev pub TellsNetwork : Task → List Step → RunLimits → List ℕ → Type 0
TellsNetwork task steps limits text =
    (net : PlanNet) × IsPlanNetOf task steps limits net × (text ≡ network_lines net)

-- those lines were written
abbrev pub WritesNetwork : Task → List Step → RunLimits → Option (List ℕ) → Option (List ℕ) → Type 0
WritesNetwork task steps limits before now =
    (net : PlanNet) × IsPlanNetOf task steps limits net × Appends before now (network_lines net)

-- the text that is to be written of the steps of a plan: the lines of its network, or its first fault
abbrev pub IsShownText : Task → List Step → RunLimits → List ℕ → Type 0
IsShownText task steps limits text =
    TellsNetwork task steps limits text ⊎ ((tick : ℕ) × (why : Fault) × IsFirst task steps tick why
    × (¬ IsValidPlan task steps) × (text ≡ invalid_line tick why))

-- nothing was written, or a first part of the text of the plan that the words name
abbrev pub ShowsPart : (List ℕ → Option (List ℕ)) → PlanWords → Option (List ℕ) → Option (List ℕ)
    → Type 0
ShowsPart held w before now =
    Appends before now []
    ⊎ ((task : Task) × (steps : List Step) × (text : List ℕ) × IsNamedPlan held w task steps
    × IsShownText task steps (greatest_limits w.horizon) text × AppendsPart before now text)

-- the lines of the network of the plan that the words name were written
pub record ShowsNetwork (held : List ℕ → Option (List ℕ)) (w : PlanWords)
    (before now : Option (List ℕ)) : Type 0 where
  pub task : Task
  pub steps : List Step
  pub net : PlanNet
  pub named : IsNamedPlan held w task steps
  pub is_net : IsPlanNetOf task steps (greatest_limits w.horizon) net
  pub written : Appends before now (network_lines net)

abbrev pub Shows : (List ℕ → Option (List ℕ)) → PlanWords → Option (List ℕ) → Option (List ℕ) → Bool
    → Type 0
Shows held w before now true = ShowsNetwork held w before now
Shows held w before now false = SaysInvalid held w before now

-- why the lines of the network of a valid plan were not written
abbrev pub StopsNetwork : Task → List Step → RunLimits → Option (List ℕ) → Option (List ℕ)
    → PlanStop → Type 0
StopsNetwork task steps limits before now (Judging fault) = ⊥
StopsNetwork task steps limits before now (Network fault) =
    OnTooMany fault (PassesLimits limits task steps) × (now ≡ before)
StopsNetwork task steps limits before now Write =
    (text : List ℕ) × TellsNetwork task steps limits text × AppendsPart before now text

-- the lines of a valid plan's network were written, or the first fault of another, and the answer is whether it is valid
abbrev pub ShowsVerdict : Verdict → RunLimits → Option (List ℕ) → Option (List ℕ) → Bool → Type 0
ShowsVerdict (Valid plan) limits before now valid =
    (valid ≡ true) × WritesNetwork plan.task plan.steps limits before now
ShowsVerdict (Invalid plan tick why) limits before now valid =
    (valid ≡ false) × Appends before now (invalid_line tick why)

abbrev pub StopsShown : Verdict → RunLimits → Option (List ℕ) → Option (List ℕ) → PlanStop → Type 0
StopsShown (Valid plan) limits before now stop =
    StopsNetwork plan.task plan.steps limits before now stop
StopsShown (Invalid plan tick why) limits before now stop =
    (stop ≡ Write) × AppendsPart before now (invalid_line tick why)

-- the plan is valid, and passes the limits
abbrev pub PassesNet : RunLimits → Task → List Step → DeorderFault → Type 0
PassesNet limits task steps fault =
    IsValidPlan task steps × OnTooMany fault (PassesLimits limits task steps)

-- why no network was written
abbrev pub StopsNet : (List ℕ → Option (List ℕ)) → PlanWords → Option (List ℕ) → Option (List ℕ)
    → PlanStop → Type 0
StopsNet held w before now stop =
    StopsOn (λ task steps text. IsShownText task steps (greatest_limits w.horizon) text)
    (PassesNet (greatest_limits w.horizon)) held w before now stop

abbrev pub EndsNet : (List ℕ → Option (List ℕ)) → PlanWords → ℕ → Option (List ℕ) → Option (List ℕ)
    → ℕ → ℕ → ℕ → ℕ → ℕ → Option (List ℕ) → ℕ → Option (List ℕ) → Type 0
EndsNet held w status before now unread unread-now output output-now failures said failures-now
    said-now =
    EndsPlan (λ task steps text.
    IsShownText task steps (greatest_limits w.horizon) text) (PassesNet (greatest_limits w.horizon))
    held w status before now unread unread-now output output-now failures said failures-now said-now
