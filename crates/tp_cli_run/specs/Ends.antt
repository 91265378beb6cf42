-- The end of a run, once all lines are answered.
use Rattle.std.specs.Prelude.{◌≡◌, ℕ, List, Option, None, Bool, true, false}
use Rattle.std.specs.Io.KnownBytes.{Appends}
use Rattle.tp_device.specs.Bytes.{AppendsPart}
use Rattle.tp_bounds.specs.RunLimits.{greatest_limits}
use Rattle.tp_task.specs.declared.task.Task.{Task}
use Rattle.tp_happen.specs.tp_plan_text.declared.plans.Step.{Step}
use Rattle.tp_validate.specs.declared.verdicts.Verdict.{Verdict}
use Rattle.tp_validate.specs.declared.verdicts.Verdict.TheVariants.{Valid, Invalid}
use Rattle.tp_deorder.specs.Answers.{OnTooMany, PassesLimits}
use Rattle.tp_exec.specs.FromPlan.{IsPlanOfRun, TellsPlan}
use Rattle.tp_exec_machine.specs.Machine.{Machine}
use Rattle.tp_cli_bare.specs.declared.bare.BareFault.TheVariants as bare
use Rattle.tp_cli_inputs.specs.VerdictLines.{invalid_line}
use Rattle.tp_cli_run.specs.Runs.{EndsEarly, EndsInNone, EndsInPart, EndsInPlan, run_lines}
use Rattle.tp_cli_run.specs.declared.run_lines.RunStop.{RunStop}
use Rattle.tp_cli_run.specs.declared.run_lines.RunStop.TheVariants.{Judging, Network, Answering, Write}

-- the lines of the plan of a run were written, or there is none and nothing was
abbrev pub TellsRun : Task → List Step → Machine → Option (List ℕ) → Option (List ℕ) → Bool → Type 0
TellsRun task steps last before now true =
    (run : List Step) × IsPlanOfRun task steps last run × Appends before now (run_lines task run)
TellsRun task steps last before now false = TellsPlan task steps last None × (now ≡ before)

-- there was no memory for the plan of a run, or a first part of it was written
abbrev pub StopsTelling : Task → List Step → Machine → Option (List ℕ) → Option (List ℕ) → RunStop
    → Type 0
StopsTelling task steps last before now (Judging fault) = ⊥
StopsTelling task steps last before now (Network fault) = ⊥
StopsTelling task steps last before now (Answering bare.Network) = now ≡ before
StopsTelling task steps last before now (Answering (bare.Serving fault)) = ⊥
StopsTelling task steps last before now Write =
    (run : List Step) × IsPlanOfRun task steps last run
    × AppendsPart before now (run_lines task run)

-- whether the run of a plan of these steps has a plan
abbrev pub RunsSteps : Task → List Step → ℕ → Option (List ℕ) → Option (List ℕ) → Option (List ℕ)
    → Bool → Type 0
RunsSteps task steps horizon input before now true = EndsInPlan task steps horizon input before now
RunsSteps task steps horizon input before now false = EndsInNone task steps horizon input before now

-- why the run of a plan of these steps stopped
abbrev pub StopsSteps : Task → List Step → ℕ → Option (List ℕ) → Option (List ℕ) → Option (List ℕ)
    → RunStop → Type 0
StopsSteps task steps horizon input before now (Judging fault) = ⊥
StopsSteps task steps horizon input before now (Network fault) =
    OnTooMany fault (PassesLimits (greatest_limits horizon) task steps) × (now ≡ before)
StopsSteps task steps horizon input before now (Answering fault) =
    EndsEarly task steps horizon input before now fault
StopsSteps task steps horizon input before now Write =
    EndsInPart task steps horizon input before now

-- the same of a plan that is valid; of another, its first fault was written
abbrev pub RunsVerdict : Verdict → ℕ → Option (List ℕ) → Option (List ℕ) → Option (List ℕ) → Bool
    → Type 0
RunsVerdict (Valid plan) horizon input before now done =
    RunsSteps plan.task plan.steps horizon input before now done
RunsVerdict (Invalid plan tick why) horizon input before now done =
    (done ≡ false) × Appends before now (invalid_line tick why)

abbrev pub StopsVerdict : Verdict → ℕ → Option (List ℕ) → Option (List ℕ) → Option (List ℕ)
    → RunStop → Type 0
StopsVerdict (Valid plan) horizon input before now stop =
    StopsSteps plan.task plan.steps horizon input before now stop
StopsVerdict (Invalid plan tick why) horizon input before now stop =
    (stop ≡ Write) × AppendsPart before now (invalid_line tick why)
