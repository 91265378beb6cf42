-- The end of a run whose journal is kept, once its plan has a verdict.
use Rattle.std.specs.Prelude.{◌≡◌, ℕ, List, Option, Bool, true, false, Result, Ok, Err}
use Rattle.std.specs.Io.KnownBytes.{Appends}
use Rattle.tp_device.specs.Bytes.{AppendsPart}
use Rattle.tp_bounds.specs.RunLimits.{greatest_limits}
use Rattle.tp_task.specs.declared.task.Task.{Task}
use Rattle.tp_happen.specs.tp_plan_text.declared.plans.Step.{Step}
use Rattle.tp_validate.specs.declared.verdicts.Verdict.{Verdict}
use Rattle.tp_validate.specs.declared.verdicts.Verdict.TheVariants.{Valid, Invalid}
use Rattle.tp_deorder.specs.Answers.{OnTooMany, PassesLimits}
use Rattle.tp_cli_inputs.specs.VerdictLines.{invalid_line}
use Rattle.tp_cli_run.specs.declared.run_lines.RunStop.{RunStop}
use Rattle.tp_cli_run.specs.declared.run_lines.RunStop.TheVariants as run
use Rattle.tp_cli_run.specs.LogFile.{LogFile, MadeNone}
use Rattle.tp_cli_run.specs.RunJournals.{LogsEarly, LogsInNone, LogsInPart, LogsInPlan, LogsUntold}
use Rattle.tp_cli_run.specs.declared.stop_lines.RunJournalStop.{RunJournalStop}
use Rattle.tp_cli_run.specs.declared.stop_lines.RunJournalStop.TheVariants.{Judging, Network, Journal, Telling, Write}

-- what stops the telling of the plan of a run: it can't be written, or there is no memory for it
abbrev pub telling_stop : RunStop → RunJournalStop
telling_stop (run.Judging fault) = Telling
telling_stop (run.Network fault) = Telling
telling_stop (run.Answering fault) = Telling
telling_stop run.Write = Write

abbrev pub told_result : Result Bool RunStop → Result Bool RunJournalStop
told_result (Ok done) = Ok done
told_result (Err stop) = Err (telling_stop stop)

-- whether the run of a plan of these steps has a plan
abbrev pub LogsSteps : Task → List Step → ℕ → Option (List ℕ) → Option (List ℕ) → Option (List ℕ)
    → LogFile → Bool → Type 0
LogsSteps task steps horizon input before now file true =
    LogsInPlan task steps horizon input before now file
LogsSteps task steps horizon input before now file false =
    LogsInNone task steps horizon input before now file

-- why the run of a plan of these steps stopped
abbrev pub StopsSteps : Task → List Step → ℕ → Option (List ℕ) → Option (List ℕ) → Option (List ℕ)
    → LogFile → RunJournalStop → Type 0
StopsSteps task steps horizon input before now file (Judging fault) = ⊥
StopsSteps task steps horizon input before now file (Network fault) =
    OnTooMany fault (PassesLimits (greatest_limits horizon) task steps) × (now ≡ before)
    × MadeNone file
StopsSteps task steps horizon input before now file (Journal stop) =
    LogsEarly task steps horizon input before now file stop
StopsSteps task steps horizon input before now file Telling =
    LogsUntold task steps horizon input before now file
StopsSteps task steps horizon input before now file Write =
    LogsInPart task steps horizon input before now file

-- the same of a plan that is valid; of another, its first fault was written, and no file was made
abbrev pub LogsVerdict : Verdict → ℕ → Option (List ℕ) → Option (List ℕ) → Option (List ℕ)
    → LogFile → Bool → Type 0
LogsVerdict (Valid plan) horizon input before now file done =
    LogsSteps plan.task plan.steps horizon input before now file done
LogsVerdict (Invalid plan tick why) horizon input before now file done =
    (done ≡ false) × Appends before now (invalid_line tick why) × MadeNone file

abbrev pub StopsVerdict : Verdict → ℕ → Option (List ℕ) → Option (List ℕ) → Option (List ℕ)
    → LogFile → RunJournalStop → Type 0
StopsVerdict (Valid plan) horizon input before now file stop =
    StopsSteps plan.task plan.steps horizon input before now file stop
StopsVerdict (Invalid plan tick why) horizon input before now file stop =
    (stop ≡ Write) × AppendsPart before now (invalid_line tick why) × MadeNone file
