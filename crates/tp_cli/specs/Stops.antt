-- What is told where a command on a plan in files stops, and why it stops.
use Rattle.std.specs.Prelude.{◌≡◌, ℕ, ◌+◌, List, Option, Bool, false, Result, Ok, Err}
use Rattle.tp_device.specs.Bytes.{AppendsPart}
use Rattle.tp_task.specs.declared.task.Task.{Task}
use Rattle.tp_happen.specs.tp_plan_text.declared.plans.Step.{Step}
use Rattle.tp_deorder.specs.declared.DeorderFault.{DeorderFault}
use Rattle.tp_cli_files.specs.Causes.{raised}
use Rattle.tp_cli_files.specs.FaultLines.{Tells, line_of}
use Rattle.tp_cli_files.specs.declared.faults.Fault.TheVariants as faults
use Rattle.tp_cli_inputs.specs.Causes.{Explains}
use Rattle.tp_cli_inputs.specs.JudgeLines.{judge_status, judge_text, judge_unread}
use Rattle.tp_cli_inputs.specs.Named.{IsNamedPlan}
use Rattle.tp_cli_inputs.specs.declared.plan_words.PlanWords.{PlanWords}
use Rattle.tp_cli_run.specs.RunLines.{network_status, network_text}
use Rattle.tp_cli.specs.declared.stops.PlanStop.{PlanStop}
use Rattle.tp_cli.specs.declared.stops.PlanStop.TheVariants.{Judging, Network, Write}

abbrev pub stop_status : PlanStop → ℕ
stop_status (Judging fault) = judge_status fault
stop_status (Network fault) = network_status fault
stop_status Write = 3

abbrev pub stop_text : PlanWords → PlanStop → List ℕ
stop_text w (Judging fault) = judge_text w fault
stop_text w (Network fault) = network_text fault
stop_text w Write = line_of faults.ScriptWrite

-- a write that failed is counted
abbrev pub stop_failures : {T : Type 0} → ℕ → Result T PlanStop → ℕ
stop_failures n (Ok x) = n
stop_failures n (Err (Judging fault)) = n
stop_failures n (Err (Network fault)) = n
stop_failures n (Err Write) = n + 1

-- a file can't be read
abbrev pub stop_unread : PlanStop → Bool
stop_unread (Judging fault) = judge_unread fault
stop_unread (Network fault) = false
stop_unread Write = false

-- Why a command stopped that writes such a text of a plan, and may find such faults of its network: the files gave no verdict, or the plan no
-- network, and nothing was written; or a first part of the text was.
abbrev pub StopsOn : (Task → List Step → List ℕ → Type 0)
    → (Task → List Step → DeorderFault → Type 0) → (List ℕ → Option (List ℕ)) → PlanWords
    → Option (List ℕ) → Option (List ℕ) → PlanStop → Type 0
StopsOn tells passes held w before now (Judging fault) = Explains held w fault × (now ≡ before)
StopsOn tells passes held w before now (Network fault) =
    (task : Task) × (steps : List Step) × IsNamedPlan held w task steps × passes task steps fault
    × (now ≡ before)
StopsOn tells passes held w before now Write =
    (task : Task) × (steps : List Step) × (text : List ℕ) × IsNamedPlan held w task steps
    × tells task steps text × AppendsPart before now text

-- It stopped so with that status, and that was told. A file that can't be read and a failed write are ones that the counts of failures tell
-- of.
pub record EndsPlan (tells : Task → List Step → List ℕ → Type 0) (passes : Task → List Step
    → DeorderFault → Type 0) (held : List ℕ → Option (List ℕ)) (w : PlanWords) (status : ℕ)
    (before now : Option (List ℕ)) (unread unread-now : ℕ) (output output-now : ℕ) (failures : ℕ)
    (said : Option (List ℕ)) (failures-now : ℕ) (said-now : Option (List ℕ)) : Type 0 where
  pub stop : PlanStop
  pub is : stop_status stop ≡ status
  pub cause : StopsOn tells passes held w before now stop
  pub opened : unread-now ≡ raised (stop_unread stop) unread
  pub write : output-now ≡ stop_failures {T = Unit {0}} output (Err stop)
  pub told : Tells (stop_text w stop) failures said failures-now said-now
