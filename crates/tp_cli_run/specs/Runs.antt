-- The run of the plan in a file.
use Rattle.std.specs.Prelude.{◌≡◌, ◌≤◌, ℕ, List, [], ◌++◌, length, take, Option, None, Bool, true, false, Err, ◌⊎◌, codes}
use Rattle.std.specs.Io.KnownBytes.{Appends}
use Rattle.tp_bounds.specs.RunLimits.{greatest_limits}
use Rattle.tp_bounds.specs.declared.plan_nets.PlanNet.{PlanNet}
use Rattle.tp_task.specs.declared.task.Task.{Task}
use Rattle.tp_happen.specs.tp_plan_text.PlanPrints.{plan_text}
use Rattle.tp_happen.specs.tp_plan_text.TaskWords.{readable}
use Rattle.tp_happen.specs.tp_plan_text.declared.plans.Step.{Step}
use Rattle.tp_validate.specs.OfTask.{IsValidPlan}
use Rattle.tp_deorder.specs.Answers.{IsPlanNetOf, OnTooMany, PassesLimits}
use Rattle.tp_exec.specs.FromPlan.{IsPlanOfRun, TellsPlan}
use Rattle.tp_exec_machine.specs.Machine.{Machine}
use Rattle.tp_cli_files.specs.Causes.{raised}
use Rattle.tp_cli_files.specs.FaultLines.{Tells}
use Rattle.tp_cli_bare.specs.declared.bare.BareFault.{BareFault}
use Rattle.tp_cli_inputs.specs.Causes.{Explains}
use Rattle.tp_cli_inputs.specs.Named.{IsNamedPlan}
use Rattle.tp_cli_inputs.specs.declared.plan_words.PlanWords.{PlanWords}
use Rattle.tp_cli_run.specs.Answered.{Answered, AnswersPart, StopsAnswers}
use Rattle.tp_cli_run.specs.Invalid.{SaysInvalid, SaysInvalidPart}
use Rattle.tp_cli_run.specs.RunLines.{run_failures, run_reads, run_status, run_text, run_unread}
use Rattle.tp_cli_run.specs.declared.run_lines.RunStop.{RunStop}
use Rattle.tp_cli_run.specs.declared.run_lines.RunStop.TheVariants.{Judging, Network, Answering, Write}

-- the lines of the plan of a run
abbrev pub run_lines : Task → List Step → List ℕ
run_lines task steps = codes "plan\n" ++ plan_text (readable task) steps

-- All lines were answered on the network of a plan, and behind the answers stands the plan of the run: the steps of the plan at the moments
-- of the run. It is valid, so it reaches the goal.
pub record EndsInPlan (task : Task) (steps : List Step) (horizon : ℕ)
    (input before now : Option (List ℕ)) : Type 0 where
  pub net : PlanNet
  pub is_net : IsPlanNetOf task steps (greatest_limits horizon) net
  pub answers : List ℕ
  pub last : Machine
  pub answered : Answered net input [] answers last
  pub run : List Step
  pub is : IsPlanOfRun task steps last run
  pub written : Appends before now (answers ++ run_lines task run)

-- All lines were answered, and the run has no plan: some event did not happen, or a bound of the plan was withdrawn.
pub record EndsInNone (task : Task) (steps : List Step) (horizon : ℕ)
    (input before now : Option (List ℕ)) : Type 0 where
  pub net : PlanNet
  pub is_net : IsPlanNetOf task steps (greatest_limits horizon) net
  pub answers : List ℕ
  pub last : Machine
  pub answered : Answered net input [] answers last
  pub none : TellsPlan task steps last None
  pub written : Appends before now answers

-- all lines were answered, and a first part of the plan of the run was written behind the answers
pub record EndsInPart (task : Task) (steps : List Step) (horizon : ℕ)
    (input before now : Option (List ℕ)) : Type 0 where
  pub net : PlanNet
  pub is_net : IsPlanNetOf task steps (greatest_limits horizon) net
  pub answers : List ℕ
  pub last : Machine
  pub answered : Answered net input [] answers last
  pub run : List Step
  pub is : IsPlanOfRun task steps last run
  pub count : ℕ
  pub within : count ≤ length (run_lines task run)
  pub written : Appends before now (answers ++ take count (run_lines task run))

-- not all lines were answered, or there was no memory for the plan of the run
pub record EndsEarly (task : Task) (steps : List Step) (horizon : ℕ)
    (input before now : Option (List ℕ)) (fault : BareFault) : Type 0 where
  pub net : PlanNet
  pub is_net : IsPlanNetOf task steps (greatest_limits horizon) net
  pub stops : StopsAnswers net input before now fault

-- the plan that the words name is valid, and its run ended so
abbrev pub RunsNamed : (List ℕ → Option (List ℕ)) → PlanWords → (Task → List Step → Type 0) → Type 0
RunsNamed held w ended =
    (task : Task) × (steps : List Step) × IsNamedPlan held w task steps × IsValidPlan task steps
    × ended task steps

-- the plan that the words name was run to its end, and the plan of the run was written
abbrev pub RunsToPlan : (List ℕ → Option (List ℕ)) → PlanWords → Option (List ℕ) → Option (List ℕ)
    → Option (List ℕ) → Type 0
RunsToPlan held w input before now =
    RunsNamed held w (λ task steps. EndsInPlan task steps w.horizon input before now)

-- the plan that the words name is not valid, and its first fault was written; or it was run and the run has no plan
abbrev pub RunsToNone : (List ℕ → Option (List ℕ)) → PlanWords → Option (List ℕ) → Option (List ℕ)
    → Option (List ℕ) → Type 0
RunsToNone held w input before now =
    SaysInvalid held w before now
    ⊎ RunsNamed held w (λ task steps. EndsInNone task steps w.horizon input before now)

-- whether the run has a plan
abbrev pub Runs : (List ℕ → Option (List ℕ)) → PlanWords → Option (List ℕ) → Option (List ℕ)
    → Option (List ℕ) → Bool → Type 0
Runs held w input before now true = RunsToPlan held w input before now
Runs held w input before now false = RunsToNone held w input before now

-- why a run stopped, and what was written by then
abbrev pub StopsRun : (List ℕ → Option (List ℕ)) → PlanWords → Option (List ℕ) → Option (List ℕ)
    → Option (List ℕ) → RunStop → Type 0
StopsRun held w input before now (Judging fault) = Explains held w fault × (now ≡ before)
StopsRun held w input before now (Network fault) =
    RunsNamed held w (λ task steps. OnTooMany fault
    (PassesLimits (greatest_limits w.horizon) task steps)) × (now ≡ before)
StopsRun held w input before now (Answering fault) =
    RunsNamed held w (λ task steps. EndsEarly task steps w.horizon input before now fault)
StopsRun held w input before now Write =
    SaysInvalidPart held w before now
    ⊎ RunsNamed held w (λ task steps. EndsInPart task steps w.horizon input before now)

-- It stopped so with that status, and that was told. A failed read of the input, a file that can't be read and a failed write are ones
-- that the counts of failures tell of.
pub record EndsRun (held : List ℕ → Option (List ℕ)) (w : PlanWords) (status : ℕ)
    (input : Option (List ℕ)) (reads reads-now : ℕ) (before now : Option (List ℕ))
    (unread unread-now : ℕ) (output output-now : ℕ) (failures : ℕ) (said : Option (List ℕ))
    (failures-now : ℕ) (said-now : Option (List ℕ)) : Type 0 where
  pub stop : RunStop
  pub is : run_status stop ≡ status
  pub cause : StopsRun held w input before now stop
  pub read : reads-now ≡ run_reads {T = Unit {0}} reads (Err stop)
  pub opened : unread-now ≡ raised (run_unread stop) unread
  pub write : output-now ≡ run_failures {T = Unit {0}} output (Err stop)
  pub told : Tells (run_text w stop) failures said failures-now said-now

-- some first part of the answers to some first lines was written, or all of them and a first part of the plan of the run
abbrev pub WritesPart : Task → List Step → ℕ → Option (List ℕ) → Option (List ℕ) → Option (List ℕ)
    → Type 0
WritesPart task steps horizon input before now =
    ((net : PlanNet) × IsPlanNetOf task steps (greatest_limits horizon) net
    × AnswersPart net input before now) ⊎ EndsInPart task steps horizon input before now

-- nothing was written, or a first part of what the run of the plan that the words name writes
abbrev pub RunsPart : (List ℕ → Option (List ℕ)) → PlanWords → Option (List ℕ) → Option (List ℕ)
    → Option (List ℕ) → Type 0
RunsPart held w input before now =
    Appends before now [] ⊎ (SaysInvalidPart held w before now
    ⊎ RunsNamed held w (λ task steps. WritesPart task steps w.horizon input before now))
