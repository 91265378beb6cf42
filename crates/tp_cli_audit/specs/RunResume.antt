-- A run on the network of a plan that goes on.
use Rattle.std.specs.Prelude.{◌≡◌, ℕ, List, ◌++◌, Option, None, Bool, true, false, Result, Ok, Err, ◌⊎◌}
use Rattle.std.specs.Io.KnownBytes.{Appends}
use Rattle.tp_device.specs.Bytes.{AppendsPart}
use Rattle.tp_bounds.specs.RunLimits.{greatest_limits}
use Rattle.tp_bounds.specs.declared.plan_nets.PlanNet.{PlanNet}
use Rattle.tp_task.specs.declared.task.Task.{Task}
use Rattle.tp_happen.specs.tp_plan_text.declared.plans.Step.{Step}
use Rattle.tp_validate.specs.declared.verdicts.Verdict.{Verdict}
use Rattle.tp_validate.specs.declared.verdicts.Verdict.TheVariants.{Valid, Invalid}
use Rattle.tp_deorder.specs.Answers.{IsPlanNetOf}
use Rattle.tp_exec.specs.FromPlan.{CameFrom, IsPlanOfRun, TellsPlan}
use Rattle.tp_exec_machine.specs.Machine.{Machine}
use Rattle.tp_journal.specs.Auditing.{DisallowsAt}
use Rattle.tp_journal.specs.declared.faults.JournalHead.{JournalHead}
use Rattle.tp_cli_files.specs.Causes.{raised}
use Rattle.tp_cli_files.specs.FaultLines.{Tells}
use Rattle.tp_cli_inputs.specs.VerdictLines.{invalid_line}
use Rattle.tp_cli_inputs.specs.declared.plan_words.PlanWords.{PlanWords}
use Rattle.tp_cli_audit.specs.Audits.{found_line}
use Rattle.tp_cli_audit.specs.PlanAudits.{LagsFit, audit_machine}
use Rattle.tp_cli_audit.specs.declared.auditing.Found.TheVariants as found
use Rattle.tp_cli_run.specs.Ends.{TellsRun}
use Rattle.tp_cli_run.specs.Invalid.{SaysInvalid}
use Rattle.tp_cli_run.specs.LogFile.{AskedOnce, IsNamed, LogFile, MadeNone}
use Rattle.tp_cli_run.specs.Runs.{RunsNamed, run_lines}
use Rattle.tp_cli_run.specs.declared.run_lines.RunStop.{RunStop}
use Rattle.tp_cli_run.specs.declared.run_lines.RunStop.TheVariants as run
use Rattle.tp_cli_audit.specs.Going.{Continues, GoesTo}
use Rattle.tp_cli_audit.specs.Old.{IsKept, IsTaken}
use Rattle.tp_cli_audit.specs.RunResumeStops.{run_resume_failures, run_resume_reads, run_resume_status, run_resume_text, run_resume_unlogged, run_resume_unread}
use Rattle.tp_cli_audit.specs.declared.old.Taken.{Taken}
use Rattle.tp_cli_audit.specs.declared.old.Taken.TheVariants.{Goes, Wrong}
use Rattle.tp_cli_audit.specs.declared.audit_lines.AuditStop.TheVariants.{Write as NotWritten}
use Rattle.tp_cli_audit.specs.declared.resume_stops.ResumeStop.TheVariants as resume
use Rattle.tp_cli_audit.specs.declared.run_resume_stops.RunResumeStop.{RunResumeStop}
use Rattle.tp_cli_audit.specs.declared.run_resume_stops.RunResumeStop.TheVariants.{Judging, Network, Resuming, Telling, Write}

-- ---- the journal

-- what was found of bytes against the machine of a plan's network, with the lags that a head tells
abbrev pub IsTakenNet : PlanNet → JournalHead → List ℕ → Taken → Type 0
IsTakenNet net head kept taken = LagsFit net head × IsTaken (audit_machine net head) kept taken

-- a run that goes on came from each plan that has this network
abbrev pub ComesFrom : PlanNet → Taken → Type 0
ComesFrom net (Goes run) =
    (t : Task) (steps : List Step) → IsPlanNetOf t steps (greatest_limits net.horizon) net
    → CameFrom t steps run.executive
ComesFrom net (Wrong n) = Unit {0}

-- ---- the end of the run

abbrev pub told_on : Result Bool RunStop → Result Bool RunResumeStop
told_on (Ok done) = Ok done
told_on (Err (run.Judging fault)) = Err Telling
told_on (Err (run.Network fault)) = Err Telling
told_on (Err (run.Answering fault)) = Err Telling
told_on (Err run.Write) = Err Write

-- a run went on from that machine to its end, and then the plan of the run was told, if there is one
abbrev pub EndsOn : Task → List Step → Machine → List ℕ → Option (List ℕ) → Option (List ℕ)
    → Option (List ℕ) → LogFile → Bool → Type 0
EndsOn task steps mid kept input held now file done =
    (last : Machine) × (said : Option (List ℕ))
    × GoesTo mid kept input held said file.blank file.kept last × IsNamed file
    × TellsRun task steps last said now done

-- The bytes that were kept are a journal of the run of a plan's network. It went on with the commands of the input, and behind their answers
-- stands the plan of the whole run, which is valid
pub record GoesToPlan (task : Task) (steps : List Step) (horizon : ℕ) (kept : List ℕ)
    (input before now : Option (List ℕ)) (file : LogFile) : Type 0 where
  pub net : PlanNet
  pub is_net : IsPlanNetOf task steps (greatest_limits horizon) net
  pub head : JournalHead
  pub last : Machine
  pub answers : List ℕ
  pub continues : Continues kept input answers file (audit_machine net head) last
  pub run : List Step
  pub is : IsPlanOfRun task steps last run
  pub written : Appends before now (answers ++ run_lines task run)

-- the same of a run that has no plan
pub record GoesToNone (task : Task) (steps : List Step) (horizon : ℕ) (kept : List ℕ)
    (input before now : Option (List ℕ)) (file : LogFile) : Type 0 where
  pub net : PlanNet
  pub is_net : IsPlanNetOf task steps (greatest_limits horizon) net
  pub head : JournalHead
  pub last : Machine
  pub answers : List ℕ
  pub continues : Continues kept input answers file (audit_machine net head) last
  pub none : TellsPlan task steps last None
  pub written : Appends before now answers

-- an answer of the journal is not allowed: the number of its line was written, and no file was asked for
pub record GoesNowhere (task : Task) (steps : List Step) (horizon : ℕ) (kept : List ℕ)
    (before now : Option (List ℕ)) (file : LogFile) : Type 0 where
  pub net : PlanNet
  pub is_net : IsPlanNetOf task steps (greatest_limits horizon) net
  pub head : JournalHead
  pub n : ℕ
  pub wrong : DisallowsAt (audit_machine net head) kept n
  pub written : Appends before now (found_line (found.Wrong n))
  pub made_none : MadeNone file

-- whether the run has a plan
abbrev pub GoesSteps : Task → List Step → ℕ → List ℕ → Option (List ℕ) → Option (List ℕ)
    → Option (List ℕ) → LogFile → Bool → Type 0
GoesSteps task steps horizon kept input before now file true =
    GoesToPlan task steps horizon kept input before now file
GoesSteps task steps horizon kept input before now file false =
    GoesToNone task steps horizon kept input before now file
    ⊎ GoesNowhere task steps horizon kept before now file

-- the same of a plan that is valid; of another, its first fault was written, and no file was asked for
abbrev pub GoesVerdict : Verdict → ℕ → List ℕ → Option (List ℕ) → Option (List ℕ)
    → Option (List ℕ) → LogFile → Bool → Type 0
GoesVerdict (Valid plan) horizon kept input before now file done =
    GoesSteps plan.task plan.steps horizon kept input before now file done
GoesVerdict (Invalid plan tick why) horizon kept input before now file done =
    (done ≡ false) × Appends before now (invalid_line tick why) × MadeNone file

-- the same of the plan that the words name
abbrev pub GoesOfPlan : (List ℕ → Option (List ℕ)) → PlanWords → List ℕ → Option (List ℕ)
    → Option (List ℕ) → Option (List ℕ) → LogFile → Bool → Type 0
GoesOfPlan held w kept input before now file true =
    RunsNamed held w (λ task steps. GoesToPlan task steps w.horizon kept input before now file)
GoesOfPlan held w kept input before now file false =
    (SaysInvalid held w before now × MadeNone file)
    ⊎ RunsNamed held w (λ task steps.
    GoesToNone task steps w.horizon kept input before now file
    ⊎ GoesNowhere task steps w.horizon kept before now file)

-- and of the journal in the file of that name, up to its last whole pair
abbrev pub ResumesRun : (List ℕ → Option (List ℕ)) → PlanWords → List ℕ → Option (List ℕ)
    → Option (List ℕ) → Option (List ℕ) → LogFile → Bool → Type 0
ResumesRun held w old input before now file done =
    (kept : List ℕ) × IsKept (held old) kept × GoesOfPlan held w kept input before now file done

-- ---- why it stopped

-- nothing was written, or some first part of a text
abbrev pub StopsEarly : Option (List ℕ) → Option (List ℕ) → Type 0
StopsEarly before now = (text : List ℕ) × AppendsPart before now text

-- Where the journal is none, or the plan, no file was asked for, and nothing was written but perhaps a first part of why. Where there was no
-- memory for the lines of the input or the file was not made, nothing was written.
abbrev pub LeavesFile : Option (List ℕ) → Option (List ℕ) → LogFile → RunResumeStop → Type 0
LeavesFile before now file (Judging fault) = (now ≡ before) × MadeNone file
LeavesFile before now file (Network fault) = (now ≡ before) × MadeNone file
LeavesFile before now file (Resuming (resume.Auditing stop)) =
    MadeNone file × ((now ≡ before) ⊎ ((stop ≡ NotWritten)
    × ((n : ℕ) × AppendsPart before now (found_line (found.Wrong n)))))
LeavesFile before now file (Resuming resume.Lines) = (now ≡ before) × MadeNone file
LeavesFile before now file (Resuming resume.Making) = (now ≡ before) × AskedOnce file
LeavesFile before now file (Resuming (resume.Journaling fault)) = IsNamed file
LeavesFile before now file Telling = IsNamed file
LeavesFile before now file Write = MadeNone file ⊎ IsNamed file

abbrev pub HasStopped : Option (List ℕ) → Option (List ℕ) → LogFile → RunResumeStop → Type 0
HasStopped before now file stop = StopsEarly before now × LeavesFile before now file stop

-- It stopped so with that status, and that was told. A failed read of the input, a file that can't be read, a journal that can't be made
-- or written, and a failed write are ones that the counts of failures tell of.
pub record EndsRunResumed (w : PlanWords) (old : List ℕ) (status : ℕ) (reads reads-now : ℕ)
    (before now : Option (List ℕ)) (file : LogFile) (unread unread-now logs logs-now : ℕ)
    (output output-now : ℕ) (failures : ℕ)
    (said : Option (List ℕ)) (failures-now : ℕ) (said-now : Option (List ℕ)) : Type 0 where
  pub stop : RunResumeStop
  pub is : run_resume_status stop ≡ status
  pub cause : HasStopped before now file stop
  pub read : reads-now ≡ run_resume_reads {T = Unit {0}} reads (Err stop)
  pub opened : unread-now ≡ raised (run_resume_unread stop) unread
  pub journal : logs-now ≡ raised (run_resume_unlogged stop) logs
  pub write : output-now ≡ run_resume_failures {T = Unit {0}} output (Err stop)
  pub told : Tells (run_resume_text w old stop) failures said failures-now said-now
