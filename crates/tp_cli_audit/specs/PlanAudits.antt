-- The audit of the journal of a plan's run.
use Rattle.std.specs.Prelude.{◌≡◌, ℕ, List, [], length, Option, Bool, true, false, Err, IfSome, ◌⊎◌}
use Rattle.std.specs.List.{All}
use Rattle.std.specs.Io.KnownBytes.{Appends}
use Rattle.tp_device.specs.Bytes.{AppendsPart}
use Rattle.tp_bounds.specs.RunLimits.{greatest_limits}
use Rattle.tp_bounds.specs.declared.plan_nets.PlanNet.{PlanNet}
use Rattle.tp_task.specs.declared.task.Task.{Task}
use Rattle.tp_happen.specs.tp_plan_text.declared.plans.Step.{Step}
use Rattle.tp_deorder.specs.Answers.{IsPlanNetOf, OnTooMany, PassesLimits}
use Rattle.tp_exec_machine.specs.Machine.{Machine}
use Rattle.tp_cli_files.specs.Causes.{raised}
use Rattle.tp_cli_files.specs.FaultLines.{Tells}
use Rattle.tp_cli_bare.specs.Bare.{first_setting}
use Rattle.tp_journal.specs.Auditing.{HasOtherHead}
use Rattle.tp_journal.specs.Telling.{IsHeadTold}
use Rattle.tp_journal.specs.declared.faults.JournalHead.{JournalHead}
use Rattle.tp_cli_audit.specs.Audits.{BreaksLog, IsFound, found_line}
use Rattle.tp_cli_audit.specs.Bare.{LagFits, lagged}
use Rattle.tp_cli_audit.specs.declared.audit_lines.AuditStop.{AuditStop}
use Rattle.tp_cli_audit.specs.declared.audit_lines.AuditStop.TheVariants.{Open, Network, Memory, Read, Line, Head, Write}
use Rattle.tp_cli_audit.specs.declared.auditing.Found.{Found}
use Rattle.tp_cli_audit.specs.declared.auditing.Found.TheVariants.{Journal, Wrong}
use Rattle.tp_cli_inputs.specs.Causes.{Explains}
use Rattle.tp_cli_inputs.specs.declared.plan_words.PlanWords.{PlanWords}
use Rattle.tp_cli_run.specs.Invalid.{SaysInvalid, SaysInvalidPart}
use Rattle.tp_cli_run.specs.Runs.{RunsNamed}
use Rattle.tp_cli_run.specs.Starts.{net_head, run_machine}
use Rattle.tp_cli_audit.specs.AuditStops.{plan_stop_failures, plan_stop_status, plan_stop_text, plan_stop_unread}
use Rattle.tp_cli_audit.specs.declared.stop_lines.PlanAuditStop.{PlanAuditStop}
use Rattle.tp_cli_audit.specs.declared.stop_lines.PlanAuditStop.TheVariants.{Auditing, Judging, Deordering}

-- ---- the machine of a plan and a head

-- the machine in which the run of a plan's network begins, with the lags that a head tells
abbrev pub audit_machine : PlanNet → JournalHead → Machine
audit_machine net head = run_machine net (lagged (first_setting (net_head net)) head.lags.items)

-- the lags that the head tells are of events of the network, and in range
abbrev pub LagsFit : PlanNet → JournalHead → Type 0
LagsFit net head = All (LagFits (length net.events.items)) head.lags.items

-- what is found against that machine
abbrev pub IsNetFound : PlanNet → JournalHead → Option (List ℕ) → Found → Type 0
IsNetFound net head input found =
    LagsFit net head × IsFound (audit_machine net head) input found

-- the head is that of another executive: it tells lags of events that the network has not, or the machine with these lags has another head
abbrev pub IsOtherNetHead : PlanNet → JournalHead → Option (List ℕ) → Type 0
IsOtherNetHead net head input =
    (¬ LagsFit net head) ⊎ IfSome input (λ bytes. HasOtherHead (audit_machine net head) bytes)

-- the same of the network of a plan of these steps
pub record IsPlanFound (task : Task) (steps : List Step) (horizon : ℕ) (head : JournalHead)
    (input : Option (List ℕ)) (found : Found) : Type 0 where
  pub net : PlanNet
  pub is_net : IsPlanNetOf task steps (greatest_limits horizon) net
  pub is : IsNetFound net head input found

pub record IsOtherPlanHead (task : Task) (steps : List Step) (horizon : ℕ) (head : JournalHead)
    (input : Option (List ℕ)) : Type 0 where
  pub net : PlanNet
  pub is_net : IsPlanNetOf task steps (greatest_limits horizon) net
  pub other : IsOtherNetHead net head input

-- ---- what is written

-- the head of the journal was told, and this holds with it
abbrev pub WithHead : Option (List ℕ) → (JournalHead → Type 0) → Type 0
WithHead input then =
    (head : JournalHead) × IfSome input (λ bytes. IsHeadTold bytes head) × then head

-- what was found against the network of a plan of these steps was written
abbrev pub SaysFound : Task → List Step → ℕ → JournalHead → Option (List ℕ) → Option (List ℕ)
    → Option (List ℕ) → Found → Type 0
SaysFound task steps horizon head input before now found =
    IsPlanFound task steps horizon head input found × Appends before now (found_line found)

-- The plan that the words name is valid, and the file is a journal of the run of its network with so many pairs: that was written
abbrev pub SaysPlanJournal : (List ℕ → Option (List ℕ)) → PlanWords → Option (List ℕ)
    → Option (List ℕ) → Option (List ℕ) → Type 0
SaysPlanJournal held w input before now =
    WithHead input (λ head. RunsNamed held w (λ task steps.
    (pairs : ℕ) × SaysFound task steps w.horizon head input before now (Journal pairs)))

-- the plan that the words name is not valid, and its first fault was written; or an answer in the file is not allowed, and the number of its
-- line was
abbrev pub SaysPlanNo : (List ℕ → Option (List ℕ)) → PlanWords → Option (List ℕ)
    → Option (List ℕ) → Option (List ℕ) → Type 0
SaysPlanNo held w input before now =
    WithHead input (λ head. SaysInvalid held w before now ⊎ RunsNamed held w (λ task steps.
    (n : ℕ) × SaysFound task steps w.horizon head input before now (Wrong n)))

abbrev pub SaysPlan : (List ℕ → Option (List ℕ)) → PlanWords → Option (List ℕ) → Option (List ℕ)
    → Option (List ℕ) → Bool → Type 0
SaysPlan held w input before now true = SaysPlanJournal held w input before now
SaysPlan held w input before now false = SaysPlanNo held w input before now

-- a first part of the first fault of a plan that is not valid, or of what was found, was written
abbrev pub SaysPlanPart : (List ℕ → Option (List ℕ)) → PlanWords → Option (List ℕ)
    → Option (List ℕ) → Option (List ℕ) → Type 0
SaysPlanPart held w input before now =
    WithHead input (λ head. SaysInvalidPart held w before now ⊎ RunsNamed held w (λ task steps.
    (found : Found) × IsPlanFound task steps w.horizon head input found
    × AppendsPart before now (found_line found)))

-- what hinders an audit of the file, and what was written by then
abbrev pub StopsAuditing : (List ℕ → Option (List ℕ)) → PlanWords → Option (List ℕ)
    → Option (List ℕ) → Option (List ℕ) → AuditStop → Type 0
StopsAuditing held w input before now Open = now ≡ before
StopsAuditing held w input before now Network = now ≡ before
StopsAuditing held w input before now Memory = now ≡ before
StopsAuditing held w input before now Read = now ≡ before
StopsAuditing held w input before now (Line n) = BreaksLog input n × (now ≡ before)
StopsAuditing held w input before now Head =
    WithHead input (λ head. RunsNamed held w (λ task steps.
    IsOtherPlanHead task steps w.horizon head input)) × (now ≡ before)
StopsAuditing held w input before now Write = SaysPlanPart held w input before now

-- why nothing, or not all, was written
abbrev pub StopsPlanAudit : (List ℕ → Option (List ℕ)) → PlanWords → Option (List ℕ)
    → Option (List ℕ) → Option (List ℕ) → PlanAuditStop → Type 0
StopsPlanAudit held w input before now (Auditing stop) =
    StopsAuditing held w input before now stop
StopsPlanAudit held w input before now (Judging fault) =
    WithHead input (λ head. Explains held w fault) × (now ≡ before)
StopsPlanAudit held w input before now (Deordering fault) =
    WithHead input (λ head. RunsNamed held w (λ task steps. OnTooMany fault
    (PassesLimits (greatest_limits w.horizon) task steps))) × (now ≡ before)

-- What hindered it with that status was told, and it is as it tells. A file that can't be read and a failed write are ones that the
-- counts of failures tell of.
pub record EndsPlanAudit (held : List ℕ → Option (List ℕ)) (w : PlanWords) (log : List ℕ)
    (status : ℕ) (input before now : Option (List ℕ)) (unread unread-now : ℕ)
    (output output-now : ℕ) (failures : ℕ)
    (said : Option (List ℕ)) (failures-now : ℕ) (said-now : Option (List ℕ)) : Type 0 where
  pub stop : PlanAuditStop
  pub is : plan_stop_status stop ≡ status
  pub cause : StopsPlanAudit held w input before now stop
  pub opened : unread-now ≡ raised (plan_stop_unread stop) unread
  pub write : output-now ≡ plan_stop_failures {T = Unit {0}} output (Err stop)
  pub told : Tells (plan_stop_text log w stop) failures said failures-now said-now

-- nothing was written, or a first part of it
abbrev pub WritesAuditPart : (List ℕ → Option (List ℕ)) → PlanWords → Option (List ℕ)
    → Option (List ℕ) → Option (List ℕ) → Type 0
WritesAuditPart held w input before now =
    Appends before now [] ⊎ SaysPlanPart held w input before now
