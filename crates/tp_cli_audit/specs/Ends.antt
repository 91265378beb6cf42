-- The end of an audit, once the plan has a verdict.
use Rattle.std.specs.Prelude.{◌≡◌, ◌⊎◌, ℕ, List, Option, Bool, true, false, Result, Ok, Err}
use Rattle.std.specs.Io.KnownBytes.{Appends}
use Rattle.tp_device.specs.Bytes.{AppendsPart}
use Rattle.tp_bounds.specs.RunLimits.{greatest_limits}
use Rattle.tp_bounds.specs.declared.plan_nets.PlanNet.{PlanNet}
use Rattle.tp_task.specs.declared.task.Task.{Task}
use Rattle.tp_happen.specs.tp_plan_text.declared.plans.Step.{Step}
use Rattle.tp_validate.specs.declared.verdicts.Verdict.{Verdict}
use Rattle.tp_validate.specs.declared.verdicts.Verdict.TheVariants.{Valid, Invalid}
use Rattle.tp_deorder.specs.Answers.{OnTooMany, PassesLimits}
use Rattle.tp_journal.specs.declared.faults.JournalHead.{JournalHead}
use Rattle.tp_cli_audit.specs.Audits.{BreaksLog, found_line}
use Rattle.tp_cli_audit.specs.declared.audit_lines.AuditStop.{AuditStop}
use Rattle.tp_cli_audit.specs.declared.audit_lines.AuditStop.TheVariants.{Open, Network, Memory, Read, Line, Head, Write}
use Rattle.tp_cli_audit.specs.declared.auditing.Found.{Found}
use Rattle.tp_cli_audit.specs.declared.auditing.Found.TheVariants as found
use Rattle.tp_cli_inputs.specs.Causes.{Explains}
use Rattle.tp_cli_inputs.specs.VerdictLines.{invalid_line}
use Rattle.tp_cli_inputs.specs.declared.plan_words.PlanWords.{PlanWords}
use Rattle.tp_cli_run.specs.Invalid.{SaysInvalid, SaysInvalidPart}
use Rattle.tp_cli_run.specs.Runs.{RunsNamed}
use Rattle.tp_cli_audit.specs.PlanAudits.{IsNetFound, IsOtherNetHead, IsOtherPlanHead, IsPlanFound, SaysFound}
use Rattle.tp_cli_audit.specs.declared.stop_lines.PlanAuditStop.{PlanAuditStop}
use Rattle.tp_cli_audit.specs.declared.stop_lines.PlanAuditStop.TheVariants.{Auditing, Judging, Deordering}

abbrev pub audit_result : Result Bool AuditStop → Result Bool PlanAuditStop
audit_result (Ok b) = Ok b
audit_result (Err stop) = Err (Auditing stop)

-- ---- against the network of a plan

-- what keeps an audit from an answer
abbrev pub HindersNet : PlanNet → JournalHead → Option (List ℕ) → AuditStop → Type 0
HindersNet net head input Open = Unit {0}
HindersNet net head input Network = Unit {0}
HindersNet net head input Memory = Unit {0}
HindersNet net head input Read = Unit {0}
HindersNet net head input (Line n) = BreaksLog input n
HindersNet net head input Head = IsOtherNetHead net head input
HindersNet net head input Write = ⊥

-- what was found was written, which is that the file is a journal or that it is none
abbrev pub SaysNet : PlanNet → JournalHead → Option (List ℕ) → Option (List ℕ) → Option (List ℕ)
    → Bool → Type 0
SaysNet net head input before now true =
    (pairs : ℕ) × IsNetFound net head input (found.Journal pairs)
    × Appends before now (found_line (found.Journal pairs))
SaysNet net head input before now false =
    (n : ℕ) × IsNetFound net head input (found.Wrong n)
    × Appends before now (found_line (found.Wrong n))

-- why nothing, or not all, was written
abbrev pub StopsNet : PlanNet → JournalHead → Option (List ℕ) → Option (List ℕ) → Option (List ℕ)
    → AuditStop → Type 0
StopsNet net head input before now Open = now ≡ before
StopsNet net head input before now Network = now ≡ before
StopsNet net head input before now Memory = now ≡ before
StopsNet net head input before now Read = now ≡ before
StopsNet net head input before now (Line n) = BreaksLog input n × (now ≡ before)
StopsNet net head input before now Head = IsOtherNetHead net head input × (now ≡ before)
StopsNet net head input before now Write =
    (f : Found) × IsNetFound net head input f × AppendsPart before now (found_line f)

-- ---- of the steps of a plan

abbrev pub SaysSteps : Task → List Step → ℕ → JournalHead → Option (List ℕ) → Option (List ℕ)
    → Option (List ℕ) → Bool → Type 0
SaysSteps task steps horizon head input before now true =
    (pairs : ℕ) × SaysFound task steps horizon head input before now (found.Journal pairs)
SaysSteps task steps horizon head input before now false =
    (n : ℕ) × SaysFound task steps horizon head input before now (found.Wrong n)

abbrev pub StopsStepsBy : Task → List Step → ℕ → JournalHead → Option (List ℕ) → Option (List ℕ)
    → Option (List ℕ) → AuditStop → Type 0
StopsStepsBy task steps horizon head input before now Open = now ≡ before
StopsStepsBy task steps horizon head input before now Network = now ≡ before
StopsStepsBy task steps horizon head input before now Memory = now ≡ before
StopsStepsBy task steps horizon head input before now Read = now ≡ before
StopsStepsBy task steps horizon head input before now (Line n) =
    BreaksLog input n × (now ≡ before)
StopsStepsBy task steps horizon head input before now Head =
    IsOtherPlanHead task steps horizon head input × (now ≡ before)
StopsStepsBy task steps horizon head input before now Write =
    (f : Found) × IsPlanFound task steps horizon head input f
    × AppendsPart before now (found_line f)

abbrev pub StopsSteps : Task → List Step → ℕ → JournalHead → Option (List ℕ) → Option (List ℕ)
    → Option (List ℕ) → PlanAuditStop → Type 0
StopsSteps task steps horizon head input before now (Auditing stop) =
    StopsStepsBy task steps horizon head input before now stop
StopsSteps task steps horizon head input before now (Judging fault) = ⊥
StopsSteps task steps horizon head input before now (Deordering fault) =
    OnTooMany fault (PassesLimits (greatest_limits horizon) task steps) × (now ≡ before)

-- ---- of a verdict

-- of a plan that is valid; of another, its first fault was written
abbrev pub SaysVerdict : Verdict → ℕ → JournalHead → Option (List ℕ) → Option (List ℕ)
    → Option (List ℕ) → Bool → Type 0
SaysVerdict (Valid plan) horizon head input before now b =
    SaysSteps plan.task plan.steps horizon head input before now b
SaysVerdict (Invalid plan tick why) horizon head input before now b =
    (b ≡ false) × Appends before now (invalid_line tick why)

abbrev pub StopsVerdict : Verdict → ℕ → JournalHead → Option (List ℕ) → Option (List ℕ)
    → Option (List ℕ) → PlanAuditStop → Type 0
StopsVerdict (Valid plan) horizon head input before now stop =
    StopsSteps plan.task plan.steps horizon head input before now stop
StopsVerdict (Invalid plan tick why) horizon head input before now stop =
    (stop ≡ Auditing Write) × AppendsPart before now (invalid_line tick why)

-- ---- of the plan that the words name

abbrev pub SaysHeaded : (List ℕ → Option (List ℕ)) → PlanWords → JournalHead → Option (List ℕ)
    → Option (List ℕ) → Option (List ℕ) → Bool → Type 0
SaysHeaded held w head input before now true =
    RunsNamed held w (λ task steps.
    (pairs : ℕ) × SaysFound task steps w.horizon head input before now (found.Journal pairs))
SaysHeaded held w head input before now false =
    SaysInvalid held w before now ⊎ RunsNamed held w (λ task steps.
    (n : ℕ) × SaysFound task steps w.horizon head input before now (found.Wrong n))

abbrev pub StopsHeadedBy : (List ℕ → Option (List ℕ)) → PlanWords → JournalHead → Option (List ℕ)
    → Option (List ℕ) → Option (List ℕ) → AuditStop → Type 0
StopsHeadedBy held w head input before now Open = now ≡ before
StopsHeadedBy held w head input before now Network = now ≡ before
StopsHeadedBy held w head input before now Memory = now ≡ before
StopsHeadedBy held w head input before now Read = now ≡ before
StopsHeadedBy held w head input before now (Line n) = BreaksLog input n × (now ≡ before)
StopsHeadedBy held w head input before now Head =
    RunsNamed held w (λ task steps. IsOtherPlanHead task steps w.horizon head input)
    × (now ≡ before)
StopsHeadedBy held w head input before now Write =
    SaysInvalidPart held w before now ⊎ RunsNamed held w (λ task steps.
    (f : Found) × IsPlanFound task steps w.horizon head input f
    × AppendsPart before now (found_line f))

abbrev pub StopsHeaded : (List ℕ → Option (List ℕ)) → PlanWords → JournalHead → Option (List ℕ)
    → Option (List ℕ) → Option (List ℕ) → PlanAuditStop → Type 0
StopsHeaded held w head input before now (Auditing stop) =
    StopsHeadedBy held w head input before now stop
StopsHeaded held w head input before now (Judging fault) = Explains held w fault × (now ≡ before)
StopsHeaded held w head input before now (Deordering fault) =
    RunsNamed held w (λ task steps. OnTooMany fault
    (PassesLimits (greatest_limits w.horizon) task steps)) × (now ≡ before)
