-- What is drawn of a plan that is valid, and of a verdict; and what stops it.
use Rattle.std.specs.Prelude.{◌≡◌, ℕ, List, Option}
use Rattle.tp_bounds.specs.RunLimits.{greatest_limits}
use Rattle.tp_bounds.specs.declared.plan_nets.PlanNet.{PlanNet}
use Rattle.tp_task.specs.declared.task.Task.{Task}
use Rattle.tp_happen.specs.tp_plan_text.declared.plans.Step.{Step}
use Rattle.tp_validate.specs.declared.verdicts.Verdict.{Verdict}
use Rattle.tp_validate.specs.declared.verdicts.Verdict.TheVariants as verdict
use Rattle.tp_deorder.specs.Answers.{OnTooMany, PassesLimits}
use Rattle.tp_journal.specs.declared.faults.JournalHead.{JournalHead}
use Rattle.tp_cli_audit.specs.Audits.{BreaksLog}
use Rattle.tp_cli_audit.specs.Ends.{HindersNet}
use Rattle.tp_cli_audit.specs.PlanAudits.{IsNetFound, IsOtherPlanHead, IsPlanFound}
use Rattle.tp_cli_audit.specs.declared.audit_lines.AuditStop.{AuditStop}
use Rattle.tp_cli_audit.specs.declared.audit_lines.AuditStop.TheVariants as audit
use Rattle.tp_cli_audit.specs.declared.auditing.Found.TheVariants as found
use Rattle.tp_cli_draw.specs.declared.answers.Drawn.{Drawn}
use Rattle.tp_cli_draw.specs.declared.answers.Drawn.TheVariants.{Picture, Invalid, Wrong}
use Rattle.tp_cli_draw.specs.declared.stops.DrawStop.{DrawStop}
use Rattle.tp_cli_draw.specs.declared.stops.DrawStop.TheVariants.{Judging, Network, Executive, Journal, Memory, Write}

-- ---- the plan alone

-- its network has too many bounds, or memory ran out
abbrev pub StopsSteps : Task → List Step → DrawStop → Type 0
StopsSteps task steps (Judging fault) = ⊥
StopsSteps task steps (Network fault) =
    (most : ℕ) × OnTooMany fault (PassesLimits (greatest_limits most) task steps)
StopsSteps task steps Executive = Unit {0}
StopsSteps task steps (Journal stop) = ⊥
StopsSteps task steps Memory = Unit {0}
StopsSteps task steps Write = ⊥

-- a picture of a valid plan, and the first fault of another
abbrev pub DrawsVerdict : Verdict → Drawn → Type 0
DrawsVerdict (verdict.Valid plan) (Picture text) = Unit {0}
DrawsVerdict (verdict.Valid plan) (Invalid tick why) = ⊥
DrawsVerdict (verdict.Valid plan) (Wrong n) = ⊥
DrawsVerdict (verdict.Invalid plan tick why) drawn = drawn ≡ Invalid tick why

abbrev pub StopsVerdict : Verdict → DrawStop → Type 0
StopsVerdict (verdict.Valid plan) stop = StopsSteps plan.task plan.steps stop
StopsVerdict (verdict.Invalid plan tick why) stop = ⊥

-- ---- the run of a journal

-- a file that was found to be a journal was not read again, or memory ran out
abbrev pub StopsReplay : DrawStop → Type 0
StopsReplay (Judging fault) = ⊥
StopsReplay (Network fault) = ⊥
StopsReplay Executive = Unit {0}
StopsReplay (Journal audit.Open) = Unit {0}
StopsReplay (Journal audit.Network) = ⊥
StopsReplay (Journal audit.Memory) = Unit {0}
StopsReplay (Journal audit.Read) = Unit {0}
StopsReplay (Journal (audit.Line n)) = ⊥
StopsReplay (Journal audit.Head) = ⊥
StopsReplay (Journal audit.Write) = ⊥
StopsReplay Memory = Unit {0}
StopsReplay Write = ⊥

-- a picture where the file is a journal of the network's run, and else the line of the answer that
-- is not allowed
abbrev pub DrawsNet : PlanNet → JournalHead → Option (List ℕ) → Drawn → Type 0
DrawsNet net head input (Picture text) =
    (pairs : ℕ) × IsNetFound net head input (found.Journal pairs)
DrawsNet net head input (Invalid tick why) = ⊥
DrawsNet net head input (Wrong n) = IsNetFound net head input (found.Wrong n)

abbrev pub StopsNet : PlanNet → JournalHead → Option (List ℕ) → DrawStop → Type 0
StopsNet net head input (Judging fault) = ⊥
StopsNet net head input (Network fault) = ⊥
StopsNet net head input Executive = Unit {0}
StopsNet net head input (Journal stop) = HindersNet net head input stop
StopsNet net head input Memory = Unit {0}
StopsNet net head input Write = ⊥

-- the same of the network of a plan of these steps
abbrev pub DrawsLog : Task → List Step → ℕ → JournalHead → Option (List ℕ) → Drawn → Type 0
DrawsLog task steps h head input (Picture text) =
    (pairs : ℕ) × IsPlanFound task steps h head input (found.Journal pairs)
DrawsLog task steps h head input (Invalid tick why) = ⊥
DrawsLog task steps h head input (Wrong n) = IsPlanFound task steps h head input (found.Wrong n)

abbrev pub HindersLog : Task → List Step → ℕ → JournalHead → Option (List ℕ) → AuditStop → Type 0
HindersLog task steps h head input audit.Open = Unit {0}
HindersLog task steps h head input audit.Network = Unit {0}
HindersLog task steps h head input audit.Memory = Unit {0}
HindersLog task steps h head input audit.Read = Unit {0}
HindersLog task steps h head input (audit.Line n) = BreaksLog input n
HindersLog task steps h head input audit.Head = IsOtherPlanHead task steps h head input
HindersLog task steps h head input audit.Write = ⊥

abbrev pub HindersSteps : Task → List Step → ℕ → JournalHead → Option (List ℕ) → DrawStop → Type 0
HindersSteps task steps h head input (Judging fault) = ⊥
HindersSteps task steps h head input (Network fault) =
    OnTooMany fault (PassesLimits (greatest_limits h) task steps)
HindersSteps task steps h head input Executive = Unit {0}
HindersSteps task steps h head input (Journal stop) = HindersLog task steps h head input stop
HindersSteps task steps h head input Memory = Unit {0}
HindersSteps task steps h head input Write = ⊥

-- of a verdict
abbrev pub DrawsJudged : Verdict → ℕ → JournalHead → Option (List ℕ) → Drawn → Type 0
DrawsJudged (verdict.Valid plan) h head input drawn =
    DrawsLog plan.task plan.steps h head input drawn
DrawsJudged (verdict.Invalid plan tick why) h head input drawn = drawn ≡ Invalid tick why

abbrev pub HindersJudged : Verdict → ℕ → JournalHead → Option (List ℕ) → DrawStop → Type 0
HindersJudged (verdict.Valid plan) h head input stop =
    HindersSteps plan.task plan.steps h head input stop
HindersJudged (verdict.Invalid plan tick why) h head input stop = ⊥
