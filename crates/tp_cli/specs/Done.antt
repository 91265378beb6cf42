-- What was done, by the status with which a call ends.
use Rattle.std.specs.Prelude.{ℕ, List, [], Option, Some, None, true, false, ◌⊎◌}
use Rattle.std.specs.Io.KnownBytes.{Appends}
use Rattle.std.specs.String.{string_bytes}
use Rattle.tp_device.specs.Bytes.{AppendsPart}
use Rattle.tp_cli_bare.specs.Bare.{AnswersAll, AnswersPart}
use Rattle.tp_cli_audit.specs.Bare.{SaysAuditPart, SaysJournal, SaysWrong}
use Rattle.tp_cli_audit.specs.PlanAudits.{SaysPlanJournal, SaysPlanNo, WritesAuditPart}
use Rattle.tp_cli_run.specs.Invalid.{SaysInvalid}
use Rattle.tp_cli_run.specs.Runs.{RunsPart, RunsToNone, RunsToPlan}
use Rattle.tp_cli_plan.specs.Searches.{SaysNoPlan, SearchesPart, WritesPlan}
use Rattle.tp_cli_split.specs.Splits.{SplitsPart, WritesSplit}
use Rattle.tp_cli_run.specs.RunJournals.{LogsToNone, LogsToPlan}
use Rattle.tp_cli_draw.specs.Draws.{Draws, DrawsNo, DrawsPart}
use Rattle.tp_cli_audit.specs.BareResume.{ResumesBare, ResumesPart, SaysWrongOld}
use Rattle.tp_cli_audit.specs.RunResume.{ResumesRun, StopsEarly}
use Rattle.tp_cli.specs.CallFiles.{CallFiles, journal_file}
use Rattle.tp_cli.specs.Checks.{SaysPart, SaysValid}
use Rattle.tp_cli.specs.Journaled.{LogsSome, LogsTo}
use Rattle.tp_cli.specs.Networks.{ShowsNetwork, ShowsPart}
use Rattle.tp_cli_args.specs.Requests.{AsksFor}
use Rattle.tp_cli_args.specs.declared.requests.Request.{Request}
use Rattle.tp_cli_args.specs.declared.requests.Request.TheVariants.{Bare, BareLog, BareResume, Check, Net, Run, RunLog, RunResume, Plan, Audit, PlanAudit, Split, Part, Draw, Help}

-- all commands of the input were answered; the same, and their journal is in the file that was named for it; the same behind an earlier
-- journal, with all of it; the plan is valid and that was
-- written; its network was written; all commands of the input were answered on that network, and the plan of the run was written; a valid
-- plan of the problem was written; the file of a journal is one, and that was written; the intervals of a valid plan's events were written;
-- or the help was written
abbrev pub IsDone : Request → CallFiles → Option (List ℕ) → Option (List ℕ)
    → Option (List ℕ) → Type 0
IsDone Bare files input held now = AnswersAll input held now
IsDone (BareLog log) files input held now = LogsTo files log.now input held now
IsDone (BareResume old log) files input held now =
    ResumesBare (files.held old.now) input held now (journal_file log.now files)
IsDone (Check w) files input held now = SaysValid files.held w held now
IsDone (Net w) files input held now = ShowsNetwork files.held w held now
IsDone (Run w) files input held now = RunsToPlan files.held w input held now
IsDone (RunLog w log) files input held now =
    LogsToPlan files.held w input held now (journal_file log.now files)
IsDone (RunResume w old log) files input held now =
    ResumesRun files.held w old.now input held now (journal_file log.now files) true
IsDone (Plan w) files input held now = WritesPlan files.held w held now
IsDone (Audit log) files input held now = SaysJournal (files.held log.now) held now
IsDone (PlanAudit log w) files input held now =
    SaysPlanJournal files.held w (files.held log.now) held now
IsDone (Split w owners) files input held now = WritesSplit None files.held w owners.now held now
IsDone (Part w owners agent) files input held now =
    WritesSplit (Some agent) files.held w owners.now held now
IsDone (Draw w) files input held now = Draws files.held w held now
IsDone (Help text) files input held now = Appends held now (string_bytes text)

-- the words ask for something, and it was done
pub record DoesWhatIsAsked (words : List (List ℕ)) (files : CallFiles)
    (input held now : Option (List ℕ)) : Type 0 where
  pub request : Request
  pub asked : AsksFor words request
  pub done : IsDone request files input held now

-- the plan is not valid, and its first fault was written; all commands of the input were answered, and the run has no plan; no plan was
-- found, and it was written why; or an answer of a journal is not allowed, and that was written
abbrev pub IsAnsweredNo : Request → CallFiles → Option (List ℕ) → Option (List ℕ)
    → Option (List ℕ) → Type 0
IsAnsweredNo Bare files input held now = ⊥
IsAnsweredNo (BareLog log) files input held now = ⊥
IsAnsweredNo (BareResume old log) files input held now =
    SaysWrongOld (files.held old.now) held now (journal_file log.now files)
IsAnsweredNo (Check w) files input held now = SaysInvalid files.held w held now
IsAnsweredNo (Net w) files input held now = SaysInvalid files.held w held now
IsAnsweredNo (Run w) files input held now = RunsToNone files.held w input held now
IsAnsweredNo (RunLog w log) files input held now =
    LogsToNone files.held w input held now (journal_file log.now files)
IsAnsweredNo (RunResume w old log) files input held now =
    ResumesRun files.held w old.now input held now (journal_file log.now files) false
IsAnsweredNo (Plan w) files input held now = SaysNoPlan files.held w held now
IsAnsweredNo (Audit log) files input held now = SaysWrong (files.held log.now) held now
IsAnsweredNo (PlanAudit log w) files input held now =
    SaysPlanNo files.held w (files.held log.now) held now
IsAnsweredNo (Split w owners) files input held now = SaysInvalid files.held w held now
IsAnsweredNo (Part w owners agent) files input held now = SaysInvalid files.held w held now
IsAnsweredNo (Draw w) files input held now = DrawsNo files.held w held now
IsAnsweredNo (Help text) files input held now = ⊥

-- the words ask for the verdict on a plan, for its network, for its run, for its split, for a plan or for an audit, and the answer is no
pub record AnswersNo (words : List (List ℕ)) (files : CallFiles)
    (input held now : Option (List ℕ)) : Type 0 where
  pub request : Request
  pub asked : AsksFor words request
  pub said : IsAnsweredNo request files input held now

-- some first part of that was done
abbrev pub IsPartDone : Request → CallFiles → Option (List ℕ) → Option (List ℕ)
    → Option (List ℕ) → Type 0
IsPartDone Bare files input held now = AnswersPart input held now
IsPartDone (BareLog log) files input held now = LogsSome files input held now
IsPartDone (BareResume old log) files input held now =
    ResumesPart (files.held old.now) input held now
IsPartDone (Check w) files input held now = SaysPart files.held w held now
IsPartDone (Net w) files input held now = ShowsPart files.held w held now
IsPartDone (Run w) files input held now = RunsPart files.held w input held now
IsPartDone (RunLog w log) files input held now = RunsPart files.held w input held now
IsPartDone (RunResume w old log) files input held now = StopsEarly held now
IsPartDone (Plan w) files input held now = SearchesPart files.held w held now
IsPartDone (Audit log) files input held now = SaysAuditPart (files.held log.now) held now
IsPartDone (PlanAudit log w) files input held now =
    WritesAuditPart files.held w (files.held log.now) held now
IsPartDone (Split w owners) files input held now =
    SplitsPart None files.held w owners.now held now
IsPartDone (Part w owners agent) files input held now =
    SplitsPart (Some agent) files.held w owners.now held now
IsPartDone (Draw w) files input held now = DrawsPart files.held w held now
IsPartDone (Help text) files input held now = AppendsPart held now (string_bytes text)

-- nothing was written, or the words ask for something, and some first part of it was written
abbrev pub DoesPart : List (List ℕ) → CallFiles → Option (List ℕ) → Option (List ℕ)
    → Option (List ℕ) → Type 0
DoesPart words files input held now =
    Appends held now []
    ⊎ ((request : Request) × AsksFor words request × IsPartDone request files input held now)
