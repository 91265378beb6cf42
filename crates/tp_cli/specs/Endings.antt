-- How a call ends with another status than 0 and 1: what stopped it was told, and it is as it is told.
use Rattle.std.specs.Prelude.{◌≡◌, ℕ, List, ◌++◌, Option, Some, None, ◌⊎◌}
use Rattle.std.specs.String.{string_bytes}
use Rattle.tp_device.specs.Bytes.{AppendsPart}
use Rattle.tp_cli_files.specs.FaultLines.{Tells, line_of}
use Rattle.tp_cli_files.specs.declared.faults.Fault.TheVariants as faults
use Rattle.tp_cli_bare.specs.Bare.{StopsBare}
use Rattle.tp_cli_bare.specs.Logged.{EndsJournaled}
use Rattle.tp_cli_audit.specs.Bare.{EndsBareAudit}
use Rattle.tp_cli_audit.specs.PlanAudits.{EndsPlanAudit}
use Rattle.tp_cli_run.specs.Runs.{EndsRun}
use Rattle.tp_cli_plan.specs.SearchStops.{EndsSearch}
use Rattle.tp_cli_split.specs.Splits.{EndsSplit}
use Rattle.tp_cli_run.specs.RunJournals.{EndsRunLog}
use Rattle.tp_cli_draw.specs.Draws.{EndsDraw}
use Rattle.tp_cli_audit.specs.BareResume.{EndsResumed}
use Rattle.tp_cli_audit.specs.RunResume.{EndsRunResumed}
use Rattle.tp_cli.specs.CallFiles.{CallFiles, journal_file}
use Rattle.tp_cli_run.specs.LogFile.{AskedOnce}
use Rattle.tp_cli.specs.Checks.{EndsCheck}
use Rattle.tp_cli.specs.Networks.{EndsNet}
use Rattle.tp_cli_args.specs.Requests.{AsksFor, AsksForNothing}
use Rattle.tp_cli_args.specs.declared.requests.Request.{Request}
use Rattle.tp_cli_args.specs.declared.requests.Request.TheVariants.{Bare, BareLog, BareResume, Check, Net, Run, RunLog, RunResume, Plan, Audit, PlanAudit, Split, Part, Draw, Help}

-- there was no memory for the words
pub record LacksMemory (status : ℕ) (held held-now : Option (List ℕ)) (output output-now : ℕ)
    (failures : ℕ) (before : Option (List ℕ)) (failures-now : ℕ)
    (now : Option (List ℕ)) : Type 0 where
  pub three : status ≡ 3
  pub kept : held-now ≡ held
  pub same : output-now ≡ output
  pub told : Tells (line_of faults.ArgumentsMemory) failures before failures-now now

-- the words are refused: they ask for nothing that can be done
pub record RefusesWords (words : List (List ℕ)) (status : ℕ) (held held-now : Option (List ℕ))
    (output output-now : ℕ) (failures : ℕ) (before : Option (List ℕ)) (failures-now : ℕ)
    (now : Option (List ℕ)) : Type 0 where
  pub two : status ≡ 2
  pub kept : held-now ≡ held
  pub same : output-now ≡ output
  pub more : List ℕ
  pub told : Tells (line_of faults.ArgumentsWords ++ more) failures before failures-now now
  pub nothing : AsksForNothing words

-- help was not written whole
pub record StopsHelp (text : List ℕ) (status : ℕ) (held held-now : Option (List ℕ)) (failures : ℕ)
    (before : Option (List ℕ)) (failures-now : ℕ) (now : Option (List ℕ)) : Type 0 where
  pub three : status ≡ 3
  pub part : AppendsPart held held-now text
  pub told : Tells (line_of faults.ScriptWrite) failures before failures-now now

-- how what is asked for ends
abbrev pub EndsRequest : Request → CallFiles → Option (List ℕ) → ℕ → ℕ → ℕ
    → Option (List ℕ) → Option (List ℕ) → ℕ → ℕ → ℕ → Option (List ℕ) → ℕ → Option (List ℕ) → Type 0
EndsRequest Bare files input reads reads-now status held held-now output output-now failures before
    failures-now now
    = StopsBare status input reads reads-now held held-now output output-now failures before
    failures-now now
EndsRequest (BareLog log) files input reads reads-now status held held-now output output-now
    failures before failures-now now
    = EndsJournaled status input reads reads-now held held-now files.blank files.kept log.now
    files.named files.logs files.logs_now output output-now failures before failures-now now
    × AskedOnce (journal_file log.now files)
EndsRequest (BareResume old log) files input reads reads-now status held held-now output output-now
    failures before failures-now now
    = EndsResumed (files.held old.now) old.now status input reads reads-now held held-now
    (journal_file log.now files) files.unread files.unread_now files.logs files.logs_now
    output output-now failures before failures-now now
EndsRequest (Check w) files input reads reads-now status held held-now output output-now failures
    before failures-now now
    = EndsCheck files.held w status held held-now files.unread files.unread_now output output-now
    failures before failures-now now
EndsRequest (Net w) files input reads reads-now status held held-now output output-now failures
    before failures-now now
    = EndsNet files.held w status held held-now files.unread files.unread_now output output-now
    failures before failures-now now
EndsRequest (Run w) files input reads reads-now status held held-now output output-now failures
    before failures-now now
    = EndsRun files.held w status input reads reads-now held held-now files.unread files.unread_now
    output output-now failures before failures-now now
EndsRequest (RunLog w log) files input reads reads-now status held held-now output output-now
    failures before failures-now now
    = EndsRunLog files.held w status input reads reads-now held held-now (journal_file log.now files)
    files.unread files.unread_now files.logs files.logs_now output output-now failures before
    failures-now now
EndsRequest (RunResume w old log) files input reads reads-now status held held-now output output-now
    failures before failures-now now
    = EndsRunResumed w old.now status reads reads-now held held-now (journal_file log.now files)
    files.unread files.unread_now files.logs files.logs_now output output-now failures before
    failures-now now
EndsRequest (Plan w) files input reads reads-now status held held-now output output-now failures
    before failures-now now
    = EndsSearch files.held w status held held-now files.unread files.unread_now output output-now
    failures before failures-now now
EndsRequest (Audit log) files input reads reads-now status held held-now output output-now failures
    before failures-now now
    = EndsBareAudit (files.held log.now) log.now status held held-now files.unread files.unread_now
    output output-now failures before failures-now now
EndsRequest (PlanAudit log w) files input reads reads-now status held held-now output output-now
    failures before failures-now now
    = EndsPlanAudit files.held w log.now status (files.held log.now) held held-now files.unread
    files.unread_now output output-now failures before failures-now now
EndsRequest (Split w owners) files input reads reads-now status held held-now output output-now
    failures before failures-now now
    = EndsSplit None files.held w owners.now status held held-now files.unread files.unread_now
    output output-now failures before failures-now now
EndsRequest (Part w owners agent) files input reads reads-now status held held-now output output-now
    failures before failures-now now
    = EndsSplit (Some agent) files.held w owners.now status held held-now files.unread
    files.unread_now output output-now failures before failures-now now
EndsRequest (Draw w) files input reads reads-now status held held-now output output-now failures
    before failures-now now
    = EndsDraw files.held w status held held-now files.unread files.unread_now output output-now
    failures before failures-now now
EndsRequest (Help text) files input reads reads-now status held held-now output output-now failures
    before failures-now now
    = StopsHelp (string_bytes text) status held held-now failures before failures-now now

abbrev pub EndsCall : List (List ℕ) → CallFiles → Option (List ℕ) → ℕ → ℕ → ℕ
    → Option (List ℕ) → Option (List ℕ) → ℕ → ℕ → ℕ → Option (List ℕ) → ℕ → Option (List ℕ) → Type 0
EndsCall words files input reads reads-now status held held-now output output-now failures before
    failures-now now =
    RefusesWords words status held held-now output output-now failures before failures-now now
    ⊎ (LacksMemory status held held-now output output-now failures before failures-now now
    ⊎ ((request : Request) × AsksFor words request × EndsRequest request files input reads reads-now
    status held held-now output output-now failures before failures-now now))

-- the same of commands on a network of bounds alone, whose words are never refused
abbrev pub EndsBare : Option (List ℕ) → ℕ → ℕ → ℕ → Option (List ℕ) → Option (List ℕ) → ℕ → ℕ → ℕ
    → Option (List ℕ) → ℕ → Option (List ℕ) → Type 0
EndsBare input reads reads-now status held held-now output output-now failures before failures-now
    now = StopsBare status input reads reads-now held held-now output output-now failures before
    failures-now now
    ⊎ LacksMemory status held held-now output output-now failures before failures-now now
