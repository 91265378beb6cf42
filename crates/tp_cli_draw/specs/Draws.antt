-- The picture of the plan in a file, or of its run up to the end of a journal. Of the picture
-- itself nothing is said.
use Rattle.std.specs.Prelude.{◌≡◌, ℕ, List, [], Option, Some, Bool, true, false, Err, ◌⊎◌, option_map}
use Rattle.std.specs.String.{string_bytes}
use Rattle.std.specs.Io.KnownBytes.{Appends}
use Rattle.tp_device.specs.Bytes.{AppendsPart}
use Rattle.tp_bounds.specs.RunLimits.{greatest_limits}
use Rattle.tp_task.specs.declared.task.Task.{Task}
use Rattle.tp_happen.specs.tp_plan_text.declared.plans.Step.{Step}
use Rattle.tp_validate.specs.Answers.{IsFirst}
use Rattle.tp_validate.specs.OfTask.{IsValidPlan}
use Rattle.tp_validate.specs.declared.ticks.Fault.{Fault}
use Rattle.tp_deorder.specs.Answers.{OnTooMany, PassesLimits}
use Rattle.tp_cli_files.specs.Causes.{raised}
use Rattle.tp_cli_files.specs.FaultLines.{Tells}
use Rattle.tp_cli_inputs.specs.Causes.{Explains}
use Rattle.tp_cli_inputs.specs.Named.{IsNamedPlan}
use Rattle.tp_cli_inputs.specs.VerdictLines.{invalid_line}
use Rattle.tp_cli_run.specs.Runs.{RunsNamed}
use Rattle.tp_cli_audit.specs.Audits.{BreaksLog, found_line}
use Rattle.tp_cli_audit.specs.PlanAudits.{IsOtherPlanHead, IsPlanFound, WithHead}
use Rattle.tp_cli_audit.specs.declared.audit_lines.AuditStop.{AuditStop}
use Rattle.tp_cli_audit.specs.declared.audit_lines.AuditStop.TheVariants as audit
use Rattle.tp_cli_audit.specs.declared.auditing.Found.{Found}
use Rattle.tp_cli_audit.specs.declared.auditing.Found.TheVariants as found
use Rattle.tp_cli_draw.specs.Stops.{draw_failures, draw_status, draw_text, draw_unread}
use Rattle.tp_cli_draw.specs.Words.{plan_of}
use Rattle.tp_cli_draw.specs.declared.answers.Drawn.{Drawn}
use Rattle.tp_cli_draw.specs.declared.answers.Drawn.TheVariants.{Picture, Invalid, Wrong}
use Rattle.tp_cli_inputs.specs.declared.draw_words.DrawWords.{DrawWords}
use Rattle.tp_cli_draw.specs.declared.stops.DrawStop.{DrawStop}
use Rattle.tp_cli_draw.specs.declared.stops.DrawStop.TheVariants.{Judging, Network, Executive, Journal, Memory, Write}

-- ---- what is drawn

-- the plan that the words name, read with some horizon, is valid, and this holds of it
abbrev pub ValidNamed : (List ℕ → Option (List ℕ)) → DrawWords
    → (ℕ → Task → List Step → Type 0) → Type 0
ValidNamed held w then = (h : ℕ) × RunsNamed held (plan_of w h) (then h)

-- the plan that the words name, read with some horizon, is not valid, and this is its first fault
abbrev pub InvalidNamed : (List ℕ → Option (List ℕ)) → DrawWords → ℕ → Fault → Type 0
InvalidNamed held w tick why =
    (h : ℕ) × (task : Task) × (steps : List Step) × IsNamedPlan held (plan_of w h) task steps
    × IsFirst task steps tick why × (¬ IsValidPlan task steps)

-- the words name this file of a journal
abbrev pub NamesLog : DrawWords → List ℕ → Type 0
NamesLog w log = option_map (λ s. s.now) w.journal ≡ Some log

-- a journal that is named was found to be so, against the plan that the words name, which is valid
abbrev pub FoundNamed : (List ℕ → Option (List ℕ)) → DrawWords → List ℕ → Found → Type 0
FoundNamed held w log f =
    WithHead (held log) (λ head. ValidNamed held w (λ h task steps.
    IsPlanFound task steps h head (held log) f))

-- the plan is valid, and a journal that is named is one of the run of its network; the plan is not
-- valid; or an answer of the journal is not allowed
abbrev pub IsDrawn : (List ℕ → Option (List ℕ)) → DrawWords → Drawn → Type 0
IsDrawn held w (Picture text) =
    ValidNamed held w (λ h task steps. Unit {0})
    × ((log : List ℕ) → NamesLog w log → (pairs : ℕ) × FoundNamed held w log (found.Journal pairs))
IsDrawn held w (Invalid tick why) = InvalidNamed held w tick why
IsDrawn held w (Wrong n) = (log : List ℕ) × NamesLog w log × FoundNamed held w log (found.Wrong n)

-- ---- what stops it

-- what keeps the journal in a file from being drawn
abbrev pub StopsLog : (List ℕ → Option (List ℕ)) → DrawWords → List ℕ → AuditStop → Type 0
StopsLog held w log audit.Open = Unit {0}
StopsLog held w log audit.Network = Unit {0}
StopsLog held w log audit.Memory = Unit {0}
StopsLog held w log audit.Read = Unit {0}
StopsLog held w log (audit.Line n) = BreaksLog (held log) n
StopsLog held w log audit.Head =
    WithHead (held log) (λ head. ValidNamed held w (λ h task steps.
    IsOtherPlanHead task steps h head (held log)))
StopsLog held w log audit.Write = ⊥

-- why there is nothing to write
abbrev pub IsStopped : (List ℕ → Option (List ℕ)) → DrawWords → DrawStop → Type 0
IsStopped held w (Judging fault) = (h : ℕ) × Explains held (plan_of w h) fault
IsStopped held w (Network fault) =
    ValidNamed held w (λ h task steps. (most : ℕ)
    × OnTooMany fault (PassesLimits (greatest_limits most) task steps))
IsStopped held w Executive = Unit {0}
IsStopped held w (Journal stop) = (log : List ℕ) × NamesLog w log × StopsLog held w log stop
IsStopped held w Memory = Unit {0}
IsStopped held w Write = ⊥

-- ---- what is written

abbrev pub is_picture : Drawn → Bool
is_picture (Picture text) = true
is_picture (Invalid tick why) = false
is_picture (Wrong n) = false

abbrev pub drawn_text : Drawn → List ℕ
drawn_text (Picture text) = string_bytes text
drawn_text (Invalid tick why) = invalid_line tick why
drawn_text (Wrong n) = found_line (found.Wrong n)

-- it was written, and the answer is whether it is a picture
abbrev pub WritesDrawn : (List ℕ → Option (List ℕ)) → DrawWords → Option (List ℕ) → Option (List ℕ)
    → Bool → Type 0
WritesDrawn held w before now drew =
    (drawn : Drawn) × IsDrawn held w drawn × (drew ≡ is_picture drawn)
    × Appends before now (drawn_text drawn)

-- The plan that the words name is valid, a journal that they name is one of a run of its network,
-- and a text was written
abbrev pub Draws : (List ℕ → Option (List ℕ)) → DrawWords → Option (List ℕ) → Option (List ℕ)
    → Type 0
Draws held w before now = WritesDrawn held w before now true

-- the plan is not valid, and its first fault was written; or an answer of the journal is not
-- allowed, and the number of its line was
abbrev pub DrawsNo : (List ℕ → Option (List ℕ)) → DrawWords → Option (List ℕ) → Option (List ℕ)
    → Type 0
DrawsNo held w before now = WritesDrawn held w before now false

-- a first part of it was written
abbrev pub WritesSome : (List ℕ → Option (List ℕ)) → DrawWords → Option (List ℕ) → Option (List ℕ)
    → Type 0
WritesSome held w before now =
    (drawn : Drawn) × IsDrawn held w drawn × AppendsPart before now (drawn_text drawn)

-- nothing was written, or a first part
abbrev pub DrawsPart : (List ℕ → Option (List ℕ)) → DrawWords → Option (List ℕ) → Option (List ℕ)
    → Type 0
DrawsPart held w before now = Appends before now [] ⊎ WritesSome held w before now

-- why nothing was written, or not all
abbrev pub StopsDraw : (List ℕ → Option (List ℕ)) → DrawWords → Option (List ℕ) → Option (List ℕ)
    → DrawStop → Type 0
StopsDraw held w before now (Judging fault) = IsStopped held w (Judging fault) × (now ≡ before)
StopsDraw held w before now (Network fault) = IsStopped held w (Network fault) × (now ≡ before)
StopsDraw held w before now Executive = IsStopped held w Executive × (now ≡ before)
StopsDraw held w before now (Journal stop) = IsStopped held w (Journal stop) × (now ≡ before)
StopsDraw held w before now Memory = IsStopped held w Memory × (now ≡ before)
StopsDraw held w before now Write = WritesSome held w before now

-- It stopped so with that status, and that was told. A file that can't be read and a
-- failed write are ones that the counts of failures tell of.
pub record EndsDraw (held : List ℕ → Option (List ℕ)) (w : DrawWords) (status : ℕ)
    (before now : Option (List ℕ)) (unread unread-now : ℕ) (output output-now : ℕ) (failures : ℕ)
    (said : Option (List ℕ)) (failures-now : ℕ) (said-now : Option (List ℕ)) : Type 0 where
  pub stop : DrawStop
  pub is : draw_status stop ≡ status
  pub cause : StopsDraw held w before now stop
  pub opened : unread-now ≡ raised (draw_unread stop) unread
  pub write : output-now ≡ draw_failures {T = Unit {0}} output (Err stop)
  pub told : Tells (draw_text w stop) failures said failures-now said-now
