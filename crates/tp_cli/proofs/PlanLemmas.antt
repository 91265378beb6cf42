-- What is said of the plan that the words name, and why nothing is.
use Rattle.std.proofs.Common.{◌≡◌, ◌≤◌, ◌∙◌, ℕ, List, [], Option, Bool, ◌⊎◌, inl, inr, refl, subst, sym}
use Rattle.std.specs.Prelude.{Err}
use Rattle.std.specs.Io.KnownBytes.{Appends}
use Rattle.tp_device.specs.Bytes.{AppendsPart}
use Rattle.std.proofs.KnownBytes.{Appends-nil}
use Rattle.tp_bounds.specs.RunLimits.{RunLimits}
use Rattle.tp_task.specs.declared.task.Task.{Task}
use Rattle.tp_happen.specs.tp_plan_text.declared.plans.Step.{Step}
use Rattle.tp_validate.specs.Answers.{IsVerdict}
use Rattle.tp_validate.specs.declared.verdicts.Verdict.{Verdict}
use Rattle.tp_validate.specs.declared.verdicts.Verdict.TheVariants.{Valid, Invalid}
use Rattle.tp_deorder.specs.Answers.{IsPlanNetOf, OnTooMany, PassesLimits}
use Rattle.tp_deorder.specs.declared.DeorderFault.{DeorderFault}
use Rattle.tp_cli_files.specs.Causes.{raised}
use Rattle.tp_cli_files.specs.FaultLines.{Tells}
use Rattle.tp_cli.specs.Files.{IsJudged}
use Rattle.tp_cli.specs.Judgements.{IsJudgement, judgement_line}
use Rattle.tp_cli.specs.declared.judgements.Judgement.{Judgement}
use Rattle.tp_cli.specs.declared.judgements.Judgement.TheVariants as judgements
use Rattle.tp_cli_inputs.specs.Named.{IsNamedPlan}
use Rattle.tp_cli_inputs.specs.VerdictLines.{invalid_line}
use Rattle.tp_cli_inputs.specs.declared.plan_words.PlanWords.{PlanWords}
use Rattle.tp_cli_run.proofs.StatusLemmas.{IsStatus, judge_is, network_is, three}
use Rattle.tp_cli.specs.Checks.{IsVerdictLine, Says, StopsCheck, StopsLine, TellsJudgement}
use Rattle.tp_cli.specs.Networks.{Shows, ShowsVerdict, StopsNet, StopsShown, TellsNetwork}
use Rattle.tp_cli.specs.Stops.{EndsPlan, StopsOn, stop_failures, stop_status, stop_text, stop_unread}
use Rattle.tp_cli.specs.declared.stops.PlanStop.{PlanStop}
use Rattle.tp_cli.specs.declared.stops.PlanStop.TheVariants.{Judging, Network, Write}

pub says : (held : List ℕ → Option (List ℕ)) (w : PlanWords) (judgement : Judgement) (before now : Option (List ℕ)) (valid : Bool) → IsJudged held w judgement → TellsJudgement judgement before now valid → Says held w before now valid
says held w judgements.Valid before now valid h told =
    subst (Says held w before now) (sym told.0) (record { task = h.task; steps = h.steps; named = h.named; valid = h.judged; written = told.1 })
says held w (judgements.Invalid tick why) before now valid h told =
    subst (Says held w before now) (sym told.0)
    (record { task = h.task; steps = h.steps; tick = tick; why = why; named = h.named; first = h.judged.0; invalid = h.judged.1; written = told.1 })

line_is : (task : Task) (steps : List Step) (judgement : Judgement) → IsJudgement task steps judgement → IsVerdictLine task steps (judgement_line judgement)
line_is task steps judgements.Valid is = inl (is, refl)
line_is task steps (judgements.Invalid tick why) is = inr (tick, why, is.0, is.1, refl)

pub stops_line : (held : List ℕ → Option (List ℕ)) (w : PlanWords) (judgement : Judgement) (before now : Option (List ℕ)) (stop : PlanStop) → IsJudged held w judgement → StopsLine judgement before now stop → StopsCheck held w before now stop
stops_line held w judgement before now stop h told =
    subst (StopsCheck held w before now) (sym told.0) (h.task, h.steps, judgement_line judgement, h.named, line_is h.task h.steps judgement h.judged, told.1)

-- the steps of the plan that the words name, and their verdict
abbrev pub Judged : (List ℕ → Option (List ℕ)) → PlanWords → Task → Verdict → Type 0
Judged held w task verdict = (steps : List Step) × IsNamedPlan held w task steps × IsVerdict task steps verdict

pub shows : (held : List ℕ → Option (List ℕ)) (w : PlanWords) (task : Task) (verdict : Verdict) (before now : Option (List ℕ)) (valid : Bool) → Judged held w task verdict → ShowsVerdict verdict task.limits before now valid → Shows held w before now valid
shows held w task (Valid plan) before now valid judged told =
    let net = told.1.0 in
    subst (Shows held w before now) (sym told.0)
    (record {
      task = task;
      steps = judged.0;
      net = net;
      named = judged.1;
      is_net = subst (λ (l : RunLimits). IsPlanNetOf task judged.0 l net) judged.1.task_of.same_limits
          (subst (λ (s : List Step). IsPlanNetOf task s task.limits net) judged.2.1 (subst (λ (t : Task). IsPlanNetOf t plan.steps task.limits net) judged.2.0 told.1.1));
      written = told.1.2;
    })
shows held w task (Invalid plan tick why) before now valid judged told =
    subst (Shows held w before now) (sym told.0)
    (record { task = task; steps = judged.0; tick = tick; why = why; named = judged.1; first = judged.2.1; invalid = judged.2.2; written = told.1 })

pub stops_shown : (held : List ℕ → Option (List ℕ)) (w : PlanWords) (task : Task) (verdict : Verdict) (before now : Option (List ℕ)) (stop : PlanStop) → Judged held w task verdict → StopsShown verdict task.limits before now stop → StopsNet held w before now stop
stops_shown held w task (Valid plan) before now (Judging fault) judged told = absurd told
stops_shown held w task (Valid plan) before now (Network fault) judged told = (
  task,
  judged.0,
  judged.1,
  (
    judged.2.2,
    subst (λ (l : RunLimits). OnTooMany fault (PassesLimits l task judged.0)) judged.1.task_of.same_limits
        (subst (λ (s : List Step). OnTooMany fault (PassesLimits task.limits task s)) judged.2.1
        (subst (λ (t : Task). OnTooMany fault (PassesLimits task.limits t plan.steps)) judged.2.0 told.0)),
  ),
  told.1,
)
stops_shown held w task (Valid plan) before now Write judged told = (
  task,
  judged.0,
  told.0,
  judged.1,
  inl (subst (λ (l : RunLimits). TellsNetwork task judged.0 l told.0) judged.1.task_of.same_limits
      (subst (λ (s : List Step). TellsNetwork task s task.limits told.0) judged.2.1 (subst (λ (t : Task). TellsNetwork t plan.steps task.limits told.0) judged.2.0 told.1))),
  told.2,
)
stops_shown held w task (Invalid plan tick why) before now stop judged told =
    subst (StopsNet held w before now) (sym told.0)
    (task, judged.0, invalid_line tick why, judged.1, inr (tick, why, judged.2.1, judged.2.2, refl), told.1)

-- ---- what was written by then

-- nothing was written, or a first part of a text of the plan that the words name
abbrev pub PartOn : (Task → List Step → List ℕ → Type 0) → (List ℕ → Option (List ℕ)) → PlanWords → Option (List ℕ) → Option (List ℕ) → Type 0
PartOn tells held w before now =
    Appends before now [] ⊎ ((task : Task) × (steps : List Step) × (text : List ℕ) × IsNamedPlan held w task steps × tells task steps text × AppendsPart before now text)

pub part_then : (tells : Task → List Step → List ℕ → Type 0) (passes : Task → List Step → DeorderFault → Type 0) (held : List ℕ → Option (List ℕ)) (w : PlanWords) (before now : Option (List ℕ)) (stop : PlanStop) → StopsOn tells passes held w before now stop → PartOn tells held w before now
part_then tells passes held w before now (Judging fault) h = inl (subst (λ n. Appends before n []) (sym h.1) (Appends-nil before))
part_then tells passes held w before now (Network fault) h = inl (subst (λ n. Appends before n []) (sym h.4) (Appends-nil before))
part_then tells passes held w before now Write h = inr h

pub kept_then : (tells : Task → List Step → List ℕ → Type 0) (passes : Task → List Step → DeorderFault → Type 0) (held : List ℕ → Option (List ℕ)) (w : PlanWords) (before now : Option (List ℕ)) (stop : PlanStop) → StopsOn tells passes held w before now stop → stop_status stop ≡ 2 → now ≡ before
kept_then tells passes held w before now (Judging fault) h two = h.1
kept_then tells passes held w before now (Network fault) h two = h.4
kept_then tells passes held w before now Write h two = cc

pub any_type : (n : ℕ) (stop : PlanStop) → stop_failures {T = Bool} n (Err stop) ≡ stop_failures {T = Unit {0}} n (Err stop)
any_type n (Judging fault) = refl
any_type n (Network fault) = refl
any_type n Write = refl

pub no_write : (n : ℕ) (stop : PlanStop) → (stop_status stop ≡ 3 → ⊥) → stop_failures {T = Unit {0}} n (Err stop) ≡ n
no_write n (Judging fault) other = refl
no_write n (Network fault) other = refl
no_write n Write other = absurd (other refl)

-- ---- how a command ends

stop_is : (stop : PlanStop) → IsStatus (stop_status stop)
stop_is (Judging fault) = judge_is fault
stop_is (Network fault) = network_is fault
stop_is Write = three

pub ends : (tells : Task → List Step → List ℕ → Type 0) (passes : Task → List Step → DeorderFault → Type 0) (held : List ℕ → Option (List ℕ)) (w : PlanWords) (status : ℕ) (before now : Option (List ℕ)) (unread unread-now output output-now failures : ℕ) (said : Option (List ℕ)) (failures-now : ℕ) (said-now : Option (List ℕ)) (stop : PlanStop) (text : List ℕ) → StopsOn tells passes held w before now stop → status ≡ stop_status stop → output-now ≡ stop_failures {T = Bool} output (Err stop) → unread-now ≡ raised (stop_unread stop) unread → text ≡ stop_text w stop → Tells text failures said failures-now said-now → EndsPlan tells passes held w status before now unread unread-now output output-now failures said failures-now said-now
ends tells passes held w status before now unread unread-now output output-now failures said failures-now said-now stop text cause is write opened line told =
    record {
      stop = stop;
      is = sym is;
      cause = cause;
      opened = opened;
      write = write ∙ any_type output stop;
      told = subst (λ (t : List ℕ). Tells t failures said failures-now said-now) line told;
    }

pub ends_kept : (tells : Task → List Step → List ℕ → Type 0) (passes : Task → List Step → DeorderFault → Type 0) (held : List ℕ → Option (List ℕ)) (w : PlanWords) (status : ℕ) (before now : Option (List ℕ)) (stop : PlanStop) → StopsOn tells passes held w before now stop → status ≡ stop_status stop → status ≡ 2 → now ≡ before
ends_kept tells passes held w status before now stop cause is refused = kept_then tells passes held w before now stop cause (sym is ∙ refused)

pub ends_told : (status output output-now : ℕ) (stop : PlanStop) → status ≡ stop_status stop → output-now ≡ stop_failures {T = Bool} output (Err stop) → (status ≡ 3 → ⊥) → output-now ≡ output
ends_told status output output-now stop is write other = write ∙ (any_type output stop ∙ no_write output stop (λ broken. other (is ∙ broken)))

pub ends_within : (status : ℕ) (stop : PlanStop) → status ≡ stop_status stop → status ≤ 3
ends_within status stop is = subst (λ n. n ≤ 3) (sym is) (stop_is stop).1
