-- The picture of the plan that the words name, and why there is none.
use Rattle.std.proofs.Common.{◌≡◌, ◌∙◌, ◌≤◌, ℕ, List, [], Option, Some, None, Bool, inl, inr, ap, refl, subst, sym}
use Rattle.std.specs.Prelude.{Result, Ok, Err, IfErr, IfSome, option_map}
use Rattle.std.specs.Io.KnownBytes.{Appends}
use Rattle.std.proofs.KnownBytes.{Appends-nil}
use Rattle.tp_device.specs.Bytes.{AppendsPart}
use Rattle.tp_bounds.specs.RunLimits.{greatest_limits}
use Rattle.tp_bounds.specs.declared.plan_nets.PlanNet.{PlanNet}
use Rattle.tp_task.specs.declared.task.Task.{Task}
use Rattle.tp_happen.specs.tp_plan_text.declared.plans.Step.{Step}
use Rattle.tp_validate.specs.OfTask.{IsValidPlan}
use Rattle.tp_validate.specs.declared.verdicts.Verdict.{Verdict}
use Rattle.tp_validate.specs.declared.verdicts.Verdict.TheVariants as verdict
use Rattle.tp_deorder.specs.Answers.{IsPlanNetOf}
use Rattle.tp_journal.specs.Telling.{IsHeadTold}
use Rattle.tp_journal.specs.declared.faults.JournalHead.{JournalHead}
use Rattle.tp_cli_files.specs.Causes.{counted, raised}
use Rattle.tp_cli_files.specs.FaultLines.{Tells}
use Rattle.tp_cli_inputs.specs.Named.{IsNamedPlan}
use Rattle.tp_cli_run.proofs.RunLemmas.{Judged}
use Rattle.tp_cli_run.proofs.StatusLemmas.{IsStatus, judge_is, network_is, three}
use Rattle.tp_cli_audit.specs.AuditLines.{stop_status}
use Rattle.tp_cli_audit.specs.Audits.{HindersHead}
use Rattle.tp_cli_audit.proofs.AuditLemmas as audits
use Rattle.tp_cli_audit.specs.declared.audit_lines.AuditStop.{AuditStop}
use Rattle.tp_cli_audit.specs.declared.audit_lines.AuditStop.TheVariants as audit
use Rattle.tp_cli_audit.specs.declared.auditing.Found.TheVariants as found
use Rattle.tp_cli_draw.specs.Draws.{DrawsPart, EndsDraw, FoundNamed, IsDrawn, IsStopped, NamesLog, StopsDraw, StopsLog, drawn_text}
use Rattle.tp_cli_draw.specs.Pictures.{DrawsJudged, DrawsLog, DrawsNet, DrawsVerdict, HindersJudged, HindersLog, HindersSteps, StopsNet, StopsReplay, StopsSteps, StopsVerdict}
use Rattle.tp_cli_draw.specs.Stops.{draw_failures, draw_status, draw_text, draw_unread}
use Rattle.tp_cli_draw.specs.Words.{plan_of}
use Rattle.tp_cli_draw.specs.declared.answers.Drawn.{Drawn}
use Rattle.tp_cli_draw.specs.declared.answers.Drawn.TheVariants.{Picture, Invalid, Wrong}
use Rattle.tp_cli_inputs.specs.declared.draw_words.DrawWords.{DrawWords}
use Rattle.tp_cli_draw.specs.declared.stops.DrawStop.{DrawStop}
use Rattle.tp_cli_draw.specs.declared.stops.DrawStop.TheVariants.{Judging, Network, Executive, Journal, Memory, Write}

-- ---- over the network of a plan

pub memory_stops : (task : Task) (steps : List Step) (stop : DrawStop) → stop ≡ Memory → StopsSteps task steps stop
memory_stops task steps stop is = subst (StopsSteps task steps) (sym is) tt

pub memory_replays : (stop : DrawStop) → stop ≡ Memory → StopsReplay stop
memory_replays stop is = subst StopsReplay (sym is) tt

pub replay_stops : (net : PlanNet) (head : JournalHead) (input : Option (List ℕ)) (stop : DrawStop) → StopsReplay stop → StopsNet net head input stop
replay_stops net head input (Judging fault) h = absurd h
replay_stops net head input (Network fault) h = absurd h
replay_stops net head input Executive h = tt
replay_stops net head input (Journal audit.Open) h = tt
replay_stops net head input (Journal audit.Network) h = absurd h
replay_stops net head input (Journal audit.Memory) h = tt
replay_stops net head input (Journal audit.Read) h = tt
replay_stops net head input (Journal (audit.Line n)) h = absurd h
replay_stops net head input (Journal audit.Head) h = absurd h
replay_stops net head input (Journal audit.Write) h = absurd h
replay_stops net head input Memory h = tt
replay_stops net head input Write h = absurd h

module _ (task : Task) (steps : List Step) (horizon : ℕ) (head : JournalHead) (input : Option (List ℕ)) (net : PlanNet) (is_net : IsPlanNetOf task steps (greatest_limits horizon) net) where
  pub steps_drawn : (drawn : Drawn) → DrawsNet net head input drawn → DrawsLog task steps horizon head input drawn
  steps_drawn (Picture text) h = (h.0, record { net = net; is_net = is_net; is = h.1 })
  steps_drawn (Invalid tick why) h = absurd h
  steps_drawn (Wrong n) h = record { net = net; is_net = is_net; is = h }

  log_hinders : (stop : AuditStop) → StopsNet net head input (Journal stop) → HindersLog task steps horizon head input stop
  log_hinders audit.Open h = tt
  log_hinders audit.Network h = tt
  log_hinders audit.Memory h = tt
  log_hinders audit.Read h = tt
  log_hinders (audit.Line n) h = h
  log_hinders audit.Head h = record { net = net; is_net = is_net; other = h }
  log_hinders audit.Write h = absurd h

  pub steps_hindered : (stop : DrawStop) → StopsNet net head input stop → HindersSteps task steps horizon head input stop
  steps_hindered (Judging fault) h = absurd h
  steps_hindered (Network fault) h = absurd h
  steps_hindered Executive h = tt
  steps_hindered (Journal stop) h = log_hinders stop h
  steps_hindered Memory h = tt
  steps_hindered Write h = absurd h

-- ---- from a verdict to the words, without a journal

no_log : (w : DrawWords) (log : List ℕ) → w.journal ≡ None → NamesLog w log → ⊥
no_log w log none named =
    let is : None ≡ Some log = sym (ap (option_map (λ s. s.now)) none) ∙ named in
    cc

module _ (held : List ℕ → Option (List ℕ)) (w : DrawWords) (h : ℕ) (task : Task) where
  invalid_drawn : (drawn : Drawn) (plan : List Step) (tick : ℕ) (why : _) → Judged held (plan_of w h) task (verdict.Invalid plan tick why) → drawn ≡ Invalid tick why → IsDrawn held w drawn
  invalid_drawn drawn plan tick why judged is =
      subst (IsDrawn held w) (sym is) (h, task, judged.0, judged.1, judged.2.1, judged.2.2)

  pub verdict_drawn : (v : Verdict) (drawn : Drawn) → w.journal ≡ None → Judged held (plan_of w h) task v → DrawsVerdict v drawn → IsDrawn held w drawn
  verdict_drawn (verdict.Valid plan) (Picture text) none judged d =
      ((h, (task, judged.0, judged.1, judged.2.2, tt)), λ log named. absurd (no_log w log none named))
  verdict_drawn (verdict.Valid plan) (Invalid tick why) none judged d = absurd d
  verdict_drawn (verdict.Valid plan) (Wrong n) none judged d = absurd d
  verdict_drawn (verdict.Invalid plan tick why) drawn none judged d = invalid_drawn drawn plan tick why judged d

  valid_stopped : (steps : List Step) (stop : DrawStop) → IsNamedPlan held (plan_of w h) task steps → IsValidPlan task steps → StopsSteps task steps stop → IsStopped held w stop
  valid_stopped steps (Judging fault) named valid s = absurd s
  valid_stopped steps (Network fault) named valid s = (h, (task, steps, named, valid, s))
  valid_stopped steps Executive named valid s = tt
  valid_stopped steps (Journal stop) named valid s = absurd s
  valid_stopped steps Memory named valid s = tt
  valid_stopped steps Write named valid s = absurd s

  pub verdict_stopped : (v : Verdict) (stop : DrawStop) → Judged held (plan_of w h) task v → StopsVerdict v stop → IsStopped held w stop
  verdict_stopped (verdict.Valid plan) stop judged s =
      valid_stopped judged.0 stop judged.1 judged.2.2
      (subst (λ (xs : List Step). StopsSteps task xs stop) judged.2.1
      (subst (λ (t : Task). StopsSteps t plan.steps stop) judged.2.0 s))
  verdict_stopped (verdict.Invalid plan tick why) stop judged s = absurd s

  -- ---- with a journal

  module _ (log : List ℕ) (named_log : NamesLog w log) (head : JournalHead) (told : IfSome (held log) (λ bytes. IsHeadTold bytes head)) where
    log_drawn : (steps : List Step) (drawn : Drawn) → IsNamedPlan held (plan_of w h) task steps → IsValidPlan task steps → DrawsLog task steps h head (held log) drawn → IsDrawn held w drawn
    log_drawn steps (Picture text) named valid d = (
      (h, (task, steps, named, valid, tt)),
      λ other is.
          let same : Some log ≡ Some other = sym named_log ∙ is in
          let at : log ≡ other = cc in
          (d.0, subst (λ l. FoundNamed held w l (found.Journal d.0)) at (head, told, (h, (task, steps, named, valid, d.1)))),
    )
    log_drawn steps (Invalid tick why) named valid d = absurd d
    log_drawn steps (Wrong n) named valid d = (log, named_log, (head, told, (h, (task, steps, named, valid, d))))

    pub judged_drawn : (v : Verdict) (drawn : Drawn) → Judged held (plan_of w h) task v → DrawsJudged v h head (held log) drawn → IsDrawn held w drawn
    judged_drawn (verdict.Valid plan) drawn judged d =
        log_drawn judged.0 drawn judged.1 judged.2.2
        (subst (λ (xs : List Step). DrawsLog task xs h head (held log) drawn) judged.2.1
        (subst (λ (t : Task). DrawsLog t plan.steps h head (held log) drawn) judged.2.0 d))
    judged_drawn (verdict.Invalid plan tick why) drawn judged d = invalid_drawn drawn plan tick why judged d

    log_stopped : (steps : List Step) (stop : AuditStop) → IsNamedPlan held (plan_of w h) task steps → IsValidPlan task steps → HindersLog task steps h head (held log) stop → StopsLog held w log stop
    log_stopped steps audit.Open named valid s = tt
    log_stopped steps audit.Network named valid s = tt
    log_stopped steps audit.Memory named valid s = tt
    log_stopped steps audit.Read named valid s = tt
    log_stopped steps (audit.Line n) named valid s = s
    log_stopped steps audit.Head named valid s = (head, told, (h, (task, steps, named, valid, s)))
    log_stopped steps audit.Write named valid s = absurd s

    steps_stopped : (steps : List Step) (stop : DrawStop) → IsNamedPlan held (plan_of w h) task steps → IsValidPlan task steps → HindersSteps task steps h head (held log) stop → IsStopped held w stop
    steps_stopped steps (Judging fault) named valid s = absurd s
    steps_stopped steps (Network fault) named valid s = (h, (task, steps, named, valid, (h, s)))
    steps_stopped steps Executive named valid s = tt
    steps_stopped steps (Journal stop) named valid s = (log, named_log, log_stopped steps stop named valid s)
    steps_stopped steps Memory named valid s = tt
    steps_stopped steps Write named valid s = absurd s

    pub judged_stopped : (v : Verdict) (stop : DrawStop) → Judged held (plan_of w h) task v → HindersJudged v h head (held log) stop → IsStopped held w stop
    judged_stopped (verdict.Valid plan) stop judged s =
        steps_stopped judged.0 stop judged.1 judged.2.2
        (subst (λ (xs : List Step). HindersSteps task xs h head (held log) stop) judged.2.1
        (subst (λ (t : Task). HindersSteps t plan.steps h head (held log) stop) judged.2.0 s))
    judged_stopped (verdict.Invalid plan tick why) stop judged s = absurd s

log_head_stops : (held : List ℕ → Option (List ℕ)) (w : DrawWords) (log : List ℕ) (stop : AuditStop) → HindersHead (held log) stop → StopsLog held w log stop
log_head_stops held w log audit.Open h = tt
log_head_stops held w log audit.Network h = tt
log_head_stops held w log audit.Memory h = tt
log_head_stops held w log audit.Read h = tt
log_head_stops held w log (audit.Line n) h = h
log_head_stops held w log audit.Head h = absurd h
log_head_stops held w log audit.Write h = absurd h

pub head_stops : (held : List ℕ → Option (List ℕ)) (w : DrawWords) (log : List ℕ) (stop : AuditStop) → NamesLog w log → HindersHead (held log) stop → IsStopped held w (Journal stop)
head_stops held w log stop named h = (log, named, log_head_stops held w log stop h)

-- ---- how it ends

pub stops : (held : List ℕ → Option (List ℕ)) (w : DrawWords) (before : Option (List ℕ)) (stop : DrawStop) → IsStopped held w stop → StopsDraw held w before before stop
stops held w before (Judging fault) h = (h, refl)
stops held w before (Network fault) h = (h, refl)
stops held w before Executive h = (h, refl)
stops held w before (Journal stop) h = (h, refl)
stops held w before Memory h = (h, refl)
stops held w before Write h = absurd h

pub counts : (held : List ℕ → Option (List ℕ)) (w : DrawWords) (n : ℕ) (stop : DrawStop) → IsStopped held w stop → n ≡ draw_failures {T = Bool} n (Err stop)
counts held w n (Judging fault) h = refl
counts held w n (Network fault) h = refl
counts held w n Executive h = refl
counts held w n (Journal stop) h = refl
counts held w n Memory h = refl
counts held w n Write h = absurd h

pub stops_writing : (held : List ℕ → Option (List ℕ)) (w : DrawWords) (before now : Option (List ℕ)) (drawn : Drawn) (stop : DrawStop) → IsDrawn held w drawn → (stop ≡ Write) × AppendsPart before now (drawn_text drawn) → StopsDraw held w before now stop
stops_writing held w before now drawn stop is h = subst (StopsDraw held w before now) (sym h.0) (drawn, is, h.1)

none_then : (before now : Option (List ℕ)) → now ≡ before → Appends before now []
none_then before now same = subst (λ n. Appends before n []) (sym same) (Appends-nil before)

pub part_then : (held : List ℕ → Option (List ℕ)) (w : DrawWords) (before now : Option (List ℕ)) (stop : DrawStop) → StopsDraw held w before now stop → DrawsPart held w before now
part_then held w before now (Judging fault) h = inl (none_then before now h.1)
part_then held w before now (Network fault) h = inl (none_then before now h.1)
part_then held w before now Executive h = inl (none_then before now h.1)
part_then held w before now (Journal stop) h = inl (none_then before now h.1)
part_then held w before now Memory h = inl (none_then before now h.1)
part_then held w before now Write h = inr h

pub kept_then : (held : List ℕ → Option (List ℕ)) (w : DrawWords) (before now : Option (List ℕ)) (stop : DrawStop) → StopsDraw held w before now stop → draw_status stop ≡ 2 → now ≡ before
kept_then held w before now (Judging fault) h two = h.1
kept_then held w before now (Network fault) h two = h.1
kept_then held w before now Executive h two = h.1
kept_then held w before now (Journal stop) h two = h.1
kept_then held w before now Memory h two = h.1
kept_then held w before now Write h two = cc

any_type : (n : ℕ) (stop : DrawStop) → draw_failures {T = Bool} n (Err stop) ≡ draw_failures {T = Unit {0}} n (Err stop)
any_type n (Judging fault) = refl
any_type n (Network fault) = refl
any_type n Executive = refl
any_type n (Journal stop) = refl
any_type n Memory = refl
any_type n Write = refl

no_write : (n : ℕ) (stop : DrawStop) → (draw_status stop ≡ 3 → ⊥) → draw_failures {T = Unit {0}} n (Err stop) ≡ n
no_write n (Judging fault) other = refl
no_write n (Network fault) other = refl
no_write n Executive other = refl
no_write n (Journal stop) other = refl
no_write n Memory other = refl
no_write n Write other = absurd (other refl)

stop_is : (stop : DrawStop) → IsStatus (draw_status stop)
stop_is (Judging fault) = judge_is fault
stop_is (Network fault) = network_is fault
stop_is Executive = three
stop_is (Journal stop) = audits.within stop (stop_status stop) refl
stop_is Memory = three
stop_is Write = three

-- want of memory is no failure of a file
pub memory_counts : {T : Type 0} (r : Result T DrawStop) (n : ℕ) → IfErr r (λ stop. stop ≡ Memory) → counted draw_unread n r ≡ n
memory_counts (Ok x) n h = refl
memory_counts (Err stop) n h = ap (λ s. raised (draw_unread s) n) h

pub ends : (held : List ℕ → Option (List ℕ)) (w : DrawWords) (status : ℕ) (before now : Option (List ℕ)) (unread unread-now output output-now failures : ℕ) (said : Option (List ℕ)) (failures-now : ℕ) (said-now : Option (List ℕ)) (stop : DrawStop) (text : List ℕ) → StopsDraw held w before now stop → status ≡ draw_status stop → output-now ≡ draw_failures {T = Bool} output (Err stop) → unread-now ≡ raised (draw_unread stop) unread → text ≡ draw_text w stop → Tells text failures said failures-now said-now → EndsDraw held w status before now unread unread-now output output-now failures said failures-now said-now
ends held w status before now unread unread-now output output-now failures said failures-now said-now stop text cause is write opened line told =
    record {
      stop = stop;
      is = sym is;
      cause = cause;
      opened = opened;
      write = write ∙ any_type output stop;
      told = subst (λ (t : List ℕ). Tells t failures said failures-now said-now) line told;
    }

pub ends_told : (status output output-now : ℕ) (stop : DrawStop) → status ≡ draw_status stop → output-now ≡ draw_failures {T = Bool} output (Err stop) → (status ≡ 3 → ⊥) → output-now ≡ output
ends_told status output output-now stop is write other = write ∙ (any_type output stop ∙ no_write output stop (λ broken. other (is ∙ broken)))

pub ends_within : (status : ℕ) (stop : DrawStop) → status ≡ draw_status stop → status ≤ 3
ends_within status stop is = subst (λ n. n ≤ 3) (sym is) (stop_is stop).1

pub ends_status : (status : ℕ) (stop : DrawStop) → status ≡ draw_status stop → IsStatus status
ends_status status stop is = subst IsStatus (sym is) (stop_is stop)
