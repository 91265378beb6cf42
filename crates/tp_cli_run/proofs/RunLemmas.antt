-- The run of a plan, from its network to the words that name it.
use Rattle.std.proofs.Common.{◌≡◌, ◌∙◌, ℕ, List, [], take, Option, Some, None, Bool, true, false, ◌⊎◌, inl, inr, refl, subst, sym, arith}
use Rattle.std.specs.Prelude.{Result, Ok, Err, IfErr}
use Rattle.std.specs.Io.KnownBytes.{Appends}
use Rattle.std.proofs.KnownBytes.{Appends-trans, Appends-nil}
use Rattle.tp_bounds.specs.RunLimits.{greatest_limits}
use Rattle.tp_bounds.specs.declared.plan_nets.PlanNet.{PlanNet}
use Rattle.tp_task.specs.declared.task.Task.{Task}
use Rattle.tp_happen.specs.tp_plan_text.declared.plans.Step.{Step}
use Rattle.tp_validate.specs.Answers.{IsVerdict}
use Rattle.tp_validate.specs.OfTask.{IsValidPlan}
use Rattle.tp_validate.specs.declared.verdicts.Verdict.{Verdict}
use Rattle.tp_validate.specs.declared.verdicts.Verdict.TheVariants.{Valid, Invalid}
use Rattle.tp_deorder.specs.Answers.{IsPlanNetOf}
use Rattle.tp_exec_machine.specs.Machine.{Machine}
use Rattle.tp_script.specs.declared.serving.ServeFault.TheVariants as serving
use Rattle.tp_cli_files.specs.Causes.{raised}
use Rattle.tp_cli_files.specs.FaultLines.{Tells}
use Rattle.tp_cli_files.proofs.FaultLemmas.{whole_part}
use Rattle.tp_cli_bare.specs.ServeLines.{bare_status}
use Rattle.tp_cli_bare.specs.declared.bare.BareFault.{BareFault}
use Rattle.tp_cli_bare.specs.declared.bare.BareFault.TheVariants as bare
use Rattle.tp_cli_inputs.specs.Named.{IsNamedPlan}
use Rattle.tp_cli_inputs.specs.declared.plan_words.PlanWords.{PlanWords}
use Rattle.tp_cli_inputs.proofs.NamedLemmas.{Same, explains_over, plan_over}
use Rattle.tp_cli_run.specs.Answered.{AnswersPart, AnswersWhole, IsLong, IsTooLong, StopsAnswers}
use Rattle.tp_cli_run.specs.Ends.{RunsSteps, RunsVerdict, StopsSteps, StopsTelling, StopsVerdict, TellsRun}
use Rattle.tp_cli_run.specs.Invalid.{SaysInvalid, SaysInvalidPart}
use Rattle.tp_cli_run.specs.RunLines.{run_failures, run_reads, run_status, run_text, run_unread}
use Rattle.tp_cli_run.specs.Runs.{EndsRun, Runs, RunsNamed, RunsPart, StopsRun, run_lines}
use Rattle.tp_cli_run.proofs.StatusLemmas.{IsStatus, run_is}
use Rattle.tp_cli_run.specs.declared.run_lines.RunStop.{RunStop}
use Rattle.tp_cli_run.specs.declared.run_lines.RunStop.TheVariants.{Judging, Network, Answering, Write}

-- ---- the plan of a run behind the answers

module _ (task : Task) (steps : List Step) (horizon : ℕ) (net : PlanNet) (is_net : IsPlanNetOf task steps (greatest_limits horizon) net) (input before mid now : Option (List ℕ)) (last : Machine) (whole : AnswersWhole net input before mid last) where
  pub ran_steps : (done : Bool) → TellsRun task steps last mid now done → RunsSteps task steps horizon input before now done
  ran_steps true h =
      record {
        net = net;
        is_net = is_net;
        answers = whole.0;
        last = last;
        answered = whole.1;
        run = h.0;
        is = h.1;
        written = Appends-trans before mid now whole.0 (run_lines task h.0) whole.2 h.2;
      }
  ran_steps false h =
      record {
        net = net;
        is_net = is_net;
        answers = whole.0;
        last = last;
        answered = whole.1;
        none = h.0;
        written = subst (λ n. Appends before n whole.0) (sym h.1) whole.2;
      }

  pub stopped_steps : (stop : RunStop) → StopsTelling task steps last mid now stop → StopsSteps task steps horizon input before now stop
  stopped_steps (Judging fault) h = absurd h
  stopped_steps (Network fault) h = absurd h
  stopped_steps (Answering bare.Network) h =
      record { net = net; is_net = is_net; stops = inr (last, subst (λ n. AnswersWhole net input before n last) (sym h) whole) }
  stopped_steps (Answering (bare.Serving fault)) h = absurd h
  stopped_steps Write h =
      record {
        net = net;
        is_net = is_net;
        answers = whole.0;
        last = last;
        answered = whole.1;
        run = h.0;
        is = h.1;
        count = h.2.count;
        within = h.2.within;
        written = Appends-trans before mid now whole.0 (take h.2.count (run_lines task h.0)) whole.2 h.2.held;
      }

-- ---- from a verdict to the words

-- the steps of the plan that the words name, and their verdict
abbrev pub Judged : (List ℕ → Option (List ℕ)) → PlanWords → Task → Verdict → Type 0
Judged held w task verdict = (steps : List Step) × IsNamedPlan held w task steps × IsVerdict task steps verdict

runs_steps : (held : List ℕ → Option (List ℕ)) (w : PlanWords) (task : Task) (steps : List Step) (input before now : Option (List ℕ)) (done : Bool) → IsNamedPlan held w task steps → IsVerdict task steps (Valid (record { task = task; steps = steps })) → RunsSteps task steps w.horizon input before now done → Runs held w input before now done
runs_steps held w task steps input before now true named is h = (task, steps, named, is.2, h)
runs_steps held w task steps input before now false named is h = inr (task, steps, named, is.2, h)

pub runs_named : (held : List ℕ → Option (List ℕ)) (w : PlanWords) (task : Task) (verdict : Verdict) (input before now : Option (List ℕ)) (done : Bool) → Judged held w task verdict → RunsVerdict verdict w.horizon input before now done → Runs held w input before now done
runs_named held w task (Valid plan) input before now done judged h =
    runs_steps held w task judged.0 input before now done judged.1 (refl, refl, judged.2.2)
    (subst (λ (s : List Step). RunsSteps task s w.horizon input before now done) judged.2.1
    (subst (λ (t : Task). RunsSteps t plan.steps w.horizon input before now done) judged.2.0 h))
runs_named held w task (Invalid plan tick why) input before now done judged h =
    subst (Runs held w input before now) (sym h.0)
    (inl (record { task = task; steps = judged.0; tick = tick; why = why; named = judged.1; first = judged.2.1; invalid = judged.2.2; written = h.1 }))

stops_steps : (held : List ℕ → Option (List ℕ)) (w : PlanWords) (task : Task) (steps : List Step) (input before now : Option (List ℕ)) (stop : RunStop) → IsNamedPlan held w task steps → IsVerdict task steps (Valid (record { task = task; steps = steps })) → StopsSteps task steps w.horizon input before now stop → StopsRun held w input before now stop
stops_steps held w task steps input before now (Judging fault) named is h = absurd h
stops_steps held w task steps input before now (Network fault) named is h = ((task, steps, named, is.2, h.0), h.1)
stops_steps held w task steps input before now (Answering fault) named is h = (task, steps, named, is.2, h)
stops_steps held w task steps input before now Write named is h = inr (task, steps, named, is.2, h)

pub stops_named : (held : List ℕ → Option (List ℕ)) (w : PlanWords) (task : Task) (verdict : Verdict) (input before now : Option (List ℕ)) (stop : RunStop) → Judged held w task verdict → StopsVerdict verdict w.horizon input before now stop → StopsRun held w input before now stop
stops_named held w task (Valid plan) input before now stop judged h =
    stops_steps held w task judged.0 input before now stop judged.1 (refl, refl, judged.2.2)
    (subst (λ (s : List Step). StopsSteps task s w.horizon input before now stop) judged.2.1
    (subst (λ (t : Task). StopsSteps t plan.steps w.horizon input before now stop) judged.2.0 h))
stops_named held w task (Invalid plan tick why) input before now stop judged h =
    subst (StopsRun held w input before now) (sym h.0)
    (inl (record { task = task; steps = judged.0; tick = tick; why = why; named = judged.1; first = judged.2.1; invalid = judged.2.2; part = h.1 }))

-- ---- the same of files that hold the same

pub named_over : (a b : List ℕ → Option (List ℕ)) (w : PlanWords) (ended : Task → List Step → Type 0) → Same a b → RunsNamed a w ended → RunsNamed b w ended
named_over a b w ended same h = (h.0, h.1, plan_over a b w h.0 h.1 same h.2, h.3, h.4)

pub invalid_over : (a b : List ℕ → Option (List ℕ)) (w : PlanWords) (before now : Option (List ℕ)) → Same a b → SaysInvalid a w before now → SaysInvalid b w before now
invalid_over a b w before now same h =
    record {
      task = h.task;
      steps = h.steps;
      tick = h.tick;
      why = h.why;
      named = plan_over a b w h.task h.steps same h.named;
      first = h.first;
      invalid = h.invalid;
      written = h.written;
    }

pub invalid_part_over : (a b : List ℕ → Option (List ℕ)) (w : PlanWords) (before now : Option (List ℕ)) → Same a b → SaysInvalidPart a w before now → SaysInvalidPart b w before now
invalid_part_over a b w before now same h =
    record {
      task = h.task;
      steps = h.steps;
      tick = h.tick;
      why = h.why;
      named = plan_over a b w h.task h.steps same h.named;
      first = h.first;
      invalid = h.invalid;
      part = h.part;
    }

pub runs_over : (a b : List ℕ → Option (List ℕ)) (w : PlanWords) (input before now : Option (List ℕ)) (done : Bool) → Same a b → Runs a w input before now done → Runs b w input before now done
runs_over a b w input before now true same h = named_over a b w _ same h
runs_over a b w input before now false same (inl h) = inl (invalid_over a b w before now same h)
runs_over a b w input before now false same (inr h) = inr (named_over a b w _ same h)

pub stops_over : (a b : List ℕ → Option (List ℕ)) (w : PlanWords) (input before now : Option (List ℕ)) (stop : RunStop) → Same a b → StopsRun a w input before now stop → StopsRun b w input before now stop
stops_over a b w input before now (Judging fault) same h = (explains_over a b w fault same h.0, h.1)
stops_over a b w input before now (Network fault) same h = (named_over a b w _ same h.0, h.1)
stops_over a b w input before now (Answering fault) same h = named_over a b w _ same h
stops_over a b w input before now Write same (inl h) = inl (invalid_part_over a b w before now same h)
stops_over a b w input before now Write same (inr h) = inr (named_over a b w _ same h)

-- ---- what was written by then

none_part : (held : List ℕ → Option (List ℕ)) (w : PlanWords) (input before now : Option (List ℕ)) → now ≡ before → RunsPart held w input before now
none_part held w input before now is = inl (subst (λ n. Appends before n []) (sym is) (Appends-nil before))

early_part : (held : List ℕ → Option (List ℕ)) (w : PlanWords) (input before now : Option (List ℕ)) (task : Task) (steps : List Step) (net : PlanNet) → IsNamedPlan held w task steps → IsValidPlan task steps → IsPlanNetOf task steps (greatest_limits w.horizon) net → AnswersPart net input before now → RunsPart held w input before now
early_part held w input before now task steps net named valid is h = inr (inr (task, steps, named, valid, inl (net, is, h)))

early : (held : List ℕ → Option (List ℕ)) (w : PlanWords) (input before now : Option (List ℕ)) (task : Task) (steps : List Step) (net : PlanNet) → IsNamedPlan held w task steps → IsValidPlan task steps → IsPlanNetOf task steps (greatest_limits w.horizon) net → (fault : BareFault) → StopsAnswers net input before now fault → RunsPart held w input before now
early held w input before now task steps net named valid is bare.Network (inl same) = none_part held w input before now same
early held w input before now task steps net named valid is bare.Network (inr h) =
    early_part held w input before now task steps net named valid is ([], h.1.0, h.0, h.1.1, whole_part before now h.1.0 h.1.2)
early held w input before now task steps net named valid is (bare.Serving serving.Read) (inl none) = inl none
early held w input before now task steps net named valid is (bare.Serving serving.Read) (inr h) =
    early_part held w input before now task steps net named valid is (h.0, h.1, h.2, h.3, whole_part before now h.1 h.4)
early held w input before now task steps net named valid is (bare.Serving serving.Write) h = early_part held w input before now task steps net named valid is h
early held w input before now task steps net named valid is (bare.Serving serving.Memory) h = none_part held w input before now h
early held w input before now task steps net named valid is (bare.Serving serving.TooLong) h =
    early_part held w input before now task steps net named valid is (h.0, h.1, h.2, h.4, whole_part before now h.1 h.5)
early held w input before now task steps net named valid is (bare.Serving serving.Head) h = none_part held w input before now h.1

pub part_then : (held : List ℕ → Option (List ℕ)) (w : PlanWords) (input before now : Option (List ℕ)) (stop : RunStop) → StopsRun held w input before now stop → RunsPart held w input before now
part_then held w input before now (Judging fault) h = none_part held w input before now h.1
part_then held w input before now (Network fault) h = none_part held w input before now h.1
part_then held w input before now (Answering fault) h = early held w input before now h.0 h.1 h.4.net h.2 h.3 h.4.is_net fault h.4.stops
part_then held w input before now Write (inl h) = inr (inl h)
part_then held w input before now Write (inr h) = inr (inr (h.0, h.1, h.2, h.3, inr h.4))

pub is_long : (input : Option (List ℕ)) (rest : List (List ℕ)) → IsTooLong input rest → IsLong input
is_long None rest h = tt
is_long (Some bytes) rest h = omega (arith, h.4, h.5)

early_kept : (net : PlanNet) (input before now : Option (List ℕ)) (fault : BareFault) → StopsAnswers net input before now fault → bare_status fault ≡ 2 → (now ≡ before) ⊎ IsLong input
early_kept net input before now bare.Network h two = cc
early_kept net input before now (bare.Serving serving.Read) h two = cc
early_kept net input before now (bare.Serving serving.Write) h two = cc
early_kept net input before now (bare.Serving serving.Memory) h two = cc
early_kept net input before now (bare.Serving serving.TooLong) h two = inr (is_long input h.0 h.3)
early_kept net input before now (bare.Serving serving.Head) h two = inl h.1

pub kept_then : (held : List ℕ → Option (List ℕ)) (w : PlanWords) (input before now : Option (List ℕ)) (stop : RunStop) → StopsRun held w input before now stop → run_status stop ≡ 2 → (now ≡ before) ⊎ IsLong input
kept_then held w input before now (Judging fault) h two = inl h.1
kept_then held w input before now (Network fault) h two = inl h.1
kept_then held w input before now (Answering fault) h two = early_kept h.4.net input before now fault h.4.stops two
kept_then held w input before now Write h two = cc

-- ---- how a run ends

any_type : (n : ℕ) (stop : RunStop) → run_failures {T = Bool} n (Err stop) ≡ run_failures {T = Unit {0}} n (Err stop)
any_type n (Judging fault) = refl
any_type n (Network fault) = refl
any_type n (Answering fault) = refl
any_type n Write = refl

no_write : (n : ℕ) (stop : RunStop) → (run_status stop ≡ 3 → ⊥) → run_failures {T = Unit {0}} n (Err stop) ≡ n
no_write n (Judging fault) other = refl
no_write n (Network fault) other = refl
no_write n (Answering bare.Network) other = refl
no_write n (Answering (bare.Serving serving.Read)) other = refl
no_write n (Answering (bare.Serving serving.Write)) other = absurd (other refl)
no_write n (Answering (bare.Serving serving.Memory)) other = refl
no_write n (Answering (bare.Serving serving.TooLong)) other = refl
no_write n (Answering (bare.Serving serving.Head)) other = refl
no_write n Write other = absurd (other refl)

any_reads : (n : ℕ) (stop : RunStop) → run_reads {T = Bool} n (Err stop) ≡ run_reads {T = Unit {0}} n (Err stop)
any_reads n (Judging fault) = refl
any_reads n (Network fault) = refl
any_reads n (Answering fault) = refl
any_reads n Write = refl

no_read : (n : ℕ) (stop : RunStop) → (run_status stop ≡ 3 → ⊥) → run_reads {T = Unit {0}} n (Err stop) ≡ n
no_read n (Judging fault) other = refl
no_read n (Network fault) other = refl
no_read n (Answering bare.Network) other = refl
no_read n (Answering (bare.Serving serving.Read)) other = absurd (other refl)
no_read n (Answering (bare.Serving serving.Write)) other = refl
no_read n (Answering (bare.Serving serving.Memory)) other = refl
no_read n (Answering (bare.Serving serving.TooLong)) other = refl
no_read n (Answering (bare.Serving serving.Head)) other = refl
no_read n Write other = refl

-- the telling of the plan of a run reads nothing
pub told_reads : (task : Task) (steps : List Step) (last : Machine) (before now : Option (List ℕ)) (told : Result Bool RunStop) (n : ℕ) → IfErr told (StopsTelling task steps last before now) → run_reads n told ≡ n
told_reads task steps last before now (Ok done) n h = refl
told_reads task steps last before now (Err (Judging fault)) n h = absurd h
told_reads task steps last before now (Err (Network fault)) n h = absurd h
told_reads task steps last before now (Err (Answering bare.Network)) n h = refl
told_reads task steps last before now (Err (Answering (bare.Serving fault))) n h = absurd h
told_reads task steps last before now (Err Write) n h = refl

pub ends : (held : List ℕ → Option (List ℕ)) (w : PlanWords) (status : ℕ) (input : Option (List ℕ)) (reads reads-now : ℕ) (before now : Option (List ℕ)) (unread unread-now output output-now failures : ℕ) (said : Option (List ℕ)) (failures-now : ℕ) (said-now : Option (List ℕ)) (stop : RunStop) (text : List ℕ) → StopsRun held w input before now stop → status ≡ run_status stop → output-now ≡ run_failures {T = Bool} output (Err stop) → reads-now ≡ run_reads {T = Bool} reads (Err stop) → unread-now ≡ raised (run_unread stop) unread → text ≡ run_text w stop → Tells text failures said failures-now said-now → EndsRun held w status input reads reads-now before now unread unread-now output output-now failures said failures-now said-now
ends held w status input reads reads-now before now unread unread-now output output-now failures said failures-now said-now stop text cause is write read opened line told =
    record {
      stop = stop;
      is = sym is;
      cause = cause;
      read = read ∙ any_reads reads stop;
      opened = opened;
      write = write ∙ any_type output stop;
      told = subst (λ (t : List ℕ). Tells t failures said failures-now said-now) line told;
    }

pub ends_told : (status output output-now : ℕ) (stop : RunStop) → status ≡ run_status stop → output-now ≡ run_failures {T = Bool} output (Err stop) → (status ≡ 3 → ⊥) → output-now ≡ output
ends_told status output output-now stop is write other = write ∙ (any_type output stop ∙ no_write output stop (λ broken. other (is ∙ broken)))

pub ends_heard : (status reads reads-now : ℕ) (stop : RunStop) → status ≡ run_status stop → reads-now ≡ run_reads {T = Bool} reads (Err stop) → (status ≡ 3 → ⊥) → reads-now ≡ reads
ends_heard status reads reads-now stop is read other = read ∙ (any_reads reads stop ∙ no_read reads stop (λ broken. other (is ∙ broken)))

pub ends_within : (status : ℕ) (stop : RunStop) → status ≡ run_status stop → IsStatus status
ends_within status stop is = subst IsStatus (sym is) (run_is stop)
