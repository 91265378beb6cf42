-- The run of a plan whose journal is kept, from its network to the words that name it.
use Rattle.std.proofs.Common.{◌≡◌, ◌∙◌, ℕ, List, [], take, Option, Bool, true, false, ◌⊎◌, inl, inr, refl, subst, sym, ap}
use Rattle.std.specs.Prelude.{Result, Ok, Err, IfErr, IfOk}
use Rattle.std.specs.Io.KnownBytes.{Appends}
use Rattle.std.proofs.KnownBytes.{Appends-trans, Appends-nil}
use Rattle.tp_bounds.specs.RunLimits.{greatest_limits}
use Rattle.tp_bounds.specs.declared.plan_nets.PlanNet.{PlanNet}
use Rattle.tp_task.specs.declared.task.Task.{Task}
use Rattle.tp_happen.specs.tp_plan_text.declared.plans.Step.{Step}
use Rattle.tp_validate.specs.Answers.{IsVerdict}
use Rattle.tp_validate.specs.OfTask.{IsValidPlan}
use Rattle.tp_validate.specs.declared.verdicts.Verdict.{Verdict}
use Rattle.tp_validate.specs.declared.verdicts.Verdict.TheVariants.{Valid, Invalid}
use Rattle.tp_deorder.specs.Answers.{IsPlanNetOf}
use Rattle.tp_exec_machine.specs.Machine.{Machine}
use Rattle.tp_script.specs.declared.serving.ServeFault.TheVariants as serving
use Rattle.tp_journal_pairs.specs.declared.faults.JournalFault.TheVariants as journal
use Rattle.tp_cli_files.specs.Causes.{counted, raised}
use Rattle.tp_cli_files.specs.FaultLines.{Tells}
use Rattle.tp_cli_files.proofs.FaultLemmas.{whole_part}
use Rattle.tp_cli_bare.specs.declared.bare.BareFault.TheVariants as bare
use Rattle.tp_cli_bare.specs.JournalLines.{stop_status}
use Rattle.tp_cli_bare.specs.Logged.{input_failures, output_failures}
use Rattle.tp_cli_bare.specs.declared.journal_lines.JournalStop.{JournalStop}
use Rattle.tp_cli_bare.specs.declared.journal_lines.JournalStop.TheVariants.{Making, Beginning, Journaling}
use Rattle.tp_cli_inputs.specs.Named.{IsNamedPlan}
use Rattle.tp_cli_inputs.specs.declared.plan_words.PlanWords.{PlanWords}
use Rattle.tp_cli_inputs.proofs.NamedLemmas.{Same, explains_over}
use Rattle.tp_cli_run.specs.Answered.{AnswersPart, AnswersSome, IsLong}
use Rattle.tp_cli_run.specs.Ends.{StopsTelling, TellsRun}
use Rattle.tp_cli_run.specs.RunLines.{run_failures}
use Rattle.tp_cli_run.specs.Runs.{RunsPart, run_lines}
use Rattle.tp_cli_run.proofs.RunLemmas.{Judged, invalid_over, invalid_part_over, is_long, named_over}
use Rattle.tp_cli_run.proofs.StatusLemmas.{IsStatus, bare_is, judge_is, network_is, three, two}
use Rattle.tp_cli_run.specs.declared.run_lines.RunStop.{RunStop}
use Rattle.tp_cli_run.specs.declared.run_lines.RunStop.TheVariants as run
use Rattle.tp_cli_run.specs.JournaledEnds.{LogsSteps, LogsVerdict, StopsSteps, StopsVerdict, telling_stop, told_result}
use Rattle.tp_cli_run.specs.LogFile.{IsNamed, LogFile}
use Rattle.tp_cli_run.specs.Logged.{LogsWhole}
use Rattle.tp_cli_run.specs.RunJournals.{EndsRunLog, LogsTo, StopsInFile, StopsRunLog}
use Rattle.tp_cli_run.specs.StopLines.{run_stop_failures, run_stop_reads, run_stop_status, run_stop_text, run_stop_unread, run_stop_unlogged}
use Rattle.tp_cli_run.specs.declared.stop_lines.RunJournalStop.{RunJournalStop}
use Rattle.tp_cli_run.specs.declared.stop_lines.RunJournalStop.TheVariants.{Judging, Network, Journal, Telling, Write}

-- ---- the plan of a run behind the answers

module _ (task : Task) (steps : List Step) (horizon : ℕ) (net : PlanNet) (is_net : IsPlanNetOf task steps (greatest_limits horizon) net) (input before mid now : Option (List ℕ)) (file : LogFile) (last : Machine) (whole : LogsWhole net input before mid file.blank file.kept last) (named : IsNamed file) where
  ran_steps : (done : Bool) → TellsRun task steps last mid now done → LogsSteps task steps horizon input before now file done
  ran_steps true h =
      record {
        ends = record {
          net = net;
          is_net = is_net;
          answers = whole.text;
          last = last;
          answered = whole.answered;
          run = h.0;
          is = h.1;
          written = Appends-trans before mid now whole.text (run_lines task h.0) whole.written h.2;
        };
        logged = whole.journal;
        named = named;
      }
  ran_steps false h =
      record {
        ends = record {
          net = net;
          is_net = is_net;
          answers = whole.text;
          last = last;
          answered = whole.answered;
          none = h.0;
          written = subst (λ n. Appends before n whole.text) (sym h.1) whole.written;
        };
        logged = whole.journal;
        named = named;
      }

  stopped_steps : (stop : RunStop) → StopsTelling task steps last mid now stop → StopsSteps task steps horizon input before now file (telling_stop stop)
  stopped_steps (run.Judging fault) h = absurd h
  stopped_steps (run.Network fault) h = absurd h
  stopped_steps (run.Answering bare.Network) h =
      record {
        net = net;
        is_net = is_net;
        last = last;
        whole = subst (λ n. LogsWhole net input before n file.blank file.kept last) (sym h) whole;
        named = named;
      }
  stopped_steps (run.Answering (bare.Serving fault)) h = absurd h
  stopped_steps run.Write h =
      record {
        ends = record {
          net = net;
          is_net = is_net;
          answers = whole.text;
          last = last;
          answered = whole.answered;
          run = h.0;
          is = h.1;
          count = h.2.count;
          within = h.2.within;
          written = Appends-trans before mid now whole.text (take h.2.count (run_lines task h.0)) whole.written h.2.held;
        };
        logged = whole.journal;
        named = named;
      }

  pub said_steps : (told : Result Bool RunStop) (r : Result Bool RunJournalStop) → r ≡ told_result told → IfOk told (TellsRun task steps last mid now) → IfOk r (LogsSteps task steps horizon input before now file)
  said_steps (Ok done) r is h = subst (λ q. IfOk q (LogsSteps task steps horizon input before now file)) (sym is) (ran_steps done h)
  said_steps (Err stop) r is h = subst (λ q. IfOk q (LogsSteps task steps horizon input before now file)) (sym is) tt

  pub unsaid_steps : (told : Result Bool RunStop) (r : Result Bool RunJournalStop) → r ≡ told_result told → IfErr told (StopsTelling task steps last mid now) → IfErr r (StopsSteps task steps horizon input before now file)
  unsaid_steps (Ok done) r is h = subst (λ q. IfErr q (StopsSteps task steps horizon input before now file)) (sym is) tt
  unsaid_steps (Err stop) r is h = subst (λ q. IfErr q (StopsSteps task steps horizon input before now file)) (sym is) (stopped_steps stop h)

count_telling : (task : Task) (steps : List Step) (last : Machine) (mid now : Option (List ℕ)) (stop : RunStop) (n : ℕ) → StopsTelling task steps last mid now stop → run_failures {T = Bool} n (Err stop) ≡ run_stop_failures {T = Bool} n (Err (telling_stop stop))
count_telling task steps last mid now (run.Judging fault) n h = absurd h
count_telling task steps last mid now (run.Network fault) n h = absurd h
count_telling task steps last mid now (run.Answering bare.Network) n h = refl
count_telling task steps last mid now (run.Answering (bare.Serving fault)) n h = absurd h
count_telling task steps last mid now run.Write n h = refl

pub counted_telling : (task : Task) (steps : List Step) (last : Machine) (mid now : Option (List ℕ)) (told : Result Bool RunStop) (r : Result Bool RunJournalStop) (n m : ℕ) → r ≡ told_result told → IfErr told (StopsTelling task steps last mid now) → m ≡ run_failures n told → m ≡ run_stop_failures n r
counted_telling task steps last mid now (Ok done) r n m is h count = subst (λ q. m ≡ run_stop_failures n q) (sym is) count
counted_telling task steps last mid now (Err stop) r n m is h count = subst (λ q. m ≡ run_stop_failures n q) (sym is) (count ∙ count_telling task steps last mid now stop n h)

-- ---- from a verdict to the words

logs_steps : (held : List ℕ → Option (List ℕ)) (w : PlanWords) (task : Task) (steps : List Step) (input before now : Option (List ℕ)) (file : LogFile) (done : Bool) → IsNamedPlan held w task steps → IsVerdict task steps (Valid (record { task = task; steps = steps })) → LogsSteps task steps w.horizon input before now file done → LogsTo held w input before now file done
logs_steps held w task steps input before now file true named is h = (task, steps, named, is.2, h)
logs_steps held w task steps input before now file false named is h = inr (task, steps, named, is.2, h)

pub logs_named : (held : List ℕ → Option (List ℕ)) (w : PlanWords) (task : Task) (verdict : Verdict) (input before now : Option (List ℕ)) (file : LogFile) (done : Bool) → Judged held w task verdict → LogsVerdict verdict w.horizon input before now file done → LogsTo held w input before now file done
logs_named held w task (Valid plan) input before now file done judged h =
    logs_steps held w task judged.0 input before now file done judged.1 (refl, refl, judged.2.2)
    (subst (λ (s : List Step). LogsSteps task s w.horizon input before now file done) judged.2.1
    (subst (λ (t : Task). LogsSteps t plan.steps w.horizon input before now file done) judged.2.0 h))
logs_named held w task (Invalid plan tick why) input before now file done judged h =
    subst (LogsTo held w input before now file) (sym h.0)
    (inl (record { task = task; steps = judged.0; tick = tick; why = why; named = judged.1; first = judged.2.1; invalid = judged.2.2; written = h.1 }, h.2))

stops_steps : (held : List ℕ → Option (List ℕ)) (w : PlanWords) (task : Task) (steps : List Step) (input before now : Option (List ℕ)) (file : LogFile) (stop : RunJournalStop) → IsNamedPlan held w task steps → IsVerdict task steps (Valid (record { task = task; steps = steps })) → StopsSteps task steps w.horizon input before now file stop → StopsRunLog held w input before now file stop
stops_steps held w task steps input before now file (Judging fault) named is h = absurd h
stops_steps held w task steps input before now file (Network fault) named is h = ((task, steps, named, is.2, h.0), h.1, h.2)
stops_steps held w task steps input before now file (Journal stop) named is h = (task, steps, named, is.2, h)
stops_steps held w task steps input before now file Telling named is h = (task, steps, named, is.2, h)
stops_steps held w task steps input before now file Write named is h = inr (task, steps, named, is.2, h)

pub stops_named : (held : List ℕ → Option (List ℕ)) (w : PlanWords) (task : Task) (verdict : Verdict) (input before now : Option (List ℕ)) (file : LogFile) (stop : RunJournalStop) → Judged held w task verdict → StopsVerdict verdict w.horizon input before now file stop → StopsRunLog held w input before now file stop
stops_named held w task (Valid plan) input before now file stop judged h =
    stops_steps held w task judged.0 input before now file stop judged.1 (refl, refl, judged.2.2)
    (subst (λ (s : List Step). StopsSteps task s w.horizon input before now file stop) judged.2.1
    (subst (λ (t : Task). StopsSteps t plan.steps w.horizon input before now file stop) judged.2.0 h))
stops_named held w task (Invalid plan tick why) input before now file stop judged h =
    subst (StopsRunLog held w input before now file) (sym h.0)
    (inl (record { task = task; steps = judged.0; tick = tick; why = why; named = judged.1; first = judged.2.1; invalid = judged.2.2; part = h.1 }, h.2))

-- ---- the same of files that hold the same

pub logs_over : (a b : List ℕ → Option (List ℕ)) (w : PlanWords) (input before now : Option (List ℕ)) (file : LogFile) (done : Bool) → Same a b → LogsTo a w input before now file done → LogsTo b w input before now file done
logs_over a b w input before now file true same h = named_over a b w _ same h
logs_over a b w input before now file false same (inl h) = inl (invalid_over a b w before now same h.0, h.1)
logs_over a b w input before now file false same (inr h) = inr (named_over a b w _ same h)

pub stops_over : (a b : List ℕ → Option (List ℕ)) (w : PlanWords) (input before now : Option (List ℕ)) (file : LogFile) (stop : RunJournalStop) → Same a b → StopsRunLog a w input before now file stop → StopsRunLog b w input before now file stop
stops_over a b w input before now file (Judging fault) same h = (explains_over a b w fault same h.0, h.1, h.2)
stops_over a b w input before now file (Network fault) same h = (named_over a b w _ same h.0, h.1, h.2)
stops_over a b w input before now file (Journal stop) same h = named_over a b w _ same h
stops_over a b w input before now file Telling same h = named_over a b w _ same h
stops_over a b w input before now file Write same (inl h) = inl (invalid_part_over a b w before now same h.0, h.1)
stops_over a b w input before now file Write same (inr h) = inr (named_over a b w _ same h)

-- ---- what was written by then

none_part : (held : List ℕ → Option (List ℕ)) (w : PlanWords) (input before now : Option (List ℕ)) → now ≡ before → RunsPart held w input before now
none_part held w input before now is = inl (subst (λ n. Appends before n []) (sym is) (Appends-nil before))

module _ (held : List ℕ → Option (List ℕ)) (w : PlanWords) (input before now : Option (List ℕ)) (task : Task) (steps : List Step) (net : PlanNet) (named : IsNamedPlan held w task steps) (valid : IsValidPlan task steps) (is : IsPlanNetOf task steps (greatest_limits w.horizon) net) where
  early_part : AnswersPart net input before now → RunsPart held w input before now
  early_part h = inr (inr (task, steps, named, valid, inl (net, is, h)))

  early_some : AnswersSome net input before now → RunsPart held w input before now
  early_some (inl none) = inl none
  early_some (inr h) = early_part (h.0, h.1, h.2, h.3, whole_part before now h.1 h.4)

  untold : (log logged : Option (List ℕ)) (last : Machine) → LogsWhole net input before now log logged last → RunsPart held w input before now
  untold log logged last whole =
      early_part ([], whole.text, last, whole.answered, whole_part before now whole.text whole.written)

  early : (file : LogFile) (stop : JournalStop) → StopsInFile net input before now file stop → RunsPart held w input before now
  early file Making h = none_part held w input before now h.0
  early file (Beginning fault) h = none_part held w input before now h.1.1
  early file (Journaling journal.Read) h = early_some h.1.0
  early file (Journaling journal.Write) h = early_part h.1.0
  early file (Journaling journal.Log) h = early_some h.1.0
  early file (Journaling journal.TooLong) h =
      let most = h.1.0 in
      early_part (most.0, most.1, most.2, most.4, whole_part before now most.1 most.5)

pub part_then : (held : List ℕ → Option (List ℕ)) (w : PlanWords) (input before now : Option (List ℕ)) (file : LogFile) (stop : RunJournalStop) → StopsRunLog held w input before now file stop → RunsPart held w input before now
part_then held w input before now file (Judging fault) h = none_part held w input before now h.1
part_then held w input before now file (Network fault) h = none_part held w input before now h.1
part_then held w input before now file (Journal stop) h = early held w input before now h.0 h.1 h.4.net h.2 h.3 h.4.is_net file stop h.4.stops
part_then held w input before now file Telling h = untold held w input before now h.0 h.1 h.4.net h.2 h.3 h.4.is_net file.blank file.kept h.4.last h.4.whole
part_then held w input before now file Write (inl h) = inr (inl h.0)
part_then held w input before now file Write (inr h) = inr (inr (h.0, h.1, h.2, h.3, inr h.4.ends))

early_kept : (net : PlanNet) (input before now : Option (List ℕ)) (file : LogFile) (stop : JournalStop) → StopsInFile net input before now file stop → stop_status stop ≡ 2 → (now ≡ before) ⊎ IsLong input
early_kept net input before now file Making h two = inl h.0
early_kept net input before now file (Beginning fault) h two = inl h.1.1
early_kept net input before now file (Journaling journal.Read) h two = cc
early_kept net input before now file (Journaling journal.Write) h two = cc
early_kept net input before now file (Journaling journal.Log) h two = cc
early_kept net input before now file (Journaling journal.TooLong) h two = inr (is_long input h.1.0.0 h.1.0.3)

pub kept_then : (held : List ℕ → Option (List ℕ)) (w : PlanWords) (input before now : Option (List ℕ)) (file : LogFile) (stop : RunJournalStop) → StopsRunLog held w input before now file stop → run_stop_status stop ≡ 2 → (now ≡ before) ⊎ IsLong input
kept_then held w input before now file (Judging fault) h two = inl h.1
kept_then held w input before now file (Network fault) h two = inl h.1
kept_then held w input before now file (Journal stop) h two = early_kept h.4.net input before now file stop h.4.stops two
kept_then held w input before now file Telling h two = cc
kept_then held w input before now file Write h two = cc

-- ---- how a run ends

no_journal_write : (n : ℕ) (stop : JournalStop) → (stop_status stop ≡ 3 → ⊥) → output_failures {T = Unit {0}} n (Err stop) ≡ n
no_journal_write n Making other = refl
no_journal_write n (Beginning bare.Network) other = refl
no_journal_write n (Beginning (bare.Serving serving.Read)) other = refl
no_journal_write n (Beginning (bare.Serving serving.Write)) other = refl
no_journal_write n (Beginning (bare.Serving serving.Memory)) other = refl
no_journal_write n (Beginning (bare.Serving serving.TooLong)) other = refl
no_journal_write n (Beginning (bare.Serving serving.Head)) other = refl
no_journal_write n (Journaling journal.Read) other = refl
no_journal_write n (Journaling journal.Write) other = absurd (other refl)
no_journal_write n (Journaling journal.Log) other = refl
no_journal_write n (Journaling journal.TooLong) other = refl

no_write : (n : ℕ) (stop : RunJournalStop) → (run_stop_status stop ≡ 3 → ⊥) → run_stop_failures {T = Unit {0}} n (Err stop) ≡ n
no_write n (Judging fault) other = refl
no_write n (Network fault) other = refl
no_write n (Journal stop) other = no_journal_write n stop other
no_write n Telling other = refl
no_write n Write other = absurd (other refl)

any_type : (n : ℕ) (stop : RunJournalStop) → run_stop_failures {T = Bool} n (Err stop) ≡ run_stop_failures {T = Unit {0}} n (Err stop)
any_type n (Judging fault) = refl
any_type n (Network fault) = refl
any_type n (Journal stop) = refl
any_type n Telling = refl
any_type n Write = refl

journal_is : (stop : JournalStop) → IsStatus (stop_status stop)
journal_is Making = three
journal_is (Beginning fault) = bare_is fault
journal_is (Journaling journal.Read) = three
journal_is (Journaling journal.Write) = three
journal_is (Journaling journal.Log) = three
journal_is (Journaling journal.TooLong) = two

stop_is : (stop : RunJournalStop) → IsStatus (run_stop_status stop)
stop_is (Judging fault) = judge_is fault
stop_is (Network fault) = network_is fault
stop_is (Journal stop) = journal_is stop
stop_is Telling = three
stop_is Write = three

any_reads : (n : ℕ) (stop : RunJournalStop) → run_stop_reads {T = Bool} n (Err stop) ≡ run_stop_reads {T = Unit {0}} n (Err stop)
any_reads n (Judging fault) = refl
any_reads n (Network fault) = refl
any_reads n (Journal stop) = refl
any_reads n Telling = refl
any_reads n Write = refl

no_journal_read : (n : ℕ) (stop : JournalStop) → (stop_status stop ≡ 3 → ⊥) → input_failures {T = Unit {0}} n (Err stop) ≡ n
no_journal_read n Making other = refl
no_journal_read n (Beginning bare.Network) other = refl
no_journal_read n (Beginning (bare.Serving serving.Read)) other = absurd (other refl)
no_journal_read n (Beginning (bare.Serving serving.Write)) other = refl
no_journal_read n (Beginning (bare.Serving serving.Memory)) other = refl
no_journal_read n (Beginning (bare.Serving serving.TooLong)) other = refl
no_journal_read n (Beginning (bare.Serving serving.Head)) other = refl
no_journal_read n (Journaling journal.Read) other = absurd (other refl)
no_journal_read n (Journaling journal.Write) other = refl
no_journal_read n (Journaling journal.Log) other = refl
no_journal_read n (Journaling journal.TooLong) other = refl

no_read : (n : ℕ) (stop : RunJournalStop) → (run_stop_status stop ≡ 3 → ⊥) → run_stop_reads {T = Unit {0}} n (Err stop) ≡ n
no_read n (Judging fault) other = refl
no_read n (Network fault) other = refl
no_read n (Journal stop) other = no_journal_read n stop other
no_read n Telling other = refl
no_read n Write other = refl

-- the telling of the plan of a run reads nothing
pub told_reads : (told : Result Bool RunStop) (r : Result Bool RunJournalStop) (n : ℕ) → r ≡ told_result told → run_stop_reads n r ≡ n
told_reads (Ok done) r n is = ap (run_stop_reads n) is
told_reads (Err (run.Judging fault)) r n is = ap (run_stop_reads n) is
told_reads (Err (run.Network fault)) r n is = ap (run_stop_reads n) is
told_reads (Err (run.Answering fault)) r n is = ap (run_stop_reads n) is
told_reads (Err run.Write) r n is = ap (run_stop_reads n) is

-- nor does it fail as a file or a journal
pub told_fails : (failed : RunJournalStop → Bool) → failed Telling ≡ false → failed Write ≡ false → (told : Result Bool RunStop) (r : Result Bool RunJournalStop) (n : ℕ) → r ≡ told_result told → counted failed n r ≡ n
told_fails failed telling write (Ok done) r n is = ap (counted failed n) is
told_fails failed telling write (Err (run.Judging fault)) r n is = ap (counted failed n) is ∙ ap (λ b. raised b n) telling
told_fails failed telling write (Err (run.Network fault)) r n is = ap (counted failed n) is ∙ ap (λ b. raised b n) telling
told_fails failed telling write (Err (run.Answering fault)) r n is = ap (counted failed n) is ∙ ap (λ b. raised b n) telling
told_fails failed telling write (Err run.Write) r n is = ap (counted failed n) is ∙ ap (λ b. raised b n) write

pub ends : (held : List ℕ → Option (List ℕ)) (w : PlanWords) (status : ℕ) (input : Option (List ℕ)) (reads reads-now : ℕ) (before now : Option (List ℕ)) (file : LogFile) (unread unread-now logs logs-now output output-now failures : ℕ) (said : Option (List ℕ)) (failures-now : ℕ) (said-now : Option (List ℕ)) (stop : RunJournalStop) (text : List ℕ) → StopsRunLog held w input before now file stop → status ≡ run_stop_status stop → output-now ≡ run_stop_failures {T = Bool} output (Err stop) → reads-now ≡ run_stop_reads {T = Bool} reads (Err stop) → unread-now ≡ raised (run_stop_unread stop) unread → logs-now ≡ raised (run_stop_unlogged stop) logs → text ≡ run_stop_text w stop → Tells text failures said failures-now said-now → EndsRunLog held w status input reads reads-now before now file unread unread-now logs logs-now output output-now failures said failures-now said-now
ends held w status input reads reads-now before now file unread unread-now logs logs-now output output-now failures said failures-now said-now stop text cause is write read opened log line told =
    record {
      stop = stop;
      is = sym is;
      cause = cause;
      read = read ∙ any_reads reads stop;
      opened = opened;
      journal = log;
      write = write ∙ any_type output stop;
      told = subst (λ (t : List ℕ). Tells t failures said failures-now said-now) line told;
    }

pub ends_told : (status output output-now : ℕ) (stop : RunJournalStop) → status ≡ run_stop_status stop → output-now ≡ run_stop_failures {T = Bool} output (Err stop) → (status ≡ 3 → ⊥) → output-now ≡ output
ends_told status output output-now stop is write other = write ∙ (any_type output stop ∙ no_write output stop (λ broken. other (is ∙ broken)))

pub ends_heard : (status reads reads-now : ℕ) (stop : RunJournalStop) → status ≡ run_stop_status stop → reads-now ≡ run_stop_reads {T = Bool} reads (Err stop) → (status ≡ 3 → ⊥) → reads-now ≡ reads
ends_heard status reads reads-now stop is read other = read ∙ (any_reads reads stop ∙ no_read reads stop (λ broken. other (is ∙ broken)))

pub ends_within : (status : ℕ) (stop : RunJournalStop) → status ≡ run_stop_status stop → IsStatus status
ends_within status stop is = subst IsStatus (sym is) (stop_is stop)
