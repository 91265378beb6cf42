-- A run on the network of a plan that goes on, from its journal to its exit status.
use Rattle.std.proofs.Common.{◌≡◌, ◌∙◌, ℕ, inl, inr, List, [], ◌++◌, Option, Bool, true, false, refl, sym, subst, append-nil, ap}
use Rattle.std.specs.Prelude.{Result, Ok, Err, IfErr, IfOk}
use Rattle.std.specs.Io.KnownBytes.{Appends}
use Rattle.std.proofs.KnownBytes.{Appends-nil, Appends-trans}
use Rattle.tp_bounds.specs.RunLimits.{greatest_limits}
use Rattle.tp_bounds.specs.declared.plan_nets.PlanNet.{PlanNet}
use Rattle.tp_device.specs.Bytes.{AppendsPart}
use Rattle.tp_device.proofs.Parts.{part_after}
use Rattle.tp_task.specs.declared.task.Task.{Task}
use Rattle.tp_happen.specs.tp_plan_text.declared.plans.Step.{Step}
use Rattle.tp_validate.specs.Answers.{IsVerdict}
use Rattle.tp_validate.specs.declared.verdicts.Verdict.{Verdict}
use Rattle.tp_validate.specs.declared.verdicts.Verdict.TheVariants.{Valid, Invalid}
use Rattle.tp_deorder.specs.Answers.{IsPlanNetOf}
use Rattle.tp_exec.specs.FromPlan.{CameFrom}
use Rattle.tp_exec_machine.specs.Machine.{Machine}
use Rattle.tp_journal_pairs.specs.declared.faults.JournalFault.{JournalFault}
use Rattle.tp_journal.specs.declared.faults.JournalHead.{JournalHead}
use Rattle.tp_cli_files.specs.Causes.{counted, raised}
use Rattle.tp_cli_files.specs.FaultLines.{Tells}
use Rattle.tp_cli_files.proofs.FaultLemmas.{whole_part}
use Rattle.tp_cli_inputs.specs.Named.{IsNamedPlan}
use Rattle.tp_cli_inputs.specs.declared.plan_words.PlanWords.{PlanWords}
use Rattle.tp_cli_inputs.proofs.NamedLemmas.{Same}
use Rattle.tp_cli_audit.specs.Audits.{Hinders, HindersHead, found_line}
use Rattle.tp_cli_audit.specs.PlanAudits.{audit_machine}
use Rattle.tp_cli_audit.specs.declared.audit_lines.AuditStop.{AuditStop}
use Rattle.tp_cli_audit.specs.declared.audit_lines.AuditStop.TheVariants as audit
use Rattle.tp_cli_audit.specs.declared.auditing.Found.TheVariants as found
use Rattle.tp_cli_bare.specs.declared.bare.BareFault.TheVariants as bare
use Rattle.tp_cli_run.specs.Ends.{StopsTelling, TellsRun}
use Rattle.tp_cli_run.specs.LogFile.{IsNamed, LogFile, MadeNone}
use Rattle.tp_cli_run.specs.RunLines.{run_failures}
use Rattle.tp_cli_run.specs.Runs.{run_lines}
use Rattle.tp_cli_run.specs.declared.run_lines.RunStop.{RunStop}
use Rattle.tp_cli_run.specs.declared.run_lines.RunStop.TheVariants as run
use Rattle.tp_cli_run.proofs.RunLemmas.{Judged, invalid_over, named_over}
use Rattle.tp_cli_run.proofs.StatusLemmas.{IsStatus, judge_is, network_is, three}
use Rattle.tp_cli_audit.specs.Going.{GoesTo, StopsGoing, StopsIn}
use Rattle.tp_cli_audit.specs.Old.{IsQuiet, IsTaken, IsUnread}
use Rattle.tp_cli_audit.specs.RunResume.{ComesFrom, EndsOn, EndsRunResumed, GoesOfPlan, GoesSteps, GoesVerdict, HasStopped, StopsEarly, told_on}
use Rattle.tp_cli_audit.specs.RunResumeStops.{run_resume_failures, run_resume_reads, run_resume_status, run_resume_text, run_resume_unread, run_resume_unlogged}
use Rattle.tp_cli_audit.specs.ResumeStops.{resume_failures, resume_reads}
use Rattle.tp_cli_audit.specs.declared.old.Run.{Run}
use Rattle.tp_cli_audit.specs.declared.old.Taken.{Taken}
use Rattle.tp_cli_audit.specs.declared.old.Taken.TheVariants.{Goes, Wrong}
use Rattle.tp_cli_audit.specs.declared.run_resume_stops.RunResumeStop.{RunResumeStop}
use Rattle.tp_cli_audit.specs.declared.run_resume_stops.RunResumeStop.TheVariants.{Judging, Network, Resuming, Telling, Write}
use Rattle.tp_cli_audit.specs.declared.resume_stops.ResumeStop.{ResumeStop}
use Rattle.tp_cli_audit.specs.declared.resume_stops.ResumeStop.TheVariants as resume
use Rattle.tp_cli_audit.proofs.BareResumeLemmas as bares
use Rattle.tp_cli_audit.proofs.Came.{runs_came}
use Rattle.tp_cli_audit.proofs.ResumeLemmas.{continues}

-- ---- the plan that the run came from

pub comes_from : (net : PlanNet) (old : Machine) (kept : List ℕ) (taken : Taken) → ((t : Task) (steps : List Step) → IsPlanNetOf t steps (greatest_limits net.horizon) net → CameFrom t steps old) → IsTaken old kept taken → ComesFrom net taken
comes_from net old kept (Goes run) came h = λ t steps is. runs_came t steps h.1.0 h.1.2.entries old run.executive (came t steps is) h.1.2.runs
comes_from net old kept (Wrong n) came h = tt

-- ---- stops that are no failed write

pub quiet_hinders : (m : Machine) (input : Option (List ℕ)) (stop : AuditStop) → Hinders m input stop → IsQuiet stop
quiet_hinders m input audit.Open h = tt
quiet_hinders m input audit.Network h = tt
quiet_hinders m input audit.Memory h = tt
quiet_hinders m input audit.Read h = tt
quiet_hinders m input (audit.Line n) h = tt
quiet_hinders m input audit.Head h = tt
quiet_hinders m input audit.Write h = h

pub quiet_head : (input : Option (List ℕ)) (stop : AuditStop) → HindersHead input stop → IsQuiet stop
quiet_head input audit.Open h = tt
quiet_head input audit.Network h = tt
quiet_head input audit.Memory h = tt
quiet_head input audit.Read h = tt
quiet_head input (audit.Line n) h = tt
quiet_head input audit.Head h = tt
quiet_head input audit.Write h = h

pub quiet_unread : (stop : AuditStop) → IsUnread stop → IsQuiet stop
quiet_unread audit.Open h = tt
quiet_unread audit.Network h = tt
quiet_unread audit.Memory h = tt
quiet_unread audit.Read h = tt
quiet_unread (audit.Line n) h = tt
quiet_unread audit.Head h = tt
quiet_unread audit.Write h = h

pub quiet_count : (stop : AuditStop) (n : ℕ) → IsQuiet stop → n ≡ run_resume_failures {T = Bool} n (Err (Resuming (resume.Auditing stop)))
quiet_count audit.Open n h = refl
quiet_count audit.Network n h = refl
quiet_count audit.Memory n h = refl
quiet_count audit.Read n h = refl
quiet_count (audit.Line k) n h = refl
quiet_count audit.Head n h = refl
quiet_count audit.Write n h = absurd h

pub none_early : (a : Option (List ℕ)) → StopsEarly a a
none_early a = ([], whole_part a a [] (Appends-nil a))

early_is : (before now : Option (List ℕ)) → now ≡ before → StopsEarly before now
early_is before now is = subst (StopsEarly before) (sym is) (none_early before)

early_in : (mid : Machine) (kept : List ℕ) (input before now log logged : Option (List ℕ)) (fault : JournalFault) → StopsIn mid kept input before now log logged fault → StopsEarly before now
early_in mid kept input before now log logged fault (inl h) = early_is before now h.1
early_in mid kept input before now log logged fault (inr h) =
    let some = bares.some_more mid h.2 h.0 h.1 before now h.3 logged fault h.6 in
    (some.3, some.7)

pub stopped_early : (mid : Machine) (kept : List ℕ) (input before now : Option (List ℕ)) (file : LogFile) (stop : ResumeStop) → StopsGoing mid kept input before now file stop → HasStopped before now file (Resuming stop)
stopped_early mid kept input before now file (resume.Auditing stop) h = absurd h
stopped_early mid kept input before now file resume.Lines h = (early_is before now h.0, h)
stopped_early mid kept input before now file resume.Making h = (early_is before now h.0, h)
stopped_early mid kept input before now file (resume.Journaling fault) h = (early_in mid kept input before now file.blank file.kept fault h.1, h.0)

pub heard_going : (stop : ResumeStop) (n m : ℕ) → m ≡ resume_reads {T = Machine} n (Err stop) → m ≡ run_resume_reads {T = Bool} n (Err (Resuming stop))
heard_going stop n m count = count ∙ bares.any_reads Machine (Unit {0}) n stop

-- the telling of the plan of a run reads nothing
pub told_reads : (told : Result Bool RunStop) (r : Result Bool RunResumeStop) (n : ℕ) → r ≡ told_on told → run_resume_reads n r ≡ n
told_reads (Ok done) r n is = ap (run_resume_reads n) is
told_reads (Err (run.Judging fault)) r n is = ap (run_resume_reads n) is
told_reads (Err (run.Network fault)) r n is = ap (run_resume_reads n) is
told_reads (Err (run.Answering fault)) r n is = ap (run_resume_reads n) is
told_reads (Err run.Write) r n is = ap (run_resume_reads n) is

pub counted_going : (stop : ResumeStop) (n m : ℕ) → m ≡ resume_failures {T = Machine} n (Err stop) → m ≡ run_resume_failures {T = Bool} n (Err (Resuming stop))
counted_going stop n m count = count ∙ (bares.machine_type n stop ∙ bares.any_type n stop)

-- ---- the plan of a run behind the answers

module _ (task : Task) (steps : List Step) (mid : Machine) (kept : List ℕ) (input before said now : Option (List ℕ)) (file : LogFile) (last : Machine) (went : GoesTo mid kept input before said file.blank file.kept last) (named : IsNamed file) where
  stopped_on : (stop : RunStop) → StopsTelling task steps last said now stop → IfErr (told_on (Err stop)) (HasStopped before now file)
  stopped_on (run.Judging fault) h = absurd h
  stopped_on (run.Network fault) h = absurd h
  stopped_on (run.Answering bare.Network) h = ((went.text, whole_part before now went.text (subst (λ n. Appends before n went.text) (sym h) went.written)), named)
  stopped_on (run.Answering (bare.Serving fault)) h = absurd h
  stopped_on run.Write h =
      ((went.text ++ run_lines task h.0, part_after before said now went.text (run_lines task h.0) [] (went.text ++ run_lines task h.0) (ap (λ t. went.text ++ t) (sym (append-nil (run_lines task h.0)))) went.written h.2), inr named)

  pub said_on : (told : Result Bool RunStop) (r : Result Bool RunResumeStop) → r ≡ told_on told → IfOk told (TellsRun task steps last said now) → IfOk r (EndsOn task steps mid kept input before now file)
  said_on (Ok done) r is h = subst (λ q. IfOk q (EndsOn task steps mid kept input before now file)) (sym is) (last, said, went, named, h)
  said_on (Err (run.Judging fault)) r is h = subst (λ q. IfOk q (EndsOn task steps mid kept input before now file)) (sym is) tt
  said_on (Err (run.Network fault)) r is h = subst (λ q. IfOk q (EndsOn task steps mid kept input before now file)) (sym is) tt
  said_on (Err (run.Answering fault)) r is h = subst (λ q. IfOk q (EndsOn task steps mid kept input before now file)) (sym is) tt
  said_on (Err run.Write) r is h = subst (λ q. IfOk q (EndsOn task steps mid kept input before now file)) (sym is) tt

  pub unsaid_on : (told : Result Bool RunStop) (r : Result Bool RunResumeStop) → r ≡ told_on told → IfErr told (StopsTelling task steps last said now) → IfErr r (HasStopped before now file)
  unsaid_on (Ok done) r is h = subst (λ q. IfErr q (HasStopped before now file)) (sym is) tt
  unsaid_on (Err stop) r is h = subst (λ q. IfErr q (HasStopped before now file)) (sym is) (stopped_on stop h)

count_telling : (task : Task) (steps : List Step) (last : Machine) (said now : Option (List ℕ)) (stop : RunStop) (n : ℕ) → StopsTelling task steps last said now stop → run_failures {T = Bool} n (Err stop) ≡ run_resume_failures {T = Bool} n (told_on (Err stop))
count_telling task steps last said now (run.Judging fault) n h = absurd h
count_telling task steps last said now (run.Network fault) n h = absurd h
count_telling task steps last said now (run.Answering bare.Network) n h = refl
count_telling task steps last said now (run.Answering (bare.Serving fault)) n h = absurd h
count_telling task steps last said now run.Write n h = refl

pub counted_on : (task : Task) (steps : List Step) (last : Machine) (said now : Option (List ℕ)) (told : Result Bool RunStop) (r : Result Bool RunResumeStop) (n m : ℕ) → r ≡ told_on told → IfErr told (StopsTelling task steps last said now) → m ≡ run_failures n told → m ≡ run_resume_failures n r
counted_on task steps last said now (Ok done) r n m is h count = subst (λ q. m ≡ run_resume_failures n q) (sym is) count
counted_on task steps last said now (Err stop) r n m is h count = subst (λ q. m ≡ run_resume_failures n q) (sym is) (count ∙ count_telling task steps last said now stop n h)

-- ---- from a network to the words

pub ends_on : (task : Task) (steps : List Step) (net : PlanNet) (head : JournalHead) (kept : List ℕ) (run : Run) (input before now : Option (List ℕ)) (file : LogFile) (done : Bool) → IsPlanNetOf task steps (greatest_limits net.horizon) net → IsTaken (audit_machine net head) kept (Goes run) → EndsOn task steps run.executive run.kept.items input before now file done → GoesSteps task steps net.horizon kept input before now file done
ends_on task steps net head kept run input before now file true is taken e =
    let went : GoesTo run.executive kept input before e.1 file.blank file.kept e.0 = subst (λ k. GoesTo run.executive k input before e.1 file.blank file.kept e.0) taken.2 e.2 in
    record {
      net = net;
      is_net = is;
      head = head;
      last = e.0;
      answers = went.text;
      continues = continues input before e.1 file (audit_machine net head) run.executive e.0 kept taken.0 taken.1 went e.3;
      run = e.4.0;
      is = e.4.1;
      written = Appends-trans before e.1 now went.text (run_lines task e.4.0) went.written e.4.2;
    }
ends_on task steps net head kept run input before now file false is taken e =
    let went : GoesTo run.executive kept input before e.1 file.blank file.kept e.0 = subst (λ k. GoesTo run.executive k input before e.1 file.blank file.kept e.0) taken.2 e.2 in
    inl (record {
      net = net;
      is_net = is;
      head = head;
      last = e.0;
      answers = went.text;
      continues = continues input before e.1 file (audit_machine net head) run.executive e.0 kept taken.0 taken.1 went e.3;
      none = e.4.0;
      written = subst (λ n. Appends before n went.text) (sym e.4.1) went.written;
    })

pub said_nowhere : (task : Task) (steps : List Step) (net : PlanNet) (head : JournalHead) (kept : List ℕ) (n : ℕ) (input before now : Option (List ℕ)) (file : LogFile) (done : Bool) → IsPlanNetOf task steps (greatest_limits net.horizon) net → IsTaken (audit_machine net head) kept (Wrong n) → MadeNone file → (done ≡ false) × Appends before now (found_line (found.Wrong n)) → GoesSteps task steps net.horizon kept input before now file done
said_nowhere task steps net head kept n input before now file done is taken none h =
    subst (GoesSteps task steps net.horizon kept input before now file) (sym h.0)
    (inr (record { net = net; is_net = is; head = head; n = n; wrong = taken; written = h.1; made_none = none }))

pub unsaid_nowhere : (n : ℕ) (before now : Option (List ℕ)) (file : LogFile) (stop : RunResumeStop) → MadeNone file → (stop ≡ Resuming (resume.Auditing audit.Write)) × AppendsPart before now (found_line (found.Wrong n)) → HasStopped before now file stop
unsaid_nowhere n before now file stop none h =
    subst (HasStopped before now file) (sym h.0) ((found_line (found.Wrong n), h.1), (none, inr (refl, (n, h.1))))

pub unsaid_invalid : (text : List ℕ) (before now : Option (List ℕ)) (file : LogFile) (stop : RunResumeStop) → MadeNone file → (stop ≡ Write) × AppendsPart before now text → HasStopped before now file stop
unsaid_invalid text before now file stop none h = subst (HasStopped before now file) (sym h.0) ((text, h.1), inl none)

goes_steps : (held : List ℕ → Option (List ℕ)) (w : PlanWords) (task : Task) (steps : List Step) (kept : List ℕ) (input before now : Option (List ℕ)) (file : LogFile) (done : Bool) → IsNamedPlan held w task steps → IsVerdict task steps (Valid (record { task = task; steps = steps })) → GoesSteps task steps w.horizon kept input before now file done → GoesOfPlan held w kept input before now file done
goes_steps held w task steps kept input before now file true named is h = (task, steps, named, is.2, h)
goes_steps held w task steps kept input before now file false named is h = inr (task, steps, named, is.2, h)

pub goes_named : (held : List ℕ → Option (List ℕ)) (w : PlanWords) (task : Task) (verdict : Verdict) (kept : List ℕ) (input before now : Option (List ℕ)) (file : LogFile) (done : Bool) → Judged held w task verdict → GoesVerdict verdict w.horizon kept input before now file done → GoesOfPlan held w kept input before now file done
goes_named held w task (Valid plan) kept input before now file done judged h =
    goes_steps held w task judged.0 kept input before now file done judged.1 (refl, refl, judged.2.2)
    (subst (λ (s : List Step). GoesSteps task s w.horizon kept input before now file done) judged.2.1
    (subst (λ (t : Task). GoesSteps t plan.steps w.horizon kept input before now file done) judged.2.0 h))
goes_named held w task (Invalid plan tick why) kept input before now file done judged h =
    subst (GoesOfPlan held w kept input before now file) (sym h.0)
    (inl (record { task = task; steps = judged.0; tick = tick; why = why; named = judged.1; first = judged.2.1; invalid = judged.2.2; written = h.1 }, h.2))

pub goes_same : (a b : List ℕ → Option (List ℕ)) (w : PlanWords) (kept : List ℕ) (input before now : Option (List ℕ)) (file : LogFile) (done : Bool) → Same a b → GoesOfPlan a w kept input before now file done → GoesOfPlan b w kept input before now file done
goes_same a b w kept input before now file true same h = named_over a b w _ same h
goes_same a b w kept input before now file false same (inl h) = inl (invalid_over a b w before now same h.0, h.1)
goes_same a b w kept input before now file false same (inr h) = inr (named_over a b w _ same h)

-- ---- how a run ends

stop_is : (stop : RunResumeStop) → IsStatus (run_resume_status stop)
stop_is (Judging fault) = judge_is fault
stop_is (Network fault) = network_is fault
stop_is (Resuming stop) = bares.stop_is stop
stop_is Telling = three
stop_is Write = three

no_write : (n : ℕ) (stop : RunResumeStop) → (run_resume_status stop ≡ 3 → ⊥) → run_resume_failures {T = Unit {0}} n (Err stop) ≡ n
no_write n (Judging fault) other = refl
no_write n (Network fault) other = refl
no_write n (Resuming stop) other = bares.no_write n stop other
no_write n Telling other = refl
no_write n Write other = absurd (other refl)

any_type : (n : ℕ) (stop : RunResumeStop) → run_resume_failures {T = Bool} n (Err stop) ≡ run_resume_failures {T = Unit {0}} n (Err stop)
any_type n (Judging fault) = refl
any_type n (Network fault) = refl
any_type n (Resuming stop) = refl
any_type n Telling = refl
any_type n Write = refl

no_read : (n : ℕ) (stop : RunResumeStop) → (run_resume_status stop ≡ 3 → ⊥) → run_resume_reads {T = Unit {0}} n (Err stop) ≡ n
no_read n (Judging fault) other = refl
no_read n (Network fault) other = refl
no_read n (Resuming stop) other = bares.no_read n stop other
no_read n Telling other = refl
no_read n Write other = refl

any_reads : (n : ℕ) (stop : RunResumeStop) → run_resume_reads {T = Bool} n (Err stop) ≡ run_resume_reads {T = Unit {0}} n (Err stop)
any_reads n (Judging fault) = refl
any_reads n (Network fault) = refl
any_reads n (Resuming stop) = refl
any_reads n Telling = refl
any_reads n Write = refl

-- nor does it fail as a file or a journal
pub told_fails : (failed : RunResumeStop → Bool) → failed Telling ≡ false → failed Write ≡ false → (told : Result Bool RunStop) (r : Result Bool RunResumeStop) (n : ℕ) → r ≡ told_on told → counted failed n r ≡ n
told_fails failed telling write (Ok done) r n is = ap (counted failed n) is
told_fails failed telling write (Err (run.Judging fault)) r n is = ap (counted failed n) is ∙ ap (λ b. raised b n) telling
told_fails failed telling write (Err (run.Network fault)) r n is = ap (counted failed n) is ∙ ap (λ b. raised b n) telling
told_fails failed telling write (Err (run.Answering fault)) r n is = ap (counted failed n) is ∙ ap (λ b. raised b n) telling
told_fails failed telling write (Err run.Write) r n is = ap (counted failed n) is ∙ ap (λ b. raised b n) write

pub ends : (w : PlanWords) (old : List ℕ) (status : ℕ) (reads reads-now : ℕ) (before now : Option (List ℕ)) (file : LogFile) (unread unread-now logs logs-now output output-now failures : ℕ) (said : Option (List ℕ)) (failures-now : ℕ) (said-now : Option (List ℕ)) (stop : RunResumeStop) (text : List ℕ) → HasStopped before now file stop → status ≡ run_resume_status stop → output-now ≡ run_resume_failures {T = Bool} output (Err stop) → reads-now ≡ run_resume_reads {T = Bool} reads (Err stop) → unread-now ≡ raised (run_resume_unread stop) unread → logs-now ≡ raised (run_resume_unlogged stop) logs → text ≡ run_resume_text w old stop → Tells text failures said failures-now said-now → EndsRunResumed w old status reads reads-now before now file unread unread-now logs logs-now output output-now failures said failures-now said-now
ends w old status reads reads-now before now file unread unread-now logs logs-now output output-now failures said failures-now said-now stop text cause is write read opened log line told =
    record {
      stop = stop;
      is = sym is;
      cause = cause;
      read = read ∙ any_reads reads stop;
      opened = opened;
      journal = log;
      write = write ∙ any_type output stop;
      told = subst (λ (t : List ℕ). Tells t failures said failures-now said-now) line told;
    }

pub ends_told : (status output output-now : ℕ) (stop : RunResumeStop) → status ≡ run_resume_status stop → output-now ≡ run_resume_failures {T = Bool} output (Err stop) → (status ≡ 3 → ⊥) → output-now ≡ output
ends_told status output output-now stop is write other = write ∙ (any_type output stop ∙ no_write output stop (λ broken. other (is ∙ broken)))

pub ends_heard : (status reads reads-now : ℕ) (stop : RunResumeStop) → status ≡ run_resume_status stop → reads-now ≡ run_resume_reads {T = Bool} reads (Err stop) → (status ≡ 3 → ⊥) → reads-now ≡ reads
ends_heard status reads reads-now stop is read other = read ∙ (any_reads reads stop ∙ no_read reads stop (λ broken. other (is ∙ broken)))

pub ends_within : (status : ℕ) (stop : RunResumeStop) → status ≡ run_resume_status stop → IsStatus status
ends_within status stop is = subst IsStatus (sym is) (stop_is stop)
