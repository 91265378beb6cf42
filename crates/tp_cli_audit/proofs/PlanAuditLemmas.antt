-- The audit of a plan's journal, from the network of the plan to the words that name it.
use Rattle.std.proofs.Common.{◌≡◌, ◌∙◌, ◌+◌, ℕ, List, [], Option, Bool, true, false, inl, inr, refl, ap, subst, sym, arith}
use Rattle.std.specs.Prelude.{Result, Ok, Err, IfErr, IfOk, IfSome}
use Rattle.std.specs.Io.KnownBytes.{Appends}
use Rattle.tp_device.specs.Bytes.{AppendsPart}
use Rattle.std.proofs.KnownBytes.{Appends-nil}
use Rattle.tp_bounds.specs.RunLimits.{greatest_limits}
use Rattle.tp_bounds.specs.declared.plan_nets.PlanNet.{PlanNet}
use Rattle.tp_task.specs.declared.task.Task.{Task}
use Rattle.tp_happen.specs.tp_plan_text.declared.plans.Step.{Step}
use Rattle.tp_validate.specs.Answers.{IsVerdict}
use Rattle.tp_validate.specs.declared.verdicts.Verdict.{Verdict}
use Rattle.tp_validate.specs.declared.verdicts.Verdict.TheVariants.{Valid, Invalid}
use Rattle.tp_deorder.specs.Answers.{IsPlanNetOf}
use Rattle.tp_exec_machine.specs.Machine.{Machine}
use Rattle.tp_cli_files.specs.Causes.{counted, raised}
use Rattle.tp_cli_files.specs.FaultLines.{Tells}
use Rattle.tp_journal.specs.Telling.{IsHeadTold}
use Rattle.tp_journal.specs.declared.faults.JournalHead.{JournalHead}
use Rattle.tp_cli_audit.specs.AuditLines.{stop_status, stop_unread}
use Rattle.tp_cli_audit.specs.Audits.{Hinders, HindersHead, IsFound, Says, found_line, is_journal, say_failures}
use Rattle.tp_cli_audit.specs.declared.audit_lines.AuditStop.{AuditStop}
use Rattle.tp_cli_audit.specs.declared.audit_lines.AuditStop.TheVariants.{Open, Network, Memory, Read, Line, Head, Write}
use Rattle.tp_cli_audit.specs.declared.auditing.Found.{Found}
use Rattle.tp_cli_audit.specs.declared.auditing.Found.TheVariants as found
use Rattle.tp_cli_inputs.specs.Named.{IsNamedPlan}
use Rattle.tp_cli_inputs.specs.declared.plan_words.PlanWords.{PlanWords}
use Rattle.tp_cli_inputs.proofs.NamedLemmas.{Same, explains_over}
use Rattle.tp_cli_run.proofs.RunLemmas.{Judged, invalid_over, invalid_part_over, named_over}
use Rattle.tp_cli_run.proofs.StatusLemmas.{IsStatus, judge_is, network_is, three, two}
use Rattle.tp_cli_audit.specs.AuditStops.{plan_stop_failures, plan_stop_status, plan_stop_text, plan_stop_unread}
use Rattle.tp_cli_audit.specs.Ends.{HindersNet, SaysHeaded, SaysNet, SaysSteps, SaysVerdict, StopsHeaded, StopsHeadedBy, StopsNet, StopsSteps, StopsStepsBy, StopsVerdict, audit_result}
use Rattle.tp_cli_audit.specs.PlanAudits.{EndsPlanAudit, IsNetFound, LagsFit, SaysPlan, StopsAuditing, StopsPlanAudit, WritesAuditPart, audit_machine}
use Rattle.tp_cli_audit.specs.declared.stop_lines.PlanAuditStop.{PlanAuditStop}
use Rattle.tp_cli_audit.specs.declared.stop_lines.PlanAuditStop.TheVariants.{Auditing, Judging, Deordering}

-- ---- against the network of a plan

pub net_found : (found : Found) (net : PlanNet) (head : JournalHead) (m : Machine) (input : Option (List ℕ)) → m ≡ audit_machine net head → LagsFit net head → IsFound m input found → IsNetFound net head input found
net_found found net head m input is fit h = (fit, subst (λ k. IsFound k input found) is h)

hinders_net : (stop : AuditStop) (net : PlanNet) (head : JournalHead) (input : Option (List ℕ)) → Hinders (audit_machine net head) input stop → HindersNet net head input stop
hinders_net Open net head input h = tt
hinders_net Network net head input h = tt
hinders_net Memory net head input h = tt
hinders_net Read net head input h = tt
hinders_net (Line n) net head input h = h
hinders_net Head net head input h = inr h
hinders_net Write net head input h = absurd h

pub net_hinders : (stop : AuditStop) (net : PlanNet) (head : JournalHead) (m : Machine) (input : Option (List ℕ)) → m ≡ audit_machine net head → Hinders m input stop → HindersNet net head input stop
net_hinders stop net head m input is h = hinders_net stop net head input (subst (λ k. Hinders k input stop) is h)

-- ---- what is said of it

says_yes : (found : Found) (net : PlanNet) (head : JournalHead) (input before now : Option (List ℕ)) → IsNetFound net head input found → true ≡ is_journal found → Appends before now (found_line found) → SaysNet net head input before now true
says_yes (found.Journal pairs) net head input before now h is wrote = (pairs, h, wrote)
says_yes (found.Wrong n) net head input before now h is wrote = absurd (let f : ⊥ = cc in f)

says_no : (found : Found) (net : PlanNet) (head : JournalHead) (input before now : Option (List ℕ)) → IsNetFound net head input found → false ≡ is_journal found → Appends before now (found_line found) → SaysNet net head input before now false
says_no (found.Journal pairs) net head input before now h is wrote = absurd (let f : ⊥ = cc in f)
says_no (found.Wrong n) net head input before now h is wrote = (n, h, wrote)

pub said : (b : Bool) (found : Found) (net : PlanNet) (head : JournalHead) (input before now : Option (List ℕ)) → IsNetFound net head input found → Says found before now b → SaysNet net head input before now b
said true found net head input before now h s = says_yes found net head input before now h s.0 s.1
said false found net head input before now h s = says_no found net head input before now h s.0 s.1

pub unsaid : (stop : AuditStop) (f : Found) (net : PlanNet) (head : JournalHead) (input before now : Option (List ℕ)) → IsNetFound net head input f → (stop ≡ Write) × AppendsPart before now (found_line f) → StopsNet net head input before now stop
unsaid stop f net head input before now h s = subst (λ t. StopsNet net head input before now t) (sym s.0) (f, h, s.1)

pub stops : (stop : AuditStop) (net : PlanNet) (head : JournalHead) (input before : Option (List ℕ)) → HindersNet net head input stop → StopsNet net head input before before stop
stops Open net head input before h = refl
stops Network net head input before h = refl
stops Memory net head input before h = refl
stops Read net head input before h = refl
stops (Line n) net head input before h = (h, refl)
stops Head net head input before h = (h, refl)
stops Write net head input before h = absurd h

pub no_write : (stop : AuditStop) (net : PlanNet) (head : JournalHead) (input : Option (List ℕ)) (n : ℕ) → HindersNet net head input stop → say_failures {T = Bool} n (Err stop) ≡ n
no_write Open net head input n h = refl
no_write Network net head input n h = refl
no_write Memory net head input n h = refl
no_write Read net head input n h = refl
no_write (Line k) net head input n h = refl
no_write Head net head input n h = refl
no_write Write net head input n h = absurd h

-- ---- of the steps of a plan

module _ (task : Task) (steps : List Step) (horizon : ℕ) (head : JournalHead) (input before now : Option (List ℕ)) (net : PlanNet) (is_net : IsPlanNetOf task steps (greatest_limits horizon) net) where
  steps_said : (b : Bool) → SaysNet net head input before now b → SaysSteps task steps horizon head input before now b
  steps_said true h = (h.0, (record { net = net; is_net = is_net; is = h.1 }, h.2))
  steps_said false h = (h.0, (record { net = net; is_net = is_net; is = h.1 }, h.2))

  steps_stopped : (stop : AuditStop) → StopsNet net head input before now stop → StopsStepsBy task steps horizon head input before now stop
  steps_stopped Open h = h
  steps_stopped Network h = h
  steps_stopped Memory h = h
  steps_stopped Read h = h
  steps_stopped (Line n) h = h
  steps_stopped Head h = (record { net = net; is_net = is_net; other = h.0 }, h.1)
  steps_stopped Write h = (h.0, record { net = net; is_net = is_net; is = h.1 }, h.2)

  pub said_steps : (told : Result Bool AuditStop) (r : Result Bool PlanAuditStop) → r ≡ audit_result told → IfOk told (SaysNet net head input before now) → IfOk r (SaysSteps task steps horizon head input before now)
  said_steps (Ok b) r is h = subst (λ q. IfOk q (SaysSteps task steps horizon head input before now)) (sym is) (steps_said b h)
  said_steps (Err stop) r is h = subst (λ q. IfOk q (SaysSteps task steps horizon head input before now)) (sym is) tt

  pub stopped_steps : (told : Result Bool AuditStop) (r : Result Bool PlanAuditStop) → r ≡ audit_result told → IfErr told (StopsNet net head input before now) → IfErr r (StopsSteps task steps horizon head input before now)
  stopped_steps (Ok b) r is h = subst (λ q. IfErr q (StopsSteps task steps horizon head input before now)) (sym is) tt
  stopped_steps (Err stop) r is h = subst (λ q. IfErr q (StopsSteps task steps horizon head input before now)) (sym is) (steps_stopped stop h)

same_count : (stop : AuditStop) (n : ℕ) → say_failures {T = Bool} n (Err stop) ≡ say_failures {T = Unit {0}} n (Err stop)
same_count Open n = refl
same_count Network n = refl
same_count Memory n = refl
same_count Read n = refl
same_count (Line k) n = refl
same_count Head n = refl
same_count Write n = refl

pub told_count : (told : Result Bool AuditStop) (r : Result Bool PlanAuditStop) (n m : ℕ) → r ≡ audit_result told → m ≡ say_failures n told → m ≡ plan_stop_failures n r
told_count (Ok b) r n m is count = subst (λ q. m ≡ plan_stop_failures n q) (sym is) count
told_count (Err stop) r n m is count = subst (λ q. m ≡ plan_stop_failures n q) (sym is) (count ∙ same_count stop n)

-- a file that is opened has not failed yet
pub none_before : (files source before : ℕ) → files ≡ before → source ≡ 0 → files + source ≡ before
none_before files source before same none = omega (arith, same, none)

-- the same of the reads of its file
pub opened_as : (said : Result Bool AuditStop) (r : Result Bool PlanAuditStop) (n m : ℕ) → r ≡ audit_result said → m ≡ counted stop_unread n said → m ≡ counted plan_stop_unread n r
opened_as (Ok b) r n m is count = count ∙ ap (counted plan_stop_unread n) (sym is)
opened_as (Err stop) r n m is count = count ∙ ap (counted plan_stop_unread n) (sym is)

-- ---- from a verdict to the words

steps_headed : (held : List ℕ → Option (List ℕ)) (w : PlanWords) (task : Task) (steps : List Step) (head : JournalHead) (input before now : Option (List ℕ)) (b : Bool) → IsNamedPlan held w task steps → IsVerdict task steps (Valid (record { task = task; steps = steps })) → SaysSteps task steps w.horizon head input before now b → SaysHeaded held w head input before now b
steps_headed held w task steps head input before now true named is h = (task, steps, named, is.2, h)
steps_headed held w task steps head input before now false named is h = inr (task, steps, named, is.2, h)

pub says_headed : (held : List ℕ → Option (List ℕ)) (w : PlanWords) (task : Task) (verdict : Verdict) (head : JournalHead) (input before now : Option (List ℕ)) (b : Bool) → Judged held w task verdict → SaysVerdict verdict w.horizon head input before now b → SaysHeaded held w head input before now b
says_headed held w task (Valid plan) head input before now b judged h =
    steps_headed held w task judged.0 head input before now b judged.1 (refl, refl, judged.2.2)
    (subst (λ (s : List Step). SaysSteps task s w.horizon head input before now b) judged.2.1
    (subst (λ (t : Task). SaysSteps t plan.steps w.horizon head input before now b) judged.2.0 h))
says_headed held w task (Invalid plan tick why) head input before now b judged h =
    subst (SaysHeaded held w head input before now) (sym h.0)
    (inl (record { task = task; steps = judged.0; tick = tick; why = why; named = judged.1; first = judged.2.1; invalid = judged.2.2; written = h.1 }))

by_headed : (held : List ℕ → Option (List ℕ)) (w : PlanWords) (task : Task) (steps : List Step) (head : JournalHead) (input before now : Option (List ℕ)) (stop : AuditStop) → IsNamedPlan held w task steps → IsVerdict task steps (Valid (record { task = task; steps = steps })) → StopsStepsBy task steps w.horizon head input before now stop → StopsHeadedBy held w head input before now stop
by_headed held w task steps head input before now Open named is h = h
by_headed held w task steps head input before now Network named is h = h
by_headed held w task steps head input before now Memory named is h = h
by_headed held w task steps head input before now Read named is h = h
by_headed held w task steps head input before now (Line n) named is h = h
by_headed held w task steps head input before now Head named is h = ((task, steps, named, is.2, h.0), h.1)
by_headed held w task steps head input before now Write named is h = inr (task, steps, named, is.2, h)

stops_headed : (held : List ℕ → Option (List ℕ)) (w : PlanWords) (task : Task) (steps : List Step) (head : JournalHead) (input before now : Option (List ℕ)) (stop : PlanAuditStop) → IsNamedPlan held w task steps → IsVerdict task steps (Valid (record { task = task; steps = steps })) → StopsSteps task steps w.horizon head input before now stop → StopsHeaded held w head input before now stop
stops_headed held w task steps head input before now (Auditing stop) named is h = by_headed held w task steps head input before now stop named is h
stops_headed held w task steps head input before now (Judging fault) named is h = absurd h
stops_headed held w task steps head input before now (Deordering fault) named is h = ((task, steps, named, is.2, h.0), h.1)

pub stops_named : (held : List ℕ → Option (List ℕ)) (w : PlanWords) (task : Task) (verdict : Verdict) (head : JournalHead) (input before now : Option (List ℕ)) (stop : PlanAuditStop) → Judged held w task verdict → StopsVerdict verdict w.horizon head input before now stop → StopsHeaded held w head input before now stop
stops_named held w task (Valid plan) head input before now stop judged h =
    stops_headed held w task judged.0 head input before now stop judged.1 (refl, refl, judged.2.2)
    (subst (λ (s : List Step). StopsSteps task s w.horizon head input before now stop) judged.2.1
    (subst (λ (t : Task). StopsSteps t plan.steps w.horizon head input before now stop) judged.2.0 h))
stops_named held w task (Invalid plan tick why) head input before now stop judged h =
    subst (StopsHeaded held w head input before now) (sym h.0)
    (inl (record { task = task; steps = judged.0; tick = tick; why = why; named = judged.1; first = judged.2.1; invalid = judged.2.2; part = h.1 }))

-- ---- the same of files that hold the same

pub says_over : (a b : List ℕ → Option (List ℕ)) (w : PlanWords) (head : JournalHead) (input before now : Option (List ℕ)) (said : Bool) → Same a b → SaysHeaded a w head input before now said → SaysHeaded b w head input before now said
says_over a b w head input before now true same h = named_over a b w _ same h
says_over a b w head input before now false same (inl h) = inl (invalid_over a b w before now same h)
says_over a b w head input before now false same (inr h) = inr (named_over a b w _ same h)

by_over : (a b : List ℕ → Option (List ℕ)) (w : PlanWords) (head : JournalHead) (input before now : Option (List ℕ)) (stop : AuditStop) → Same a b → StopsHeadedBy a w head input before now stop → StopsHeadedBy b w head input before now stop
by_over a b w head input before now Open same h = h
by_over a b w head input before now Network same h = h
by_over a b w head input before now Memory same h = h
by_over a b w head input before now Read same h = h
by_over a b w head input before now (Line n) same h = h
by_over a b w head input before now Head same h = (named_over a b w _ same h.0, h.1)
by_over a b w head input before now Write same (inl h) = inl (invalid_part_over a b w before now same h)
by_over a b w head input before now Write same (inr h) = inr (named_over a b w _ same h)

pub stops_over : (a b : List ℕ → Option (List ℕ)) (w : PlanWords) (head : JournalHead) (input before now : Option (List ℕ)) (stop : PlanAuditStop) → Same a b → StopsHeaded a w head input before now stop → StopsHeaded b w head input before now stop
stops_over a b w head input before now (Auditing stop) same h = by_over a b w head input before now stop same h
stops_over a b w head input before now (Judging fault) same h = (explains_over a b w fault same h.0, h.1)
stops_over a b w head input before now (Deordering fault) same h = (named_over a b w _ same h.0, h.1)

pub says_opened : (a b : List ℕ → Option (List ℕ)) (w : PlanWords) (head : JournalHead) (left input before now : Option (List ℕ)) (said : Bool) → Same a b → left ≡ input → SaysHeaded a w head left before now said → SaysHeaded b w head input before now said
says_opened a b w head left input before now said same is h =
    says_over a b w head input before now said same (subst (λ i. SaysHeaded a w head i before now said) is h)

pub stops_opened : (a b : List ℕ → Option (List ℕ)) (w : PlanWords) (head : JournalHead) (left input before now : Option (List ℕ)) (stop : PlanAuditStop) → Same a b → left ≡ input → StopsHeaded a w head left before now stop → StopsHeaded b w head input before now stop
stops_opened a b w head left input before now stop same is h =
    stops_over a b w head input before now stop same (subst (λ i. StopsHeaded a w head i before now stop) is h)

-- ---- with the head that was told

pub says_plan : (held : List ℕ → Option (List ℕ)) (w : PlanWords) (head : JournalHead) (input before now : Option (List ℕ)) (said : Bool) → IfSome input (λ bytes. IsHeadTold bytes head) → SaysHeaded held w head input before now said → SaysPlan held w input before now said
says_plan held w head input before now true told h = (head, told, h)
says_plan held w head input before now false told h = (head, told, h)

by_plan : (held : List ℕ → Option (List ℕ)) (w : PlanWords) (head : JournalHead) (input before now : Option (List ℕ)) (stop : AuditStop) → IfSome input (λ bytes. IsHeadTold bytes head) → StopsHeadedBy held w head input before now stop → StopsAuditing held w input before now stop
by_plan held w head input before now Open told h = h
by_plan held w head input before now Network told h = h
by_plan held w head input before now Memory told h = h
by_plan held w head input before now Read told h = h
by_plan held w head input before now (Line n) told h = h
by_plan held w head input before now Head told h = ((head, told, h.0), h.1)
by_plan held w head input before now Write told h = (head, told, h)

pub stops_plan : (held : List ℕ → Option (List ℕ)) (w : PlanWords) (head : JournalHead) (input before now : Option (List ℕ)) (stop : PlanAuditStop) → IfSome input (λ bytes. IsHeadTold bytes head) → StopsHeaded held w head input before now stop → StopsPlanAudit held w input before now stop
stops_plan held w head input before now (Auditing stop) told h = by_plan held w head input before now stop told h
stops_plan held w head input before now (Judging fault) told h = ((head, told, h.0), h.1)
stops_plan held w head input before now (Deordering fault) told h = ((head, told, h.0), h.1)

-- the same of the files as they were before the head was read
pub says_log : (a b : List ℕ → Option (List ℕ)) (w : PlanWords) (log : List ℕ) (head : JournalHead) (before now : Option (List ℕ)) (said : Bool) → Same a b → IfSome (b log) (λ bytes. IsHeadTold bytes head) → SaysHeaded a w head (a log) before now said → SaysPlan b w (b log) before now said
says_log a b w log head before now said same told h =
    says_plan b w head (b log) before now said told (says_opened a b w head (a log) (b log) before now said same (same log) h)

pub stops_log : (a b : List ℕ → Option (List ℕ)) (w : PlanWords) (log : List ℕ) (head : JournalHead) (before now : Option (List ℕ)) (stop : PlanAuditStop) → Same a b → IfSome (b log) (λ bytes. IsHeadTold bytes head) → StopsHeaded a w head (a log) before now stop → StopsPlanAudit b w (b log) before now stop
stops_log a b w log head before now stop same told h =
    stops_plan b w head (b log) before now stop told (stops_opened a b w head (a log) (b log) before now stop same (same log) h)

pub head_stops : (held : List ℕ → Option (List ℕ)) (w : PlanWords) (input before : Option (List ℕ)) (stop : AuditStop) → HindersHead input stop → StopsAuditing held w input before before stop
head_stops held w input before Open h = refl
head_stops held w input before Network h = absurd h
head_stops held w input before Memory h = refl
head_stops held w input before Read h = refl
head_stops held w input before (Line n) h = (h, refl)
head_stops held w input before Head h = absurd h
head_stops held w input before Write h = absurd h

pub head_counts : (input : Option (List ℕ)) (stop : AuditStop) (n : ℕ) → HindersHead input stop → plan_stop_failures {T = Bool} n (Err (Auditing stop)) ≡ n
head_counts input Open n h = refl
head_counts input Network n h = refl
head_counts input Memory n h = refl
head_counts input Read n h = refl
head_counts input (Line k) n h = refl
head_counts input Head n h = refl
head_counts input Write n h = absurd h

-- ---- what was written by then

unwritten : (held : List ℕ → Option (List ℕ)) (w : PlanWords) (input before now : Option (List ℕ)) → now ≡ before → WritesAuditPart held w input before now
unwritten held w input before now is = inl (subst (λ n. Appends before n []) (sym is) (Appends-nil before))

part_by : (held : List ℕ → Option (List ℕ)) (w : PlanWords) (input before now : Option (List ℕ)) (stop : AuditStop) → StopsAuditing held w input before now stop → WritesAuditPart held w input before now
part_by held w input before now Open h = unwritten held w input before now h
part_by held w input before now Network h = unwritten held w input before now h
part_by held w input before now Memory h = unwritten held w input before now h
part_by held w input before now Read h = unwritten held w input before now h
part_by held w input before now (Line n) h = unwritten held w input before now h.1
part_by held w input before now Head h = unwritten held w input before now h.1
part_by held w input before now Write h = inr h

pub part_then : (held : List ℕ → Option (List ℕ)) (w : PlanWords) (input before now : Option (List ℕ)) (stop : PlanAuditStop) → StopsPlanAudit held w input before now stop → WritesAuditPart held w input before now
part_then held w input before now (Auditing stop) h = part_by held w input before now stop h
part_then held w input before now (Judging fault) h = unwritten held w input before now h.1
part_then held w input before now (Deordering fault) h = unwritten held w input before now h.1

kept_by : (held : List ℕ → Option (List ℕ)) (w : PlanWords) (input before now : Option (List ℕ)) (stop : AuditStop) → StopsAuditing held w input before now stop → stop_status stop ≡ 2 → now ≡ before
kept_by held w input before now Open h is = h
kept_by held w input before now Network h is = h
kept_by held w input before now Memory h is = h
kept_by held w input before now Read h is = h
kept_by held w input before now (Line n) h is = h.1
kept_by held w input before now Head h is = h.1
kept_by held w input before now Write h is = absurd (let f : ⊥ = omega (arith, is) in f)

pub kept_then : (held : List ℕ → Option (List ℕ)) (w : PlanWords) (input before now : Option (List ℕ)) (stop : PlanAuditStop) → StopsPlanAudit held w input before now stop → plan_stop_status stop ≡ 2 → now ≡ before
kept_then held w input before now (Auditing stop) h is = kept_by held w input before now stop h is
kept_then held w input before now (Judging fault) h is = h.1
kept_then held w input before now (Deordering fault) h is = h.1

-- ---- by the status

no_failure : (stop : AuditStop) (n : ℕ) → (stop_status stop ≡ 3 → ⊥) → say_failures {T = Unit {0}} n (Err stop) ≡ n
no_failure Open n other = refl
no_failure Network n other = refl
no_failure Memory n other = refl
no_failure Read n other = refl
no_failure (Line k) n other = refl
no_failure Head n other = refl
no_failure Write n other = absurd (other refl)

none_failed : (stop : PlanAuditStop) (n : ℕ) → (plan_stop_status stop ≡ 3 → ⊥) → plan_stop_failures {T = Unit {0}} n (Err stop) ≡ n
none_failed (Auditing stop) n other = no_failure stop n other
none_failed (Judging fault) n other = refl
none_failed (Deordering fault) n other = refl

any_type : (stop : PlanAuditStop) (n : ℕ) → plan_stop_failures {T = Bool} n (Err stop) ≡ plan_stop_failures {T = Unit {0}} n (Err stop)
any_type (Auditing stop) n = refl
any_type (Judging fault) n = refl
any_type (Deordering fault) n = refl

audit_is : (stop : AuditStop) → IsStatus (stop_status stop)
audit_is Open = three
audit_is Network = three
audit_is Memory = three
audit_is Read = three
audit_is (Line n) = two
audit_is Head = two
audit_is Write = three

stop_is : (stop : PlanAuditStop) → IsStatus (plan_stop_status stop)
stop_is (Auditing stop) = audit_is stop
stop_is (Judging fault) = judge_is fault
stop_is (Deordering fault) = network_is fault

pub ends : (held : List ℕ → Option (List ℕ)) (w : PlanWords) (log : List ℕ) (status : ℕ) (input before now : Option (List ℕ)) (unread unread-now output output-now failures : ℕ) (said : Option (List ℕ)) (failures-now : ℕ) (said-now : Option (List ℕ)) (stop : PlanAuditStop) (text : List ℕ) → StopsPlanAudit held w input before now stop → status ≡ plan_stop_status stop → output-now ≡ plan_stop_failures {T = Bool} output (Err stop) → unread-now ≡ raised (plan_stop_unread stop) unread → text ≡ plan_stop_text log w stop → Tells text failures said failures-now said-now → EndsPlanAudit held w log status input before now unread unread-now output output-now failures said failures-now said-now
ends held w log status input before now unread unread-now output output-now failures said failures-now said-now stop text cause is write opened line told =
    record {
      stop = stop;
      is = sym is;
      cause = cause;
      opened = opened;
      write = write ∙ any_type stop output;
      told = subst (λ (t : List ℕ). Tells t failures said failures-now said-now) line told;
    }

pub ends_told : (status output output-now : ℕ) (stop : PlanAuditStop) → status ≡ plan_stop_status stop → output-now ≡ plan_stop_failures {T = Bool} output (Err stop) → (status ≡ 3 → ⊥) → output-now ≡ output
ends_told status output output-now stop is write other = write ∙ (any_type stop output ∙ none_failed stop output (λ broken. other (is ∙ broken)))

pub ends_within : (status : ℕ) (stop : PlanAuditStop) → status ≡ plan_stop_status stop → IsStatus status
ends_within status stop is = subst IsStatus (sym is) (stop_is stop)
