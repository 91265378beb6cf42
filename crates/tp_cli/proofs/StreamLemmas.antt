-- What was written to a writer of bytes that are kept before and after.
use Rattle.std.proofs.Common.{◌≡◌, ◌≢◌, ◌∙◌, ◌≤◌, zero, suc, ap, ℕ, List, [], ◌++◌, Option, Some, None, Bool, true, false, ◌⊎◌, inl, inr, codes, sym, subst, refl, arith}
use Rattle.std.specs.Prelude.{IfSome, MatchOption, Result, Ok, Err}
use Rattle.std.specs.Io.KnownBytes.{Appends, Keeps}
use Rattle.std.proofs.KnownBytes.{Keeps-refl, Keeps-trans, Appends-nil}
use Rattle.tp_device.specs.Bytes.{AppendsPart}
use Rattle.tp_cli_bare.specs.Bare.{AnswersAll, AnswersPart, IsRefused, first_machine}
use Rattle.tp_exec_machine.specs.Machine.{Machine}
use Rattle.tp_script.specs.Pending.{Reading}
use Rattle.tp_script.specs.Serving.{EndsUnwritten}
use Rattle.tp_script.specs.declared.serving.Served.{Served}
use Rattle.tp_journal_pairs.specs.Journal.{Entry}
use Rattle.tp_journal_pairs.specs.Writing.{EndsJournal, EndsUnlogged, Journals}
use Rattle.tp_journal_pairs.specs.declared.faults.JournalFault.{JournalFault}
use Rattle.tp_journal_pairs.specs.declared.faults.JournalFault.TheVariants.{Read, Write, Log, TooLong}
use Rattle.tp_cli_bare.specs.Logged.{LogsAll, LogsLines, LogsPart}
use Rattle.tp_task.specs.declared.task.Task.{Task}
use Rattle.tp_happen.specs.tp_plan_text.declared.plans.Step.{Step}
use Rattle.tp_cli_audit.specs.Bare.{SaysAuditPart, SaysJournal, SaysWrong}
use Rattle.tp_cli_run.specs.Invalid.{SaysInvalid, SaysInvalidPart}
use Rattle.tp_cli_run.specs.Runs.{EndsInNone, EndsInPart, EndsInPlan, RunsNamed, RunsPart, RunsToNone, RunsToPlan, WritesPart}
use Rattle.tp_journal.specs.declared.faults.JournalHead.{JournalHead}
use Rattle.tp_cli_audit.specs.Audits.{found_line}
use Rattle.tp_cli_audit.specs.declared.auditing.Found.{Found}
use Rattle.tp_cli_audit.specs.declared.auditing.Found.TheVariants as found
use Rattle.tp_cli_audit.specs.PlanAudits.{IsPlanFound, SaysFound, SaysPlanJournal, SaysPlanNo, WithHead, WritesAuditPart}
use Rattle.tp_cli_run.specs.LogFile.{LogFile}
use Rattle.tp_cli_run.specs.RunJournals.{LogsInNone, LogsInPlan, LogsToNone, LogsToPlan}
use Rattle.tp_cli_plan.specs.Searches.{SaysNoPlan, SearchesPart, WritesPlan}
use Rattle.tp_cli_split.specs.Splits.{SplitsPart, WritesPlan as WritesIntervals, WritesSome, WritesSplit}
use Rattle.tp_cli_plan.specs.declared.search_words.SearchWords.{SearchWords}
use Rattle.tp_cli_draw.specs.Draws.{DrawsPart, WritesDrawn}
use Rattle.tp_cli_inputs.specs.declared.draw_words.DrawWords.{DrawWords}
use Rattle.tp_cli_audit.specs.BareResume.{ResumesBare, ResumesPart, SaysWrongOld}
use Rattle.tp_cli_audit.specs.RunResume.{GoesOfPlan, ResumesRun}
use Rattle.tp_cli.specs.CallFiles.{CallFiles, journal_file}
use Rattle.tp_cli.specs.Checks.{SaysPart, SaysValid}
use Rattle.tp_cli.specs.Done.{AnswersNo, DoesPart, DoesWhatIsAsked, IsAnsweredNo, IsDone, IsPartDone}
use Rattle.tp_cli.specs.Journaled.{AsksForNoJournal, LogsSome}
use Rattle.tp_cli.specs.Networks.{ShowsNetwork, ShowsPart}
use Rattle.tp_cli_files.specs.FaultLines.{TellsFault, TellsRefusal, line_of}
use Rattle.tp_cli_files.specs.declared.faults.Fault.TheVariants as faults
use Rattle.tp_cli_args.specs.Requests.{AsksFor, AsksForNoCommands}
use Rattle.tp_cli.specs.Endings.{EndsCall}
use Rattle.tp_cli.specs.Streams.{Ends, HandsOn, IsStopped, Runs, TellsSome}
use Rattle.tp_cli_inputs.specs.declared.plan_words.PlanWords.{PlanWords}
use Rattle.tp_cli_args.specs.declared.requests.Request.{Request}
use Rattle.tp_cli_args.specs.declared.requests.Request.TheVariants.{Bare, BareLog, BareResume, Check, Net, Run, RunLog, RunResume, Plan, Audit, PlanAudit, Split, Part, Draw, Help}

-- what was appended there was appended here
abbrev pub Shift : Option (List ℕ) → Option (List ℕ) → Option (List ℕ) → Option (List ℕ) → Type 0
Shift a b c d = (xs : List ℕ) → Appends a b xs → Appends c d xs

pub shift : (a b c d : Option (List ℕ)) → Keeps c a → Keeps b d → Shift a b c d
shift a b None d before after xs h = tt
shift None b (Some zs) d before after xs h = absurd before
shift (Some ys) None (Some zs) d before after xs h = absurd h
shift (Some ys) (Some ws) (Some zs) None before after xs h = absurd after
shift (Some ys) (Some ws) (Some zs) (Some vs) before after xs h = after ∙ (h ∙ ap (λ t. t ++ xs) before)

part_over : (a b c d : Option (List ℕ)) (xs : List ℕ) → Shift a b c d → AppendsPart a b xs → AppendsPart c d xs
part_over a b c d xs over h = record { count = h.count; within = h.within; held = over _ h.held }

all_over : (input a b c d : Option (List ℕ)) → Shift a b c d → AnswersAll input a b → AnswersAll input c d
all_over None a b c d over h = tt
all_over (Some bytes) a b c d over h =
    record {
      head = h.head;
      setting = h.setting;
      line = h.line;
      lags = h.lags;
      lines = h.lines;
      text = h.text;
      last = h.last;
      read = h.read;
      short = h.short;
      spelled = h.spelled;
      set = h.set;
      end = h.end;
      ran = h.ran;
      written = over _ h.written;
    }

pub answers_part_over : (input a b c d : Option (List ℕ)) → Shift a b c d → AnswersPart input a b → AnswersPart input c d
answers_part_over None a b c d over h = tt
answers_part_over (Some bytes) a b c d over (inl none) = inl (over _ none)
answers_part_over (Some bytes) a b c d over (inr h) =
    inr (record {
      head = h.head;
      setting = h.setting;
      line = h.line;
      lags = h.lags;
      lines = h.lines;
      rest = h.rest;
      text = h.text;
      last = h.last;
      read = h.read;
      short = h.short;
      spelled = h.spelled;
      set = h.set;
      end = h.end;
      ran = h.ran;
      written = part_over a b c d _ over h.written;
    })

valid_over : (files : List ℕ → Option (List ℕ)) (w : PlanWords) (a b c d : Option (List ℕ)) → Shift a b c d → SaysValid files w a b → SaysValid files w c d
valid_over files w a b c d over h = record { task = h.task; steps = h.steps; named = h.named; valid = h.valid; written = over _ h.written }

invalid_over : (files : List ℕ → Option (List ℕ)) (w : PlanWords) (a b c d : Option (List ℕ)) → Shift a b c d → SaysInvalid files w a b → SaysInvalid files w c d
invalid_over files w a b c d over h =
    record { task = h.task; steps = h.steps; tick = h.tick; why = h.why; named = h.named; first = h.first; invalid = h.invalid; written = over _ h.written }

says_part_over : (files : List ℕ → Option (List ℕ)) (w : PlanWords) (a b c d : Option (List ℕ)) → Shift a b c d → SaysPart files w a b → SaysPart files w c d
says_part_over files w a b c d over (inl none) = inl (over _ none)
says_part_over files w a b c d over (inr h) = inr (h.0, h.1, h.2, h.3, h.4, part_over a b c d _ over h.5)

network_over : (files : List ℕ → Option (List ℕ)) (w : PlanWords) (a b c d : Option (List ℕ)) → Shift a b c d → ShowsNetwork files w a b → ShowsNetwork files w c d
network_over files w a b c d over h =
    record { task = h.task; steps = h.steps; net = h.net; named = h.named; is_net = h.is_net; written = over _ h.written }

shows_part_over : (files : List ℕ → Option (List ℕ)) (w : PlanWords) (a b c d : Option (List ℕ)) → Shift a b c d → ShowsPart files w a b → ShowsPart files w c d
shows_part_over files w a b c d over (inl none) = inl (over _ none)
shows_part_over files w a b c d over (inr h) = inr (h.0, h.1, h.2, h.3, h.4, part_over a b c d _ over h.5)

to_plan_over : (task : Task) (steps : List Step) (horizon : ℕ) (input a b c d : Option (List ℕ)) → Shift a b c d → EndsInPlan task steps horizon input a b → EndsInPlan task steps horizon input c d
to_plan_over task steps horizon input a b c d over h =
    record {
      net = h.net;
      is_net = h.is_net;
      answers = h.answers;
      last = h.last;
      answered = h.answered;
      run = h.run;
      is = h.is;
      written = over _ h.written;
    }

to_none_over : (task : Task) (steps : List Step) (horizon : ℕ) (input a b c d : Option (List ℕ)) → Shift a b c d → EndsInNone task steps horizon input a b → EndsInNone task steps horizon input c d
to_none_over task steps horizon input a b c d over h =
    record { net = h.net; is_net = h.is_net; answers = h.answers; last = h.last; answered = h.answered; none = h.none; written = over _ h.written }

to_part_over : (task : Task) (steps : List Step) (horizon : ℕ) (input a b c d : Option (List ℕ)) → Shift a b c d → EndsInPart task steps horizon input a b → EndsInPart task steps horizon input c d
to_part_over task steps horizon input a b c d over h =
    record {
      net = h.net;
      is_net = h.is_net;
      answers = h.answers;
      last = h.last;
      answered = h.answered;
      run = h.run;
      is = h.is;
      count = h.count;
      within = h.within;
      written = over _ h.written;
    }

run_over : (files : List ℕ → Option (List ℕ)) (w : PlanWords) (input a b c d : Option (List ℕ)) → Shift a b c d → RunsToPlan files w input a b → RunsToPlan files w input c d
run_over files w input a b c d over h = (h.0, h.1, h.2, h.3, to_plan_over h.0 h.1 w.horizon input a b c d over h.4)

runs_none_over : (files : List ℕ → Option (List ℕ)) (w : PlanWords) (input a b c d : Option (List ℕ)) → Shift a b c d → RunsToNone files w input a b → RunsToNone files w input c d
runs_none_over files w input a b c d over (inl h) = inl (invalid_over files w a b c d over h)
runs_none_over files w input a b c d over (inr h) = inr (h.0, h.1, h.2, h.3, to_none_over h.0 h.1 w.horizon input a b c d over h.4)

invalid_part_over : (files : List ℕ → Option (List ℕ)) (w : PlanWords) (a b c d : Option (List ℕ)) → Shift a b c d → SaysInvalidPart files w a b → SaysInvalidPart files w c d
invalid_part_over files w a b c d over h =
    record {
      task = h.task;
      steps = h.steps;
      tick = h.tick;
      why = h.why;
      named = h.named;
      first = h.first;
      invalid = h.invalid;
      part = part_over a b c d _ over h.part;
    }

writes_part_over : (task : Task) (steps : List Step) (horizon : ℕ) (input a b c d : Option (List ℕ)) → Shift a b c d → WritesPart task steps horizon input a b → WritesPart task steps horizon input c d
writes_part_over task steps horizon input a b c d over (inl h) = inl (h.0, h.1, (h.2.0, h.2.1, h.2.2, h.2.3, part_over a b c d _ over h.2.4))
writes_part_over task steps horizon input a b c d over (inr h) = inr (to_part_over task steps horizon input a b c d over h)

runs_part_over : (files : List ℕ → Option (List ℕ)) (w : PlanWords) (input a b c d : Option (List ℕ)) → Shift a b c d → RunsPart files w input a b → RunsPart files w input c d
runs_part_over files w input a b c d over (inl none) = inl (over _ none)
runs_part_over files w input a b c d over (inr (inl h)) = inr (inl (invalid_part_over files w a b c d over h))
runs_part_over files w input a b c d over (inr (inr h)) =
    inr (inr (h.0, h.1, h.2, h.3, writes_part_over h.0 h.1 w.horizon input a b c d over h.4))

plan_over : (files : List ℕ → Option (List ℕ)) (w : SearchWords) (a b c d : Option (List ℕ)) → Shift a b c d → WritesPlan files w a b → WritesPlan files w c d
plan_over files w a b c d over h =
    record {
      task = h.task;
      text = h.text;
      domain = h.domain;
      problem = h.problem;
      are_named = h.are_named;
      task_of = h.task_of;
      plan = h.plan;
      of_all = h.of_all;
      written = over _ h.written;
    }

no_plan_over : (files : List ℕ → Option (List ℕ)) (w : SearchWords) (a b c d : Option (List ℕ)) → Shift a b c d → SaysNoPlan files w a b → SaysNoPlan files w c d
no_plan_over files w a b c d over (inl h) = inl (record { task = h.task; line = h.line; named = h.named; why = h.why; of_all = h.of_all; written = over _ h.written })
no_plan_over files w a b c d over (inr h) =
    inr (record {
      wishes = h.wishes;
      order = h.order;
      task = h.task;
      line = h.line;
      domain = h.domain;
      problem = h.problem;
      are_named = h.are_named;
      task_of = h.task_of;
      why = h.why;
      of_all = h.of_all;
      written = over _ h.written;
    })

searches_part_over : (files : List ℕ → Option (List ℕ)) (w : SearchWords) (a b c d : Option (List ℕ)) → Shift a b c d → SearchesPart files w a b → SearchesPart files w c d
searches_part_over files w a b c d over (inl none) = inl (over _ none)
searches_part_over files w a b c d over (inr h) =
    inr (record {
      task = h.task;
      text = h.text;
      domain = h.domain;
      problem = h.problem;
      are_named = h.are_named;
      is = h.is;
      part = part_over a b c d _ over h.part;
    })

journal_over : (input a b c d : Option (List ℕ)) → Shift a b c d → SaysJournal input a b → SaysJournal input c d
journal_over input a b c d over h = (h.0, h.1, over _ h.2)

wrong_over : (input a b c d : Option (List ℕ)) → Shift a b c d → SaysWrong input a b → SaysWrong input c d
wrong_over input a b c d over h = (h.0, h.1, over _ h.2)

audit_part_over : (input a b c d : Option (List ℕ)) → Shift a b c d → SaysAuditPart input a b → SaysAuditPart input c d
audit_part_over input a b c d over (inl none) = inl (over _ none)
audit_part_over input a b c d over (inr h) = inr (h.0, h.1, part_over a b c d _ over h.2)

logs_over : (input a b c d log logged : Option (List ℕ)) → Shift a b c d → LogsAll input a b log logged → LogsAll input c d log logged
logs_over None a b c d log logged over h = tt
logs_over (Some bytes) a b c d log logged over h =
    record {
      answers = record {
        head = h.answers.head;
        setting = h.answers.setting;
        line = h.answers.line;
        lags = h.answers.lags;
        lines = h.answers.lines;
        text = h.answers.text;
        last = h.answers.last;
        read = h.answers.read;
        short = h.answers.short;
        spelled = h.answers.spelled;
        set = h.answers.set;
        end = h.answers.end;
        ran = h.answers.ran;
        written = over _ h.answers.written;
      };
      entries = h.entries;
      entered = h.entered;
      runs = h.runs;
      logs = h.logs;
    }

unlogged_over : (old new : Machine) (lines : List (List ℕ)) (entries : List Entry) (a b c d log logged : Option (List ℕ)) → Shift a b c d → EndsUnlogged old new lines entries a b log logged → EndsUnlogged old new lines entries c d log logged
unlogged_over old new lines entries a b c d log logged over h =
    record {
      lines_before = h.lines_before;
      lines_last = h.lines_last;
      before = h.before;
      last = h.last;
      said = h.said;
      unsaid = h.unsaid;
      mid = h.mid;
      lines_are = h.lines_are;
      entries_are = h.entries_are;
      one = h.one;
      ran_before = h.ran_before;
      ran_last = h.ran_last;
      answered = over _ h.answered;
      count = h.count;
      within = h.within;
      pairs_before = h.pairs_before;
      logs = h.logs;
    }

unwritten_over : (old new : Machine) (lines : List (List ℕ)) (text : List ℕ) (a b c d : Option (List ℕ)) → Shift a b c d → EndsUnwritten old new lines text a b → EndsUnwritten old new lines text c d
unwritten_over old new lines text a b c d over h =
    record {
      lines_before = h.lines_before;
      line = h.line;
      said = h.said;
      answer = h.answer;
      mid = h.mid;
      count = h.count;
      lines_are = h.lines_are;
      text_is = h.text_is;
      ran_before = h.ran_before;
      ran_last = h.ran_last;
      within = h.within;
      written = over _ h.written;
    }

ends_journal_over : (old new : Machine) (after : Reading) (lines : List (List ℕ)) (entries : List Entry) (text part : List ℕ) (a b c d log logged : Option (List ℕ)) (result : Result Served JournalFault) → Shift a b c d → EndsJournal old new after lines entries text part a b log logged result → EndsJournal old new after lines entries text part c d log logged result
ends_journal_over old new after lines entries text part a b c d log logged (Ok served) over h = (h.0, h.1, over _ h.2, h.3, h.4)
ends_journal_over old new after lines entries text part a b c d log logged (Err Read) over h = (over _ h.0, h.1)
ends_journal_over old new after lines entries text part a b c d log logged (Err TooLong) over h = (over _ h.0, h.1, h.2, h.3)
ends_journal_over old new after lines entries text part a b c d log logged (Err Write) over h = (h.0, unwritten_over old new lines text a b c d over h.1, h.2)
ends_journal_over old new after lines entries text part a b c d log logged (Err Log) over h = (h.0, unlogged_over old new lines entries a b c d log logged over h.1)

journals_over : (old new : Machine) (before after : Reading) (a b c d log logged : Option (List ℕ)) (result : Result Served JournalFault) → Shift a b c d → Journals old new before after a b log logged result → Journals old new before after c d log logged result
journals_over old new before after a b c d log logged result over h =
    record {
      lines = h.lines;
      entries = h.entries;
      text = h.text;
      left = h.left;
      part = h.part;
      read = h.read;
      behind = h.behind;
      free = h.free;
      counted = h.counted;
      ran = h.ran;
      transcript = h.transcript;
      runs = h.runs;
      ended = ends_journal_over old new after h.lines h.entries h.text h.part a b c d log logged result over h.ended;
    }

log_lines_over : (input a b c d log logged : Option (List ℕ)) (result : Result Served JournalFault) → Shift a b c d → LogsLines input a b log logged result → LogsLines input c d log logged result
log_lines_over input a b c d log logged result over h =
    record {
      head = h.head;
      setting = h.setting;
      start = h.start;
      behind_head = h.behind_head;
      behind_lags = h.behind_lags;
      after = h.after;
      last = h.last;
      from = h.from;
      first = h.first;
      most = h.most;
      takes = h.takes;
      same = h.same;
      lags = h.lags;
      still = h.still;
      journals = journals_over (first_machine h.head h.setting) h.last h.behind_lags h.after a b c d log logged result over h.journals;
    }

logs_some_over : (files : CallFiles) (input a b c d : Option (List ℕ)) → Shift a b c d → LogsSome files input a b → LogsSome files input c d
logs_some_over files input a b c d over (inl none) = inl (over _ none)
logs_some_over files input a b c d over (inr h) = inr (h.0, log_lines_over input a b c d files.blank files.kept (Err h.0) over h.1)

-- what a run with a journal tells of a fault
pub logs_part : (files : CallFiles) (input a b : Option (List ℕ)) → LogsPart input a b files.blank files.kept → LogsSome files input a b
logs_part files input a b (inl same) = inl (subst (λ n. Appends a n []) (sym same) (Appends-nil a))
logs_part files input a b (inr h) = inr h

-- what is said of the run of a named plan may be said otherwise
named_over : (held : List ℕ → Option (List ℕ)) (w : PlanWords) (P Q : Task → List Step → Type 0) → ((task : Task) (steps : List Step) → P task steps → Q task steps) → RunsNamed held w P → RunsNamed held w Q
named_over held w P Q f h = (h.0, h.1, h.2, h.3, f h.0 h.1 h.4)

log_plan_over : (task : Task) (steps : List Step) (horizon : ℕ) (file : LogFile) (input a b c d : Option (List ℕ)) → Shift a b c d → LogsInPlan task steps horizon input a b file → LogsInPlan task steps horizon input c d file
log_plan_over task steps horizon file input a b c d over h =
    record {
      ends = record {
        net = h.ends.net;
        is_net = h.ends.is_net;
        answers = h.ends.answers;
        last = h.ends.last;
        answered = h.ends.answered;
        run = h.ends.run;
        is = h.ends.is;
        written = over _ h.ends.written;
      };
      logged = h.logged;
      named = h.named;
    }

log_none_over : (task : Task) (steps : List Step) (horizon : ℕ) (file : LogFile) (input a b c d : Option (List ℕ)) → Shift a b c d → LogsInNone task steps horizon input a b file → LogsInNone task steps horizon input c d file
log_none_over task steps horizon file input a b c d over h =
    record {
      ends = record {
        net = h.ends.net;
        is_net = h.ends.is_net;
        answers = h.ends.answers;
        last = h.ends.last;
        answered = h.ends.answered;
        none = h.ends.none;
        written = over _ h.ends.written;
      };
      logged = h.logged;
      named = h.named;
    }

run_log_over : (files : CallFiles) (w : PlanWords) (name : List ℕ) (input a b c d : Option (List ℕ)) → Shift a b c d → LogsToPlan files.held w input a b (journal_file name files) → LogsToPlan files.held w input c d (journal_file name files)
run_log_over files w name input a b c d over h =
    let file = journal_file name files in
    named_over files.held w (λ task steps. LogsInPlan task steps w.horizon input a b file) (λ task steps. LogsInPlan task steps w.horizon input c d file) (λ task steps. log_plan_over task steps w.horizon file input a b c d over) h

run_log_none_over : (files : CallFiles) (w : PlanWords) (name : List ℕ) (input a b c d : Option (List ℕ)) → Shift a b c d → LogsToNone files.held w input a b (journal_file name files) → LogsToNone files.held w input c d (journal_file name files)
run_log_none_over files w name input a b c d over (inl h) = inl (invalid_over files.held w a b c d over h.0, h.1)
run_log_none_over files w name input a b c d over (inr h) =
    let file = journal_file name files in
    inr (named_over files.held w (λ task steps. LogsInNone task steps w.horizon input a b file) (λ task steps. LogsInNone task steps w.horizon input c d file) (λ task steps. log_none_over task steps w.horizon file input a b c d over) h)

-- ---- audits of the runs of plans

head_over : (input : Option (List ℕ)) (P Q : JournalHead → Type 0) → ((head : JournalHead) → P head → Q head) → WithHead input P → WithHead input Q
head_over input P Q f h = (h.0, h.1, f h.0 h.2)

found_over : (task : Task) (steps : List Step) (horizon : ℕ) (head : JournalHead) (input a b c d : Option (List ℕ)) (what : Found) → Shift a b c d → SaysFound task steps horizon head input a b what → SaysFound task steps horizon head input c d what
found_over task steps horizon head input a b c d what over h = (h.0, over _ h.1)

plan_journal_over : (held : List ℕ → Option (List ℕ)) (w : PlanWords) (input a b c d : Option (List ℕ)) → Shift a b c d → SaysPlanJournal held w input a b → SaysPlanJournal held w input c d
plan_journal_over held w input a b c d over h =
    head_over input
    (λ head. RunsNamed held w (λ task steps. (pairs : ℕ) × SaysFound task steps w.horizon head input a b (found.Journal pairs)))
    (λ head. RunsNamed held w (λ task steps. (pairs : ℕ) × SaysFound task steps w.horizon head input c d (found.Journal pairs)))
    (λ head. named_over held w
    (λ task steps. (pairs : ℕ) × SaysFound task steps w.horizon head input a b (found.Journal pairs))
    (λ task steps. (pairs : ℕ) × SaysFound task steps w.horizon head input c d (found.Journal pairs))
    (λ task steps is. (is.0, found_over task steps w.horizon head input a b c d (found.Journal is.0) over is.1)))
    h

-- one answer of no, under a head
no_under : (held : List ℕ → Option (List ℕ)) (w : PlanWords) (head : JournalHead) (input a b c d : Option (List ℕ)) → Shift a b c d → SaysInvalid held w a b ⊎ RunsNamed held w (λ task steps. (n : ℕ) × SaysFound task steps w.horizon head input a b (found.Wrong n)) → SaysInvalid held w c d ⊎ RunsNamed held w (λ task steps. (n : ℕ) × SaysFound task steps w.horizon head input c d (found.Wrong n))
no_under held w head input a b c d over (inl h) = inl (invalid_over held w a b c d over h)
no_under held w head input a b c d over (inr h) =
    inr (named_over held w
    (λ task steps. (n : ℕ) × SaysFound task steps w.horizon head input a b (found.Wrong n))
    (λ task steps. (n : ℕ) × SaysFound task steps w.horizon head input c d (found.Wrong n))
    (λ task steps is. (is.0, found_over task steps w.horizon head input a b c d (found.Wrong is.0) over is.1))
    h)

plan_no_over : (held : List ℕ → Option (List ℕ)) (w : PlanWords) (input a b c d : Option (List ℕ)) → Shift a b c d → SaysPlanNo held w input a b → SaysPlanNo held w input c d
plan_no_over held w input a b c d over h =
    head_over input
    (λ head. SaysInvalid held w a b ⊎ RunsNamed held w (λ task steps. (n : ℕ) × SaysFound task steps w.horizon head input a b (found.Wrong n)))
    (λ head. SaysInvalid held w c d ⊎ RunsNamed held w (λ task steps. (n : ℕ) × SaysFound task steps w.horizon head input c d (found.Wrong n)))
    (λ head is. no_under held w head input a b c d over is) h

abbrev WritesFound : PlanWords → JournalHead → Option (List ℕ) → Option (List ℕ) → Option (List ℕ) → Task → List Step → Type 0
WritesFound w head input a b task steps = (f : Found) × IsPlanFound task steps w.horizon head input f × AppendsPart a b (found_line f)

part_under : (held : List ℕ → Option (List ℕ)) (w : PlanWords) (head : JournalHead) (input a b c d : Option (List ℕ)) → Shift a b c d → SaysInvalidPart held w a b ⊎ RunsNamed held w (WritesFound w head input a b) → SaysInvalidPart held w c d ⊎ RunsNamed held w (WritesFound w head input c d)
part_under held w head input a b c d over (inl h) = inl (invalid_part_over held w a b c d over h)
part_under held w head input a b c d over (inr h) =
    inr (named_over held w (WritesFound w head input a b) (WritesFound w head input c d) (λ task steps is. (is.0, is.1, part_over a b c d _ over is.2)) h)

plan_audit_part_over : (held : List ℕ → Option (List ℕ)) (w : PlanWords) (input a b c d : Option (List ℕ)) → Shift a b c d → WritesAuditPart held w input a b → WritesAuditPart held w input c d
plan_audit_part_over held w input a b c d over (inl none) = inl (over _ none)
plan_audit_part_over held w input a b c d over (inr h) =
    inr (head_over input
    (λ head. SaysInvalidPart held w a b ⊎ RunsNamed held w (WritesFound w head input a b))
    (λ head. SaysInvalidPart held w c d ⊎ RunsNamed held w (WritesFound w head input c d))
    (λ head is. part_under held w head input a b c d over is) h)

intervals_over : (agent : Option ℕ) (task : Task) (steps : List Step) (horizon : ℕ) (owners-held a b c d : Option (List ℕ)) → Shift a b c d → WritesIntervals agent task steps horizon owners-held a b → WritesIntervals agent task steps horizon owners-held c d
intervals_over agent task steps horizon owners-held a b c d over h = (h.0, h.1, over _ h.2)

some_intervals_over : (agent : Option ℕ) (task : Task) (steps : List Step) (horizon : ℕ) (owners-held a b c d : Option (List ℕ)) → Shift a b c d → WritesSome agent task steps horizon owners-held a b → WritesSome agent task steps horizon owners-held c d
some_intervals_over agent task steps horizon owners-held a b c d over h = (h.0, h.1, part_over a b c d _ over h.2)

split_over : (agent : Option ℕ) (held : List ℕ → Option (List ℕ)) (w : PlanWords) (owners : List ℕ) (a b c d : Option (List ℕ)) → Shift a b c d → WritesSplit agent held w owners a b → WritesSplit agent held w owners c d
split_over agent held w owners a b c d over h = (h.0, h.1, h.2, h.3, intervals_over agent h.0 h.1 w.horizon (held owners) a b c d over h.4)

split_part_over : (agent : Option ℕ) (held : List ℕ → Option (List ℕ)) (w : PlanWords) (owners : List ℕ) (a b c d : Option (List ℕ)) → Shift a b c d → SplitsPart agent held w owners a b → SplitsPart agent held w owners c d
split_part_over agent held w owners a b c d over (inl none) = inl (over _ none)
split_part_over agent held w owners a b c d over (inr (inl h)) = inr (inl (invalid_part_over held w a b c d over h))
split_part_over agent held w owners a b c d over (inr (inr h)) =
    inr (inr (h.0, h.1, h.2, h.3, some_intervals_over agent h.0 h.1 w.horizon (held owners) a b c d over h.4))

resumes_over : (old input a b c d : Option (List ℕ)) (file : LogFile) → Shift a b c d → ResumesBare old input a b file → ResumesBare old input c d file
resumes_over old input a b c d file over h = (h.0, h.1, h.2, h.3, h.4, h.5, h.6, over _ h.7)

wrong_old_over : (old a b c d : Option (List ℕ)) (file : LogFile) → Shift a b c d → SaysWrongOld old a b file → SaysWrongOld old c d file
wrong_old_over old a b c d file over h = (h.0, h.1, over _ h.2, h.3)

resumes_part_over : (old input a b c d : Option (List ℕ)) → Shift a b c d → ResumesPart old input a b → ResumesPart old input c d
resumes_part_over old input a b c d over (inl none) = inl (over _ none)
resumes_part_over old input a b c d over (inr (inl h)) = inr (inl (h.0, h.1, part_over a b c d _ over h.2))
resumes_part_over old input a b c d over (inr (inr h)) =
    inr (inr (h.0, h.1, h.2, h.3, h.4, h.5, h.6, h.7, h.8, part_over a b c d _ over h.9))

-- the first fault of a plan, or why a run does not go on
goes_over : (held : List ℕ → Option (List ℕ)) (w : PlanWords) (kept : List ℕ) (input a b c d : Option (List ℕ)) (file : LogFile) (done : Bool) → Shift a b c d → GoesOfPlan held w kept input a b file done → GoesOfPlan held w kept input c d file done
goes_over held w kept input a b c d file true over h =
    named_over held w _ _ (λ task steps g. record { net = g.net; is_net = g.is_net; head = g.head; last = g.last; answers = g.answers; continues = g.continues; run = g.run; is = g.is; written = over _ g.written }) h
goes_over held w kept input a b c d file false over (inl h) = inl (invalid_over held w a b c d over h.0, h.1)
goes_over held w kept input a b c d file false over (inr h) =
    inr (named_over held w _ _ (λ task steps g. elim g [
      | inl n ↦ inl (record { net = n.net; is_net = n.is_net; head = n.head; last = n.last; answers = n.answers; continues = n.continues; none = n.none; written = over _ n.written })
      | inr x ↦ inr (record { net = x.net; is_net = x.is_net; head = x.head; n = x.n; wrong = x.wrong; written = over _ x.written; made_none = x.made_none })
    ]) h)

resumes_run_over : (held : List ℕ → Option (List ℕ)) (w : PlanWords) (old : List ℕ) (input a b c d : Option (List ℕ)) (file : LogFile) (done : Bool) → Shift a b c d → ResumesRun held w old input a b file done → ResumesRun held w old input c d file done
resumes_run_over held w old input a b c d file done over h = (h.0, h.1, goes_over held w h.0 input a b c d file done over h.2)

drawn_over : (held : List ℕ → Option (List ℕ)) (w : DrawWords) (a b c d : Option (List ℕ)) (drew : Bool) → Shift a b c d → WritesDrawn held w a b drew → WritesDrawn held w c d drew
drawn_over held w a b c d drew over h = (h.0, h.1, h.2, over _ h.3)

draws_part_over : (held : List ℕ → Option (List ℕ)) (w : DrawWords) (a b c d : Option (List ℕ)) → Shift a b c d → DrawsPart held w a b → DrawsPart held w c d
draws_part_over held w a b c d over (inl none) = inl (over _ none)
draws_part_over held w a b c d over (inr h) = inr (h.0, h.1, part_over a b c d _ over h.2)

done_over : (request : Request) (files : CallFiles) (input a b c d : Option (List ℕ)) → Shift a b c d → IsDone request files input a b → IsDone request files input c d
done_over Bare files input a b c d over h = all_over input a b c d over h
done_over (BareLog log) files input a b c d over h = (logs_over input a b c d files.blank files.kept over h.0, h.1, h.2)
done_over (BareResume old log) files input a b c d over h = resumes_over (files.held old.now) input a b c d (journal_file log.now files) over h
done_over (Check w) files input a b c d over h = valid_over files.held w a b c d over h
done_over (Net w) files input a b c d over h = network_over files.held w a b c d over h
done_over (Run w) files input a b c d over h = run_over files.held w input a b c d over h
done_over (RunLog w log) files input a b c d over h = run_log_over files w log.now input a b c d over h
done_over (RunResume w old log) files input a b c d over h = resumes_run_over files.held w old.now input a b c d (journal_file log.now files) true over h
done_over (Plan w) files input a b c d over h = plan_over files.held w a b c d over h
done_over (Audit log) files input a b c d over h = journal_over (files.held log.now) a b c d over h
done_over (PlanAudit log w) files input a b c d over h = plan_journal_over files.held w (files.held log.now) a b c d over h
done_over (Split w owners) files input a b c d over h = split_over None files.held w owners.now a b c d over h
done_over (Part w owners agent) files input a b c d over h = split_over (Some agent) files.held w owners.now a b c d over h
done_over (Draw w) files input a b c d over h = drawn_over files.held w a b c d true over h
done_over (Help text) files input a b c d over h = over _ h

part_done_over : (request : Request) (files : CallFiles) (input a b c d : Option (List ℕ)) → Shift a b c d → IsPartDone request files input a b → IsPartDone request files input c d
part_done_over Bare files input a b c d over h = answers_part_over input a b c d over h
part_done_over (BareLog log) files input a b c d over h = logs_some_over files input a b c d over h
part_done_over (BareResume old log) files input a b c d over h = resumes_part_over (files.held old.now) input a b c d over h
part_done_over (Check w) files input a b c d over h = says_part_over files.held w a b c d over h
part_done_over (Net w) files input a b c d over h = shows_part_over files.held w a b c d over h
part_done_over (Run w) files input a b c d over h = runs_part_over files.held w input a b c d over h
part_done_over (RunLog w log) files input a b c d over h = runs_part_over files.held w input a b c d over h
part_done_over (RunResume w old log) files input a b c d over h = (h.0, part_over a b c d _ over h.1)
part_done_over (Plan w) files input a b c d over h = searches_part_over files.held w a b c d over h
part_done_over (Audit log) files input a b c d over h = audit_part_over (files.held log.now) a b c d over h
part_done_over (PlanAudit log w) files input a b c d over h = plan_audit_part_over files.held w (files.held log.now) a b c d over h
part_done_over (Split w owners) files input a b c d over h = split_part_over None files.held w owners.now a b c d over h
part_done_over (Part w owners agent) files input a b c d over h = split_part_over (Some agent) files.held w owners.now a b c d over h
part_done_over (Draw w) files input a b c d over h = draws_part_over files.held w a b c d over h
part_done_over (Help text) files input a b c d over h = part_over a b c d _ over h

pub does_over : (words : List (List ℕ)) (files : CallFiles) (input a b c d : Option (List ℕ)) → Shift a b c d → DoesWhatIsAsked words files input a b → DoesWhatIsAsked words files input c d
does_over words files input a b c d over h =
    record { request = h.request; asked = h.asked; done = done_over h.request files input a b c d over h.done }

said_over : (request : Request) (files : CallFiles) (input a b c d : Option (List ℕ)) → Shift a b c d → IsAnsweredNo request files input a b → IsAnsweredNo request files input c d
said_over Bare files input a b c d over h = absurd h
said_over (BareLog log) files input a b c d over h = absurd h
said_over (BareResume old log) files input a b c d over h = wrong_old_over (files.held old.now) a b c d (journal_file log.now files) over h
said_over (Check w) files input a b c d over h = invalid_over files.held w a b c d over h
said_over (Net w) files input a b c d over h = invalid_over files.held w a b c d over h
said_over (Run w) files input a b c d over h = runs_none_over files.held w input a b c d over h
said_over (RunLog w log) files input a b c d over h = run_log_none_over files w log.now input a b c d over h
said_over (RunResume w old log) files input a b c d over h = resumes_run_over files.held w old.now input a b c d (journal_file log.now files) false over h
said_over (Plan w) files input a b c d over h = no_plan_over files.held w a b c d over h
said_over (Audit log) files input a b c d over h = wrong_over (files.held log.now) a b c d over h
said_over (PlanAudit log w) files input a b c d over h = plan_no_over files.held w (files.held log.now) a b c d over h
said_over (Split w owners) files input a b c d over h = invalid_over files.held w a b c d over h
said_over (Part w owners agent) files input a b c d over h = invalid_over files.held w a b c d over h
said_over (Draw w) files input a b c d over h = drawn_over files.held w a b c d false over h
said_over (Help text) files input a b c d over h = absurd h

pub no_over : (words : List (List ℕ)) (files : CallFiles) (input a b c d : Option (List ℕ)) → Shift a b c d → AnswersNo words files input a b → AnswersNo words files input c d
no_over words files input a b c d over h =
    record { request = h.request; asked = h.asked; said = said_over h.request files input a b c d over h.said }

pub does_part_over : (words : List (List ℕ)) (files : CallFiles) (input a b c d : Option (List ℕ)) → Shift a b c d → DoesPart words files input a b → DoesPart words files input c d
does_part_over words files input a b c d over (inl none) = inl (over _ none)
does_part_over words files input a b c d over (inr h) = inr (h.0, h.1, part_done_over h.0 files input a b c d over h.2)

-- ---- faults

pub tells_some : (failures failures-now : ℕ) (a b : Option (List ℕ)) → TellsFault [] failures a failures-now b → TellsSome a b
tells_some failures failures-now a b h = (h.text, [], h.is, inl refl, h.told.part)

pub refusal_some : (status failures failures-now : ℕ) (a b : Option (List ℕ)) → TellsRefusal status failures a failures-now b → TellsSome a b
refusal_some status failures failures-now a b (inl h) = tells_some failures failures-now a b h
refusal_some status failures failures-now a b (inr h) =
    (line_of faults.ArgumentsWords, h.1.0, (codes "arguments 1 words", refl), inr refl, h.1.1.part)

-- ---- a run

-- what `run_words` tells of the output
pub runs_from : (words : List (List ℕ)) (files : CallFiles) (input : Option (List ℕ)) (status : ℕ) (held now : Option (List ℕ)) → (status ≡ 0 → DoesWhatIsAsked words files input held now) → (status ≡ 1 → AnswersNo words files input held now) → (AsksFor words Bare → status ≡ 0 → AnswersAll input held now) → (AsksFor words Bare → status ≢ 0 → AnswersPart input held now) → (status ≡ 3 → DoesPart words files input held now) → (AsksForNoCommands words → status ≡ 2 → now ≡ held) → Runs words files input status held now
runs_from words files input status held now done answered all part broken kept =
    record {
      done = done;
      no = answered;
      all = all;
      part = part;
      broken = broken;
      kept = λ none two. subst (λ n. Appends held n []) (sym (kept none two)) (Appends-nil held);
    }

runs_over : (words : List (List ℕ)) (files : CallFiles) (input : Option (List ℕ)) (status : ℕ) (a b c d : Option (List ℕ)) → Shift a b c d → Runs words files input status a b → Runs words files input status c d
runs_over words files input status a b c d over h =
    record {
      done = λ is. does_over words files input a b c d over (h.done is);
      no = λ is. no_over words files input a b c d over (h.no is);
      all = λ asks is. all_over input a b c d over (h.all asks is);
      part = λ asks is. answers_part_over input a b c d over (h.part asks is);
      broken = λ is. does_part_over words files input a b c d over (h.broken is);
      kept = λ none two. over [] (h.kept none two);
    }

holds : {W : Type 0} (words : List (List ℕ)) (files : CallFiles) (input : Option (List ℕ)) (status ended : ℕ) (a b before now : Option (List ℕ)) (f fnow : ℕ) (contents : W → Option (List ℕ)) (output : Option W) → HandsOn contents status b f before fnow now ended output → Runs words files input status a b → MatchOption output (ended ≡ 3) (λ w. Runs words files input ended a (contents w))
holds words files input status ended a b before now f fnow contents None on runs = on.0
holds words files input status ended a b before now f fnow contents (Some w) on runs =
    subst (λ s. Runs words files input s a (contents w)) (sym on.0) (runs_over words files input status a b a (contents w) (shift a b a (contents w) (Keeps-refl a) on.1) runs)

refuses : {W : Type 0} {P : Type 0} (status ended : ℕ) (b before now : Option (List ℕ)) (f fnow : ℕ) (contents : W → Option (List ℕ)) (output : Option W) → HandsOn contents status b f before fnow now ended output → (status ≡ 2 → P) → ended ≡ 2 → P
refuses status ended b before now f fnow contents None on give two =
    let three : ended ≡ 3 = on.0 in
    cc
refuses status ended b before now f fnow contents (Some w) on give two = give (sym on.0 ∙ two)

few : {W : Type 0} (status ended : ℕ) (b before now : Option (List ℕ)) (f fnow : ℕ) (contents : W → Option (List ℕ)) (output : Option W) → HandsOn contents status b f before fnow now ended output → status ≤ 3 → ended ≤ 3
few status ended b before now f fnow contents None on within = omega (arith, on.0)
few status ended b before now f fnow contents (Some w) on within = omega (arith, on.0, within)

is_silent : {W : Type 0} (status ended : ℕ) (b first before now : Option (List ℕ)) (f fnow : ℕ) (contents : W → Option (List ℕ)) (output : Option W) → HandsOn contents status b f before fnow now ended output → (status ≤ 1 → before ≡ first) → ended ≤ 1 → Appends first now []
is_silent status ended b first before now f fnow contents None on silent one =
    let no : ⊥ = omega (arith, on.0, one) in
    absurd no
is_silent status ended b first before now f fnow contents (Some w) on silent one =
    subst (λ n. Appends first n []) (sym (on.2 ∙ silent (omega (arith, on.0, one)))) (Appends-nil first)

tells_lost : (status : ℕ) (first before now : Option (List ℕ)) → (status ≤ 1 → before ≡ first) → (2 ≤ status → TellsSome first before) → (status ≤ 1 → TellsSome before now) → (2 ≤ status → now ≡ before) → TellsSome first now
tells_lost zero first before now silent fault lost same = subst (λ f. TellsSome f now) (silent (omega arith)) (lost (omega arith))
tells_lost (suc zero) first before now silent fault lost same = subst (λ f. TellsSome f now) (silent (omega arith)) (lost (omega arith))
tells_lost (suc (suc n)) first before now silent fault lost same = subst (λ f. TellsSome first f) (sym (same (omega arith))) (fault (omega arith))

is_told : {W : Type 0} (status ended : ℕ) (b first before now : Option (List ℕ)) (f fnow : ℕ) (contents : W → Option (List ℕ)) (output : Option W) → HandsOn contents status b f before fnow now ended output → (status ≤ 1 → before ≡ first) → (2 ≤ status → TellsSome first before) → 2 ≤ ended → TellsSome first now
is_told status ended b first before now f fnow contents None on silent fault two = tells_lost status first before now silent fault (λ one. tells_some f fnow before now (on.1 one)) on.2
is_told status ended b first before now f fnow contents (Some w) on silent fault two =
    subst (λ n. TellsSome first n) (sym on.2) (fault (omega (arith, on.0, two)))

is_stopped : {W : Type 0} (words : List (List ℕ)) (files : CallFiles) (input : Option (List ℕ)) (status ended : ℕ) (a b first before now : Option (List ℕ)) (f fnow r rnow o onow l lnow : ℕ) (contents : W → Option (List ℕ)) (output : Option W) → HandsOn contents status b f before fnow now ended output → (2 ≤ status → EndsCall words files input r rnow status a b o onow l first lnow before) → 2 ≤ ended → IfSome output (λ w. IsStopped words files input a first (contents w) ended now)
is_stopped words files input status ended a b first before now f fnow r rnow o onow l lnow contents None on told two = tt
is_stopped words files input status ended a b first before now f fnow r rnow o onow l lnow contents (Some w) on told two =
    record {
      inside = a;
      inside_now = b;
      reads = r;
      reads_now = rnow;
      failures = o;
      failures_now = onow;
      lost = l;
      lost_now = lnow;
      begins = Keeps-refl a;
      ends = on.1;
      told = subst (λ n. EndsCall words files input r rnow ended a b o onow l first lnow n) (sym on.2)
          (subst (λ s. EndsCall words files input r rnow s a b o onow l first lnow before) (sym on.0) (told (omega (arith, on.0, two))));
    }

pub ends : {W : Type 0} (words : List (List ℕ)) (files : CallFiles) (input : Option (List ℕ)) (status ended : ℕ) (a b first before now : Option (List ℕ)) (f fnow : ℕ) (contents : W → Option (List ℕ)) (output : Option W) → HandsOn contents status b f before fnow now ended output → Runs words files input status a b → (AsksFor words Bare → status ≡ 2 → IsRefused input) → status ≤ 3 → (status ≤ 1 → before ≡ first) → (2 ≤ status → TellsSome first before) → (r rnow o onow l lnow : ℕ) → (2 ≤ status → EndsCall words files input r rnow status a b o onow l first lnow before) → (AsksForNoJournal words → files.asked_now ≡ files.asked_before) → Ends words files input a first contents ended output now
ends words files input status ended a b first before now f fnow contents output on runs refused within silent fault r rnow o onow l lnow told unlogged =
    record {
      output_holds = holds words files input status ended a b before now f fnow contents output on runs;
      refused = λ asks. refuses status ended b before now f fnow contents output on (refused asks);
      within = few status ended b before now f fnow contents output on within;
      silent = is_silent status ended b first before now f fnow contents output on silent;
      fault = is_told status ended b first before now f fnow contents output on silent fault;
      stopped = is_stopped words files input status ended a b first before now f fnow r rnow o onow l lnow contents output on told;
      unlogged = unlogged;
    }

-- what `run_words` and the handing on tell, over the streams as they were
pub counted : {W : Type 0} (words : List (List ℕ)) (files : CallFiles) (left input : Option (List ℕ)) (status ended : ℕ) (held a kept b first f0 f1 f2 now : Option (List ℕ)) (f fnow : ℕ) (contents : W → Option (List ℕ)) (output : Option W) → left ≡ input → held ≡ a → b ≡ kept → f0 ≡ first → now ≡ f2 → HandsOn contents status b f f1 fnow f2 ended output → Runs words files left status held kept → (AsksFor words Bare → status ≡ 2 → IsRefused left) → status ≤ 3 → (status ≤ 1 → f1 ≡ f0) → (2 ≤ status → TellsSome f0 f1) → (r rnow o onow l lnow : ℕ) → (2 ≤ status → EndsCall words files left r rnow status held kept o onow l f0 lnow f1) → (AsksForNoJournal words → files.asked_now ≡ files.asked_before) → Ends words files input a first contents ended output now
counted words files left input status ended held a kept b first f0 f1 f2 now f fnow contents output from was is start end on runs refused within silent fault r rnow o onow l lnow told unlogged =
    let here : Runs words files input status a b = subst (λ i. Runs words files i status a b) from (subst (λ o. Runs words files left status o b) was (subst (λ n. Runs words files left status held n) (sym is) runs)) in
    let refuses_here : AsksFor words Bare → status ≡ 2 → IsRefused input = subst (λ i. AsksFor words Bare → status ≡ 2 → IsRefused i) from refused in
    let tells_here : 2 ≤ status → TellsSome first f1 = subst (λ f. 2 ≤ status → TellsSome f f1) start fault in
    let told_here : 2 ≤ status → EndsCall words files input r rnow status a b o onow l first lnow f1 =
    λ two.
    subst (λ i. EndsCall words files i r rnow status a b o onow l first lnow f1) from
    (subst (λ h. EndsCall words files left r rnow status h b o onow l first lnow f1) was
    (subst (λ k. EndsCall words files left r rnow status held k o onow l first lnow f1) (sym is)
    (subst (λ g. EndsCall words files left r rnow status held kept o onow l g lnow f1) start (told two))))
    in
    subst (λ n. Ends words files input a first contents ended output n) (sym end)
    (ends words files input status ended a b first f1 f2 f fnow contents output on here refuses_here within (λ one. silent one ∙ start) tells_here r rnow o onow l lnow told_here unlogged)

-- the same over the writer that a buffer stands before
over_buffer : {W : Type 0} (words : List (List ℕ)) (files : CallFiles) (input : Option (List ℕ)) (status : ℕ) (a held : Option (List ℕ)) (contents : W → Option (List ℕ)) (output : Option W) → Keeps held a → MatchOption output (status ≡ 3) (λ w. Runs words files input status a (contents w)) → MatchOption output (status ≡ 3) (λ w. Runs words files input status held (contents w))
over_buffer words files input status a held contents None keeps h = h
over_buffer words files input status a held contents (Some w) keeps h =
    runs_over words files input status a (contents w) held (contents w) (shift a (contents w) held (contents w) keeps (Keeps-refl (contents w))) h

stopped_over : {W : Type 0} (words : List (List ℕ)) (files : CallFiles) (input a held first : Option (List ℕ)) (contents : W → Option (List ℕ)) (status : ℕ) (output : Option W) (now : Option (List ℕ)) → Keeps held a → IfSome output (λ w. IsStopped words files input a first (contents w) status now) → IfSome output (λ w. IsStopped words files input held first (contents w) status now)
stopped_over words files input a held first contents status None now keeps h = tt
stopped_over words files input a held first contents status (Some w) now keeps h =
    record {
      inside = h.inside;
      inside_now = h.inside_now;
      reads = h.reads;
      reads_now = h.reads_now;
      failures = h.failures;
      failures_now = h.failures_now;
      lost = h.lost;
      lost_now = h.lost_now;
      begins = Keeps-trans held a h.inside keeps h.begins;
      ends = h.ends;
      told = h.told;
    }

pub ends_over : {W : Type 0} (words : List (List ℕ)) (files : CallFiles) (input a held first : Option (List ℕ)) (contents : W → Option (List ℕ)) (status : ℕ) (output : Option W) (now : Option (List ℕ)) → Keeps held a → Ends words files input a first contents status output now → Ends words files input held first contents status output now
ends_over words files input a held first contents status output now keeps h =
    record {
      output_holds = over_buffer words files input status a held contents output keeps h.output_holds;
      refused = h.refused;
      within = h.within;
      silent = h.silent;
      fault = h.fault;
      stopped = λ two. stopped_over words files input a held first contents status output now keeps (h.stopped two);
      unlogged = h.unlogged;
    }

-- nothing was done, since memory ran out
pub ends_lost : {W : Type 0} (words : List (List ℕ)) (files : CallFiles) (input held first : Option (List ℕ)) (contents : W → Option (List ℕ)) (status : ℕ) (output : Option W) (now : Option (List ℕ)) → status ≡ 3 → output ≡ None → TellsSome first now → files.asked_now ≡ files.asked_before → Ends words files input held first contents status output now
ends_lost words files input held first contents status output now three none told same =
    record {
      output_holds = subst (λ o. MatchOption o (status ≡ 3) (λ w. Runs words files input status held (contents w))) (sym none) three;
      refused = λ asks two. cc;
      within = omega (arith, three);
      silent = λ one.
          let no : ⊥ = omega (arith, three, one) in
          absurd no;
      fault = λ two. told;
      stopped = λ two. subst (λ o. IfSome o (λ w. IsStopped words files input held first (contents w) status now)) (sym none) tt;
      unlogged = λ asks. same;
    }
