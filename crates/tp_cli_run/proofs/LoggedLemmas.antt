-- Lines of lags, and then commands on the network of a plan with their journal.
use Rattle.std.proofs.Common.{◌≡◌, ◌+◌, ◌-◌, ◌≤◌, ℕ, List, [], ◌∷◌, ◌++◌, append_assoc, length, Option, Some, None, refl, subst, sym, ap, ◌∙◌, inr, arith}
use Rattle.std.specs.Prelude.{Result, Ok, Err, IfErr, IfOk, IfSome}
use Rattle.std.specs.Io.KnownBytes.{Appends, Consumes, IsAtEnd}
use Rattle.tp_bounds.specs.Setting.{Setting}
use Rattle.tp_bounds.specs.RunLimits.{greatest_limits}
use Rattle.tp_bounds.specs.declared.plan_nets.PlanNet.{PlanNet}
use Rattle.tp_exec_machine.specs.Machine.{Machine}
use Rattle.tp_script.specs.Pending.{Reading}
use Rattle.tp_script.specs.Transcript.{Transcript, lines_of}
use Rattle.tp_script.specs.Lags.{NoLagNext, SetsLags, TakesLags}
use Rattle.tp_script.specs.Serving.{Serves, TakesLines}
use Rattle.tp_script.specs.declared.serving.Served.{Served}
use Rattle.tp_script.specs.declared.serving.ServeFault.{ServeFault}
use Rattle.tp_script.specs.declared.serving.ServeFault.TheVariants as serving
use Rattle.tp_journal_pairs.specs.Journal.{Entry, IsHead, head_of}
use Rattle.tp_journal_pairs.specs.Writing.{EndsUnlogged, EntersAll, HeadIsOne, IsNewExecutive, Journals}
use Rattle.tp_journal_pairs.specs.declared.faults.JournalFault.{JournalFault}
use Rattle.tp_journal_pairs.specs.declared.faults.JournalFault.TheVariants.{Read, Write, Log, TooLong}
use Rattle.tp_journal_pairs.proofs.SoundLemmas.{plan_is_new}
use Rattle.tp_journal_pairs.proofs.WriteLemmas.{enters_answers}
use Rattle.tp_cli_bare.specs.Bare.{TakesAllLags, first_setting}
use Rattle.tp_cli_bare.specs.declared.bare.BareFault.TheVariants.{Serving}
use Rattle.tp_cli_bare.proofs.BareLemmas.{end_lags}
use Rattle.tp_cli_bare.specs.declared.journal_lines.JournalStop.{JournalStop}
use Rattle.tp_cli_bare.specs.declared.journal_lines.JournalStop.TheVariants.{Making, Beginning, Journaling}
use Rattle.tp_cli_run.specs.Answered.{Answered, AnswersSome, AreLines, AreBehindLags, StopsAnswers}
use Rattle.tp_cli_run.specs.Starts.{BeginsRun, IsNewRun, net_head, run_machine}
use Rattle.tp_cli_run.proofs.AnswerLemmas.{answers_none, lines_stop}
use Rattle.tp_cli_run.specs.LogFile.{IsNamed, LogFile}
use Rattle.tp_cli_run.specs.Logged.{AnswersTill, IsLogged, LogsRun, LogsWhole, StopsLogged}
use Rattle.tp_cli_run.specs.RunJournals.{StopsInFile}

-- ---- the executive in which a run begins

pub is_new : (net : PlanNet) (m : Machine) → IsNewRun net m → IsNewExecutive m
is_new net m new = plan_is_new m new.0 net.bounds.items (greatest_limits net.horizon) new.1 new.2

head_is_one : (net : PlanNet) (setting : Setting) (m : Machine) → m ≡ run_machine net setting → length net.bounds.items ≤ 65_535 → HeadIsOne m → IsHead (head_of 2 (run_machine net setting))
head_is_one net setting m is few one = subst HeadIsOne is one (inr few)

-- ---- behind the lags

pub logs_all : (net : PlanNet) (first last : Machine) (before mid after : Reading) (held now log logged : Option (List ℕ)) (served : Served) → BeginsRun net before mid (Ok first) → length net.bounds.items ≤ 65_535 → HeadIsOne first → Journals first last mid after held now log logged (Ok served) → LogsRun net before after held now log logged (Ok last)
logs_all net first last before mid after held now log logged served b few one journals =
    (b.0, mid, served, b.1, head_is_one net b.0 first b.2 few one, subst (λ m. Journals m last mid after held now log logged (Ok served)) b.2 journals)

pub logs_some : (net : PlanNet) (first last : Machine) (before mid after : Reading) (held now log logged : Option (List ℕ)) (fault : JournalFault) → BeginsRun net before mid (Ok first) → length net.bounds.items ≤ 65_535 → HeadIsOne first → Journals first last mid after held now log logged (Err fault) → LogsRun net before after held now log logged (Err (Journaling fault))
logs_some net first last before mid after held now log logged fault b few one journals =
    (b.0, mid, last, b.1, head_is_one net b.0 first b.2 few one, subst (λ m. Journals m last mid after held now log logged (Err fault)) b.2 journals)

-- ---- from the bytes on

abbrev rest_lines : Option (List ℕ) → List (List ℕ)
rest_lines None = []
rest_lines (Some bytes) = lines_of bytes

-- these lines are the ones that were answered, from that setting on
record AnswersThese (net : PlanNet) (input : Option (List ℕ)) (rest : List (List ℕ)) (text : List ℕ)
    (last : Machine) (setting : Setting) (lines : List (List ℕ)) : Type 0 where
  pub answered : Answered net input rest text last
  pub setting_is : answered.setting ≡ setting
  pub lines_are : answered.lines ≡ lines

these_by : (net : PlanNet) (a d left : Option (List ℕ)) (more : List ℕ) (setting : Setting) (lags : List (List ℕ)) (last : Machine) (lines : List (List ℕ)) (answers : List ℕ) (may : ℕ) → Consumes a d more → IfSome a (λ xs. IfSome d (λ ys. lines_of xs ≡ lags ++ lines_of ys)) → SetsLags (first_setting (net_head net)) lags setting → NoLagNext d may → 4_294_967_296 ≤ may + (0 + length more) → TakesLines d left lines → Transcript (run_machine net setting) lines answers last → AnswersThese net a (rest_lines left) answers last setting lines
these_by net None d left more setting lags last lines answers may took split set stop most takes ran =
    record {
      answered = record { setting = setting; lags = lags; lines = lines; read = tt; set = set; end = tt; ran = ran };
      setting_is = refl;
      lines_are = refl;
    }
these_by net (Some xs) None left more setting lags last lines answers may took split set stop most takes ran = absurd took
these_by net (Some xs) (Some ys) None more setting lags last lines answers may took split set stop most takes ran = absurd takes.took
these_by net (Some xs) (Some ys) (Some zs) more setting lags last lines answers may took split set stop most takes ran =
    record {
      answered = record {
        setting = setting;
        lags = lags;
        lines = lines;
        read = split ∙ ap (λ ls. lags ++ ls) takes.split;
        set = set;
        end = subst (AreBehindLags (Some xs)) takes.split (end_lags xs xs ys [] more may refl took stop most);
        ran = ran;
      };
      setting_is = refl;
      lines_are = refl;
    }

-- how many bytes may be taken behind the lags
may_take : (before mid : Reading) (s t : Setting) (lags : List (List ℕ)) (l : TakesLags before mid s t lags) → before.taken ≡ 0 → mid.most ≡ 4_294_967_296 → 4_294_967_296 ≤ (mid.most - mid.taken) + (0 + length l.read.text)
may_take before mid s t lags l none most = omega (arith, none, most, l.counted)

these : (net : PlanNet) (before mid after : Reading) (setting : Setting) (last : Machine) (held now log logged : Option (List ℕ)) (r : Result Served JournalFault) → before.taken ≡ 0 → before.most ≡ 4_294_967_296 → TakesAllLags (net_head net) before mid setting → (j : Journals (run_machine net setting) last mid after held now log logged r) → AnswersThese net before.rest (rest_lines j.left) j.text last setting j.lines
these net before mid after setting last held now log logged r none most lags j =
    let l = lags.lags in
    these_by net before.rest mid.rest j.left l.1.read.text setting l.0 last j.lines j.text (mid.most - mid.taken) l.1.read.took l.1.read.split l.1.set l.2
    (may_take before mid (first_setting (net_head net)) setting l.0 l.1 none (lags.most ∙ most)) j.read j.transcript

-- ---- all lines are answered

nothing_left : (left after : Option (List ℕ)) (part : List ℕ) → Consumes left after part → part ≡ [] → IsAtEnd after → rest_lines left ≡ []
nothing_left None after part took none end = refl
nothing_left (Some zs) None part took none end = absurd took
nothing_left (Some zs) (Some ws) part took none end =
    let empty : zs ≡ [] = took ∙ (ap (λ p. p ++ ws) none ∙ end) in
    ap lines_of empty

whole_by : (net : PlanNet) (input held now log logged : Option (List ℕ)) (setting : Setting) (lines : List (List ℕ)) (text : List ℕ) (last : Machine) → AnswersThese net input [] text last setting lines → Appends held now text → IsLogged net setting lines text last log logged → LogsWhole net input held now log logged last
whole_by net input held now log logged setting lines text last a written logs =
    record {
      text = text;
      answered = a.answered;
      written = written;
      journal =
          subst (λ s. IsLogged net s a.answered.lines text last log logged) (sym a.setting_is)
          (subst (λ ls. IsLogged net setting ls text last log logged) (sym a.lines_are) logs);
    }

pub logs_whole : (r : Result Machine JournalStop) (net : PlanNet) (source held now log logged : Option (List ℕ)) (before after : Reading) → before.rest ≡ source → before.taken ≡ 0 → before.most ≡ 4_294_967_296 → LogsRun net before after held now log logged r → IfOk r (LogsWhole net source held now log logged)
logs_whole (Err stop) net source held now log logged before after from none most logs = tt
logs_whole (Ok last) net source held now log logged before after from none most logs =
    let setting = logs.0 in
    let mid = logs.1 in
    let j = logs.5 in
    let some = these net before mid after setting last held now log logged (Ok logs.2) none most logs.3 j in
    let all : AnswersThese net source [] j.text last setting j.lines =
    subst (λ a. AnswersThese net a [] j.text last setting j.lines) from
    (subst (λ ls. AnswersThese net before.rest ls j.text last setting j.lines) (nothing_left j.left after.rest j.part j.behind j.ended.0 j.ended.1) some) in
    whole_by net source held now log logged setting j.lines j.text last all j.ended.2
    (record { entries = j.entries; entered = j.ran; runs = j.runs; head = logs.4; logs = j.ended.3 })

-- ---- not all lines are answered

-- what became of the lines is their transcript
enters_transcript : (lines : List (List ℕ)) (old new : Machine) (entries : List Entry) (text : List ℕ) → EntersAll old lines entries text new → Transcript old lines text new
enters_transcript [] old new entries text h = (h.1, h.2)
enters_transcript (line ∷ lines) old new entries text h =
    (h.2, h.3, h.4, h.6, enters_answers old h.4 line h.0 h.2 h.7, enters_transcript lines h.4 new h.1 h.3 h.8)

-- the same of the lines before some of them
fewer : (net : PlanNet) (input : Option (List ℕ)) (rest : List (List ℕ)) (text : List ℕ) (last : Machine) (a : Answered net input rest text last) (some others : List (List ℕ)) (said : List ℕ) (mid : Machine) → a.lines ≡ some ++ others → Transcript (run_machine net a.setting) some said mid → Answered net input (others ++ rest) said mid
fewer net input rest text last a some others said mid are ran =
    let split : a.lines ++ rest ≡ some ++ (others ++ rest) = ap (λ ls. ls ++ rest) are ∙ append_assoc some others rest in
    record {
      setting = a.setting;
      lags = a.lags;
      lines = some;
      read = subst (λ ls. AreLines input (a.lags ++ ls)) split a.read;
      set = a.set;
      end = subst (AreBehindLags input) split a.end;
      ran = ran;
    }

unlogged : (net : PlanNet) (input : Option (List ℕ)) (rest : List (List ℕ)) (text : List ℕ) (last : Machine) (setting : Setting) (lines : List (List ℕ)) (entries : List Entry) (held now log logged : Option (List ℕ)) → AnswersThese net input rest text last setting lines → EndsUnlogged (run_machine net setting) last lines entries held now log logged → AnswersSome net input held now
unlogged net input rest text last setting lines entries held now log logged a e =
    inr (
      e.lines_last ++ rest,
      e.said,
      e.mid,
      fewer net input rest text last a.answered e.lines_before e.lines_last e.said e.mid (a.lines_are ∙ e.lines_are)
          (subst (λ s. Transcript (run_machine net s) e.lines_before e.said e.mid) (sym a.setting_is) (enters_transcript e.lines_before (run_machine net setting) e.mid e.before e.said e.ran_before)),
      e.answered,
    )

-- the same run, but for its journal
read_serves : (old new : Machine) (before after : Reading) (held now log logged : Option (List ℕ)) → Journals old new before after held now log logged (Err Read) → Serves old new before after held now (Err serving.Read)
read_serves old new before after held now log logged j =
    record {
      lines = j.lines;
      text = j.text;
      left = j.left;
      part = j.part;
      read = j.read;
      behind = j.behind;
      free = j.free;
      counted = j.counted;
      ran = j.transcript;
      ended = j.ended.0;
    }

write_serves : (old new : Machine) (before after : Reading) (held now log logged : Option (List ℕ)) → Journals old new before after held now log logged (Err Write) → Serves old new before after held now (Err serving.Write)
write_serves old new before after held now log logged j =
    record {
      lines = j.lines;
      text = j.text;
      left = j.left;
      part = j.part;
      read = j.read;
      behind = j.behind;
      free = j.free;
      counted = j.counted;
      ran = j.transcript;
      ended = (j.ended.0, j.ended.1);
    }

long_serves : (old new : Machine) (before after : Reading) (held now log logged : Option (List ℕ)) → Journals old new before after held now log logged (Err TooLong) → Serves old new before after held now (Err serving.TooLong)
long_serves old new before after held now log logged j =
    record {
      lines = j.lines;
      text = j.text;
      left = j.left;
      part = j.part;
      read = j.read;
      behind = j.behind;
      free = j.free;
      counted = j.counted;
      ran = j.transcript;
      ended = (j.ended.0, j.ended.2, j.ended.3);
    }

module _ (net : PlanNet) (source held now log logged : Option (List ℕ)) (before after : Reading) (from : before.rest ≡ source) (none : before.taken ≡ 0) (most : before.most ≡ 4_294_967_296) (still : after.most ≡ before.most) where
  by_serving : (fault : ServeFault) (setting : Setting) (mid : Reading) (last : Machine) → TakesAllLags (net_head net) before mid setting → Serves (run_machine net setting) last mid after held now (Err fault) → StopsAnswers net source held now (Serving fault)
  by_serving fault setting mid last lags serves =
      lines_stop (Err (Serving fault)) net source held now before after from none most still (inr (setting, mid, last, lags, serves))

  till : (fault : JournalFault) (setting : Setting) (mid : Reading) (last : Machine) → TakesAllLags (net_head net) before mid setting → Journals (run_machine net setting) last mid after held now log logged (Err fault) → AnswersTill net source held now fault
  till Read setting mid last lags j =
      by_serving serving.Read setting mid last lags (read_serves (run_machine net setting) last mid after held now log logged j)
  till Write setting mid last lags j =
      by_serving serving.Write setting mid last lags (write_serves (run_machine net setting) last mid after held now log logged j)
  till TooLong setting mid last lags j =
      by_serving serving.TooLong setting mid last lags (long_serves (run_machine net setting) last mid after held now log logged j)
  till Log setting mid last lags j =
      unlogged net source (rest_lines j.left) j.text last setting j.lines j.entries held now log logged
      (subst (λ a. AnswersThese net a (rest_lines j.left) j.text last setting j.lines) from (these net before mid after setting last held now log logged (Err Log) none most lags j))
      j.ended.1

  pub logs_stop : (r : Result Machine JournalStop) → LogsRun net before after held now log logged r → IfErr r (StopsLogged net source held now log logged)
  logs_stop (Ok last) logs = tt
  logs_stop (Err Making) logs = absurd logs
  logs_stop (Err (Beginning fault)) logs =
      (lines_stop (Err fault) net source held held before after from none most still (answers_none fault net before after held logs.0), logs.1, logs.2)
  logs_stop (Err (Journaling fault)) logs = (
    till fault logs.0 logs.1 logs.2 logs.3 logs.5,
    record {
      setting = logs.0;
      start = before;
      behind_lags = logs.1;
      after = after;
      last = logs.2;
      from = from;
      first = none;
      most = most;
      lags = logs.3;
      still = still;
      head = logs.4;
      journals = logs.5;
    },
  )

-- ---- in the file

pub in_file : (stop : JournalStop) (net : PlanNet) (input before now : Option (List ℕ)) (file : LogFile) → IsNamed file → StopsLogged net input before now file.blank file.kept stop → StopsInFile net input before now file stop
in_file Making net input before now file named h = absurd h
in_file (Beginning fault) net input before now file named h = (named, h)
in_file (Journaling fault) net input before now file named h = (named, h)

pub stops_in_file : (r : Result Machine JournalStop) (net : PlanNet) (input before now : Option (List ℕ)) (file : LogFile) → IsNamed file → IfErr r (StopsLogged net input before now file.blank file.kept) → IfErr r (StopsInFile net input before now file)
stops_in_file (Ok last) net input before now file named h = tt
stops_in_file (Err stop) net input before now file named h = in_file stop net input before now file named h

pub if_ok : (r : Result Machine JournalStop) (P : Type 0) → P → IfOk r (λ last. P)
if_ok (Ok last) P p = p
if_ok (Err stop) P p = tt
