-- A head, lines of lags, and then commands with their journal.
use Rattle.std.proofs.Common.{◌≡◌, ◌+◌, ◌-◌, ◌≤◌, ℕ, List, [], ◌∷◌, ◌++◌, append-nil, length, Option, Some, None, refl, subst, sym, ap, ◌∙◌, inl, inr, arith}
use Rattle.std.specs.Prelude.{Result, Ok, Err, IfErr, IfSome, IsErrAnd, OnOk}
use Rattle.std.specs.Io.KnownBytes.{Appends, Consumes, IsAtEnd}
use Rattle.tp_bounds.specs.Setting.{Setting}
use Rattle.tp_exec_machine.specs.Machine.{Machine, IsFresh, new_machine}
use Rattle.tp_script.specs.Pending.{Reading}
use Rattle.tp_script.specs.Reading.{Free, EndsLine, TakesWhole}
use Rattle.tp_script.specs.Transcript.{lines_of, Transcript}
use Rattle.tp_script.specs.Lags.{SetsLags, TakesLags, NoLagNext}
use Rattle.tp_script.specs.Serving.{TakesHead, TakesLines, Serves, head_of, read_failures}
use Rattle.tp_script.specs.declared.serving.Served.{Served}
use Rattle.tp_script.specs.declared.serving.ServeFault.{ServeFault}
use Rattle.tp_script.specs.declared.serving.ServeFault.TheVariants as serving
use Rattle.tp_script.proofs.ServeLemmas.{first_whole}
use Rattle.tp_journal_pairs.specs.Journal.{Entry, Runs}
use Rattle.tp_journal_pairs.specs.Writing.{EntersAll, IsNewExecutive, Journals, journal_bytes, read_failures as journal_reads}
use Rattle.tp_journal_pairs.specs.declared.faults.JournalFault.{JournalFault}
use Rattle.tp_journal_pairs.specs.declared.faults.JournalFault.TheVariants.{Read, Write, Log, TooLong}
use Rattle.tp_cli_bare.specs.Bare.{BareStops, BeginsLines, EndLags, IsRefused, first_machine, first_setting}
use Rattle.tp_cli_bare.specs.declared.bare.BareFault.TheVariants.{Serving}
use Rattle.tp_cli_bare.proofs.BareLemmas.{answers_none, end_lags, lag_reads, lines_stop, refused_then}
use Rattle.tp_cli_bare.specs.JournalLines.{stop_status}
use Rattle.tp_cli_bare.specs.Logged.{LogsAll, LogsFrom, LogsLines, LogsPart, StopsLogged, input_failures, logged_result}
use Rattle.tp_cli_bare.specs.declared.journal_lines.JournalStop.{JournalStop}
use Rattle.tp_cli_bare.specs.declared.journal_lines.JournalStop.TheVariants.{Making, Beginning, Journaling}

-- ---- behind the lags

-- the executive in which a run begins is new
pub is_new : (head : ℕ × ℕ) (before after : Reading) (m : Machine) → BeginsLines head before after (Ok m) → IsFresh m.setting → IsNewExecutive m
is_new head before after m b new =
    inl (
      b.0,
      subst (λ (k : Machine). IsFresh k.setting) b.2 new,
      b.2 ∙ ap (new_machine b.0) (sym (ap (λ (k : Machine). k.limits) b.2)),
    )

pub logs_from : (r : Result Served JournalFault) (q : Result Served JournalStop) (head : ℕ × ℕ) (first last : Machine) (before mid after : Reading) (held now log logged : Option (List ℕ)) → q ≡ logged_result r → BeginsLines head before mid (Ok first) → Journals first last mid after held now log logged r → LogsFrom head before after held now log logged q
logs_from (Ok x) q head first last before mid after held now log logged is b j =
    subst (λ o. LogsFrom head before after held now log logged o) (sym is)
    (b.0, mid, last, b.1, subst (λ m. Journals m last mid after held now log logged (Ok x)) b.2 j)
logs_from (Err fault) q head first last before mid after held now log logged is b j =
    subst (λ o. LogsFrom head before after held now log logged o) (sym is)
    (b.0, mid, last, b.1, subst (λ m. Journals m last mid after held now log logged (Err fault)) b.2 j)

-- ---- all lines are answered, and their journal is whole

-- how many bytes may be taken behind the head and the lags
may_take : (before reading mid : Reading) (s t : Setting) (line : List ℕ) (lags : List (List ℕ)) (w : TakesWhole before reading line) (l : TakesLags reading mid s t lags) → before.taken ≡ 0 → mid.most ≡ 4_294_967_296 → 4_294_967_296 ≤ (mid.most - mid.taken) + (length w.text + length l.read.text)
may_take before reading mid s t line lags w l none most = omega (arith, none, most, w.counted, l.counted)

logs_head : (a c d left e held now log logged : Option (List ℕ)) (line text more : List ℕ) (head : ℕ × ℕ) (setting : Setting) (lags : List (List ℕ)) (last : Machine) (may : ℕ) (lines : List (List ℕ)) (said part : List ℕ) (entries : List Entry) → Free line → EndsLine line text c → Consumes a c text → length line ≤ 256 → head_of line ≡ Some head → Consumes c d more → IfSome c (λ ys. IfSome d (λ zs. lines_of ys ≡ lags ++ lines_of zs)) → SetsLags (first_setting head) lags setting → NoLagNext d may → 4_294_967_296 ≤ may + (length text + length more) → TakesLines d left lines → Consumes left e part → part ≡ [] → IsAtEnd e → EntersAll (first_machine head setting) lines entries said last → Transcript (first_machine head setting) lines said last → Runs 2 (first_machine head setting) entries last → Appends held now said → Appends log logged (journal_bytes (first_machine head setting) entries) → LogsAll a held now log logged
logs_head None c d left e held now log logged line text more head setting lags last may lines said part entries free ends took short spelled took' split set stop most takes behind empty end entered ran runs wrote logs = tt
logs_head (Some xs) None d left e held now log logged line text more head setting lags last may lines said part entries free ends took short spelled took' split set stop most takes behind empty end entered ran runs wrote logs = absurd took
logs_head (Some xs) (Some ys) None left e held now log logged line text more head setting lags last may lines said part entries free ends took short spelled took' split set stop most takes behind empty end entered ran runs wrote logs = absurd took'
logs_head (Some xs) (Some ys) (Some zs) None e held now log logged line text more head setting lags last may lines said part entries free ends took short spelled took' split set stop most takes behind empty end entered ran runs wrote logs = absurd takes.took
logs_head (Some xs) (Some ys) (Some zs) (Some ws) None held now log logged line text more head setting lags last may lines said part entries free ends took short spelled took' split set stop most takes behind empty end entered ran runs wrote logs = absurd behind
logs_head (Some xs) (Some ys) (Some zs) (Some ws) (Some vs) held now log logged line text more head setting lags last may lines said part entries free ends took short spelled took' split set stop most takes behind empty end entered ran runs wrote logs =
    let none : ws ≡ [] = behind ∙ (ap (λ p. p ++ vs) empty ∙ end) in
    let all : lines_of zs ≡ lines = takes.split ∙ (ap (λ w. lines ++ lines_of w) none ∙ append-nil lines) in
    record {
      answers = record {
        head = head;
        setting = setting;
        line = line;
        lags = lags;
        lines = lines;
        text = said;
        last = last;
        read = first_whole (Some xs) (Some ys) line text free ends took ∙ ap (λ ls. line ∷ ls) (split ∙ ap (λ ls. lags ++ ls) all);
        short = short;
        spelled = spelled;
        set = set;
        end = subst (EndLags xs) all (end_lags xs ys zs text more may took took' stop most);
        ran = ran;
        written = wrote;
      };
      entries = entries;
      entered = entered;
      runs = runs;
      logs = logs;
    }

pub logs_all : (r : Result Served JournalStop) (source held now log logged : Option (List ℕ)) (before reading after : Reading) (head : ℕ × ℕ) → before.rest ≡ source → before.taken ≡ 0 → before.most ≡ 4_294_967_296 → TakesHead before reading (Ok head) → reading.most ≡ before.most → LogsFrom head reading after held now log logged r → OnOk r (LogsAll source held now log logged)
logs_all (Err e) source held now log logged before reading after head from none most takes same logs = tt
logs_all (Ok x) source held now log logged before reading after head from none most takes same logs =
    let mid = logs.1 in
    let l = logs.3.lags in
    let j = logs.4 in
    subst (λ a. LogsAll a held now log logged) from
    (logs_head before.rest reading.rest mid.rest j.left after.rest held now log logged takes.0 takes.1.text l.1.read.text head logs.0 l.0 logs.2 (mid.most - mid.taken) j.lines j.text j.part j.entries takes.1.free takes.1.ends takes.1.took takes.2 takes.3 l.1.read.took l.1.read.split l.1.set l.2
    (may_take before reading mid (first_setting head) logs.0 takes.0 l.0 takes.1 l.1 none (logs.3.most ∙ (same ∙ most))) j.read j.behind j.ended.0 j.ended.1 j.ran j.transcript j.runs j.ended.2 j.ended.3)

-- ---- what stopped it

pub logs_stop : (r : Result Served JournalStop) (source held now log logged : Option (List ℕ)) (before reading after : Reading) (head : ℕ × ℕ) → before.rest ≡ source → before.taken ≡ 0 → before.most ≡ 4_294_967_296 → TakesHead before reading (Ok head) → reading.most ≡ before.most → after.most ≡ reading.most → LogsFrom head reading after held now log logged r → IfErr r (StopsLogged source held now log logged)
logs_stop (Ok x) source held now log logged before reading after head from none most takes same still logs = tt
logs_stop (Err Making) source held now log logged before reading after head from none most takes same still logs = absurd logs
logs_stop (Err (Beginning fault)) source held now log logged before reading after head from none most takes same still logs =
    (lines_stop (Err fault) source held held before reading after head from none most takes same still (answers_none fault head reading after held logs.0), logs.1, logs.2)
logs_stop (Err (Journaling fault)) source held now log logged before reading after head from none most takes same still logs =
    record {
      head = head;
      setting = logs.0;
      start = before;
      behind_head = reading;
      behind_lags = logs.1;
      after = after;
      last = logs.2;
      from = from;
      first = none;
      most = most;
      takes = takes;
      same = same;
      lags = logs.3;
      still = still;
      journals = logs.4;
    }

pub stops_by : (r : Result Served JournalStop) (fault : ServeFault) (source held log : Option (List ℕ)) → IsErrAnd r (λ e. e ≡ Beginning (Serving fault)) → BareStops source held held (Serving fault) → IfErr r (StopsLogged source held held log log)
stops_by (Ok x) fault source held log is h = absurd is
stops_by (Err f) fault source held log is h = subst (λ e. StopsLogged source held held log log e) (sym is) (h, refl, refl)

-- ---- reads that failed

-- a head that was not read
pub head_reads : (r : Result Served JournalStop) (fault : ServeFault) (n : ℕ) → IsErrAnd r (λ e. e ≡ Beginning (Serving fault)) → read_failures {T = ℕ × ℕ} n (Err fault) ≡ input_failures n r
head_reads (Ok x) fault n is = absurd is
head_reads (Err f) fault n is = lag_reads (ℕ × ℕ) (Unit {0}) fault n ∙ ap (λ e. input_failures {T = Served} n (Err e)) (sym is)

pub any_input : (A B : Type 0) (stop : JournalStop) (n : ℕ) → input_failures {T = A} n (Err stop) ≡ input_failures {T = B} n (Err stop)
any_input A B Making n = refl
any_input A B (Beginning fault) n = refl
any_input A B (Journaling Read) n = refl
any_input A B (Journaling Write) n = refl
any_input A B (Journaling Log) n = refl
any_input A B (Journaling TooLong) n = refl

journal_fault_reads : (A B : Type 0) (fault : JournalFault) (n : ℕ) → journal_reads {T = A} n (Err fault) ≡ input_failures {T = B} n (Err (Journaling fault))
journal_fault_reads A B Read n = refl
journal_fault_reads A B Write n = refl
journal_fault_reads A B Log n = refl
journal_fault_reads A B TooLong n = refl

-- commands behind the lags that were not all read
pub logged_reads : (A B : Type 0) (fault : JournalFault) (n m k : ℕ) → k ≡ journal_reads {T = A} m (Err fault) → m ≡ n → k ≡ input_failures {T = B} n (Err (Journaling fault))
logged_reads A B fault n m k is same = is ∙ (ap (λ j. journal_reads {T = A} j (Err fault)) same ∙ journal_fault_reads A B fault n)

-- ---- the file of a name

pub moved : (P : Option (List ℕ) → Option (List ℕ) → Type 0) (log logged blank kept : Option (List ℕ)) → log ≡ blank → kept ≡ logged → P log logged → P blank kept
moved P log logged blank kept is same h = subst (λ l. P l kept) is (subst (λ k. P log k) (sym same) h)

pub part_then : (stop : JournalStop) (input held now log logged : Option (List ℕ)) → StopsLogged input held now log logged stop → LogsPart input held now log logged
part_then Making input held now log logged h = inl h
part_then (Beginning fault) input held now log logged h = inl h.1
part_then (Journaling fault) input held now log logged h = inr (fault, h)

-- more bytes came than are taken
long : (input held now log logged : Option (List ℕ)) → LogsLines input held now log logged (Err TooLong) → BareStops input held now (Serving serving.TooLong)
long input held now log logged h =
    let j = h.journals in
    let serves : Serves (first_machine h.head h.setting) h.last h.behind_lags h.after held now (Err serving.TooLong) =
    record {
      lines = j.lines;
      text = j.text;
      left = j.left;
      part = j.part;
      read = j.read;
      behind = j.behind;
      free = j.free;
      counted = j.counted;
      ran = j.transcript;
      ended = (j.ended.0, j.ended.2, j.ended.3);
    } in
    lines_stop (Err (Serving serving.TooLong)) input held now h.start h.behind_head h.after h.head h.from h.first h.most h.takes h.same h.still
    (inr (h.setting, h.behind_lags, h.last, h.lags, serves))

pub refused_by : (stop : JournalStop) (input held now log logged : Option (List ℕ)) → StopsLogged input held now log logged stop → stop_status stop ≡ 2 → IsRefused input
refused_by Making input held now log logged h is = absurd (let f : ⊥ = omega (arith, is) in f)
refused_by (Beginning fault) input held now log logged h is = refused_then fault input held held h.0 is
refused_by (Journaling Read) input held now log logged h is = absurd (let f : ⊥ = omega (arith, is) in f)
refused_by (Journaling Write) input held now log logged h is = absurd (let f : ⊥ = omega (arith, is) in f)
refused_by (Journaling Log) input held now log logged h is = absurd (let f : ⊥ = omega (arith, is) in f)
refused_by (Journaling TooLong) input held now log logged h is = refused_then (Serving serving.TooLong) input held now (long input held now log logged h) refl
