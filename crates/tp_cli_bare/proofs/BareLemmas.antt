-- A head, lines of lags, and then commands.
use Rattle.std.proofs.Common.{◌≡◌, ◌+◌, ◌-◌, ◌≤◌, ◌<◌, ℕ, List, [], ◌++◌, ◌⊎◌, length-append, length, Bool, true, false, cond, nat_eq, Option, Some, None, refl, subst, sym, ap, ◌∷◌, ◌∙◌, inl, inr, arith}
use Rattle.std.specs.Prelude.{Result, Ok, Err, IfErr, IfSome, IsErrAnd, OnOk, OnErr}
use Rattle.std.specs.Io.KnownBytes.{Appends, Consumes, IsAtEnd}
use Rattle.tp_device.specs.Bytes.{AppendsPart}
use Rattle.std.proofs.KnownBytes.{Appends-nil}
use Rattle.tp_bounds.specs.Setting.{Setting}
use Rattle.tp_script.specs.Machine.{Machine}
use Rattle.tp_script.specs.Pending.{Reading}
use Rattle.tp_script.specs.Reading.{Free, EndsLine, TakesWhole}
use Rattle.tp_script.specs.Transcript.{lines_of, before_lines, Transcript}
use Rattle.tp_script.specs.Lags.{lag_spelled, MaySet, SetsLags, TakesLags, NoLagNext, ReadsLags}
use Rattle.tp_script.specs.Serving.{read_failures, write_failures, Serves, ServesAll, TakesLines, EndsServing, TakesHead, head_of}
use Rattle.tp_script.specs.declared.serving.Served.{Served}
use Rattle.tp_script.specs.declared.serving.ServeFault.{ServeFault}
use Rattle.tp_script.specs.declared.serving.ServeFault.TheVariants.{Read, Write, Memory, TooLong, Head}
use Rattle.tp_script.proofs.ServeLemmas.{first_whole, unwritten_part}
use Rattle.tp_script.specs.Reading.{HasMore, SameLimits}
use Rattle.tp_cli_bare.specs.Bare.{first_setting, first_machine, EndLags, AnswersAll, AnswersLines, AnswersLinesTo, AnswersPart, BareStops, TakesAllLags, BeginsLines, HasNoHead, IsRefused, bare_failures, bare_read_failures, bare_result}
use Rattle.tp_cli_bare.specs.ServeLines.{bare_status}
use Rattle.tp_cli_bare.specs.declared.bare.BareFault.{BareFault}
use Rattle.tp_cli_bare.specs.declared.bare.BareFault.TheVariants.{Network, Serving}
use Rattle.tp_cli_files.proofs.FaultLemmas.{whole_part}

-- ---- the lines of lags

pub end_lags : (xs ys zs text lags : List ℕ) (may : ℕ) → xs ≡ text ++ ys → ys ≡ lags ++ zs → NoLagNext (Some zs) may → 4_294_967_296 ≤ may + (length text + length lags) → EndLags xs (lines_of zs)
end_lags xs ys zs text lags may first more stop most = λ line rest is.
    (elim (stop line rest is) [
      | inl none ↦ inl none
      | inr few ↦
          inr (omega (arith, few, most, ap length first, ap length more, length-append text ys, length-append lags zs))
    ])

-- how many bytes may be taken behind the head and the lags
may_take : (before reading mid : Reading) (s t : Setting) (line : List ℕ) (lags : List (List ℕ)) (w : TakesWhole before reading line) (l : TakesLags reading mid s t lags) → before.taken ≡ 0 → mid.most ≡ 4_294_967_296 → 4_294_967_296 ≤ (mid.most - mid.taken) + (length w.text + length l.read.text)
may_take before reading mid s t line lags w l none most = omega (arith, none, most, w.counted, l.counted)

-- ---- all lines are answered

all_answered : (a c d held now : Option (List ℕ)) (line text more : List ℕ) (head : ℕ × ℕ) (setting : Setting) (lags : List (List ℕ)) (last : Machine) (may : ℕ) → Free line → EndsLine line text c → Consumes a c text → length line ≤ 256 → head_of line ≡ Some head → Consumes c d more → IfSome c (λ ys. IfSome d (λ zs. lines_of ys ≡ lags ++ lines_of zs)) → SetsLags (first_setting head) lags setting → NoLagNext d may → 4_294_967_296 ≤ may + (length text + length more) → ServesAll (first_machine head setting) last d held now → AnswersAll a held now
all_answered None c d held now line text more head setting lags last may free ends took short spelled took' split set stop most serves = tt
all_answered (Some xs) None d held now line text more head setting lags last may free ends took short spelled took' split set stop most serves = absurd took
all_answered (Some xs) (Some ys) None held now line text more head setting lags last may free ends took short spelled took' split set stop most serves = absurd took'
all_answered (Some xs) (Some ys) (Some zs) held now line text more head setting lags last may free ends took short spelled took' split set stop most serves =
    record {
      head = head;
      setting = setting;
      line = line;
      lags = lags;
      lines = lines_of zs;
      text = serves.0;
      last = last;
      read = first_whole (Some xs) (Some ys) line text free ends took ∙ ap (λ ls. line ∷ ls) split;
      short = short;
      spelled = spelled;
      set = set;
      end = end_lags xs ys zs text more may took took' stop most;
      ran = serves.1;
      written = serves.2;
    }

-- ---- some lines are answered

part_of_serving : (fault : ServeFault) (old new : Machine) (after : Reading) (held now : Option (List ℕ)) (lines : List (List ℕ)) (text part : List ℕ) → EndsServing old new after held now lines text part (Err fault) → AppendsPart held now text
part_of_serving Read old new after held now lines text part ended = whole_part held now text ended
part_of_serving Write old new after held now lines text part ended = unwritten_part old new lines text held now ended.1
part_of_serving Memory old new after held now lines text part ended = absurd ended
part_of_serving TooLong old new after held now lines text part ended = whole_part held now text ended.0
part_of_serving Head old new after held now lines text part ended = absurd ended

part_answered : (a c d left held now : Option (List ℕ)) (line text more : List ℕ) (head : ℕ × ℕ) (setting : Setting) (lags : List (List ℕ)) (last : Machine) (lines : List (List ℕ)) (answers : List ℕ) (may : ℕ) → Free line → EndsLine line text c → Consumes a c text → length line ≤ 256 → head_of line ≡ Some head → Consumes c d more → IfSome c (λ ys. IfSome d (λ zs. lines_of ys ≡ lags ++ lines_of zs)) → SetsLags (first_setting head) lags setting → NoLagNext d may → 4_294_967_296 ≤ may + (length text + length more) → TakesLines d left lines → Transcript (first_machine head setting) lines answers last → AppendsPart held now answers → AnswersPart a held now
part_answered None c d left held now line text more head setting lags last lines answers may free ends took short spelled took' split set stop most takes ran part = tt
part_answered (Some xs) None d left held now line text more head setting lags last lines answers may free ends took short spelled took' split set stop most takes ran part = absurd took
part_answered (Some xs) (Some ys) None left held now line text more head setting lags last lines answers may free ends took short spelled took' split set stop most takes ran part = absurd took'
part_answered (Some xs) (Some ys) (Some zs) None held now line text more head setting lags last lines answers may free ends took short spelled took' split set stop most takes ran part = absurd takes.took
part_answered (Some xs) (Some ys) (Some zs) (Some ws) held now line text more head setting lags last lines answers may free ends took short spelled took' split set stop most takes ran part =
    inr (record {
      head = head;
      setting = setting;
      line = line;
      lags = lags;
      lines = lines;
      rest = lines_of ws;
      text = answers;
      last = last;
      read = first_whole (Some xs) (Some ys) line text free ends took ∙ ap (λ ls. line ∷ ls) (split ∙ ap (λ ls. lags ++ ls) takes.split);
      short = short;
      spelled = spelled;
      set = set;
      end = subst (EndLags xs) takes.split (end_lags xs ys zs text more may took took' stop most);
      ran = ran;
      written = part;
    })

-- nothing is written yet
pub none_written : (source held : Option (List ℕ)) → AnswersPart source held held
none_written None held = tt
none_written (Some xs) held = inl (Appends-nil held)

-- ---- what came of the commands on a network of a head

pub answers_lines : (r : Result Served ServeFault) (q : Result Served BareFault) (head : ℕ × ℕ) (first last : Machine) (before mid after : Reading) (held now : Option (List ℕ)) → q ≡ bare_result r → BeginsLines head before mid (Ok first) → Serves first last mid after held now r → OnOk r (ServesAll first last mid.rest held now) → AnswersLines head before after held now q
answers_lines (Ok x) q head first last before mid after held now is b serves all =
    subst (λ o. AnswersLines head before after held now o) (sym is)
    (b.0, mid, last, b.1, subst (λ m. Serves m last mid after held now (Ok x)) b.2 serves, subst (λ m. ServesAll m last mid.rest held now) b.2 all)
answers_lines (Err fault) q head first last before mid after held now is b serves all =
    subst (λ o. AnswersLines head before after held now o) (sym is) (inr (b.0, mid, last, b.1, subst (λ m. Serves m last mid after held now (Err fault)) b.2 serves))

-- no run began
pub answers_none : (fault : BareFault) (head : ℕ × ℕ) (before after : Reading) (held : Option (List ℕ)) → BeginsLines head before after (Err fault) → AnswersLines head before after held held (Err fault)
answers_none Network head before after held b = refl
answers_none (Serving fault) head before after held b = inl (b.0, b.1, refl)

pub no_write : (fault : BareFault) (n : ℕ) → bare_failures {T = Machine} n (Err fault) ≡ bare_failures {T = Served} n (Err fault)
no_write Network n = refl
no_write (Serving Read) n = refl
no_write (Serving Write) n = refl
no_write (Serving Memory) n = refl
no_write (Serving TooLong) n = refl
no_write (Serving Head) n = refl

-- the same of reads
pub no_more_reads : (A B : Type 0) (fault : BareFault) (n : ℕ) → bare_read_failures {T = A} n (Err fault) ≡ bare_read_failures {T = B} n (Err fault)
no_more_reads A B Network n = refl
no_more_reads A B (Serving Read) n = refl
no_more_reads A B (Serving Write) n = refl
no_more_reads A B (Serving Memory) n = refl
no_more_reads A B (Serving TooLong) n = refl
no_more_reads A B (Serving Head) n = refl

pub lag_reads : (A B : Type 0) (fault : ServeFault) (n : ℕ) → read_failures {T = A} n (Err fault) ≡ bare_read_failures {T = B} n (Err (Serving fault))
lag_reads A B Read n = refl
lag_reads A B Write n = refl
lag_reads A B Memory n = refl
lag_reads A B TooLong n = refl
lag_reads A B Head n = refl

-- commands behind the lags that were not all read
pub serve_reads : (A B : Type 0) (fault : ServeFault) (n m k : ℕ) → k ≡ read_failures {T = A} m (Err fault) → m ≡ n → k ≡ bare_read_failures {T = B} n (Err (Serving fault))
serve_reads A B fault n m k is same = is ∙ (ap (λ j. read_failures {T = A} j (Err fault)) same ∙ lag_reads A B fault n)

-- a head that was not read
pub head_reads : (r : Result Served BareFault) (fault : ServeFault) (n : ℕ) → IsErrAnd r (λ e. e ≡ Serving fault) → read_failures {T = ℕ × ℕ} n (Err fault) ≡ bare_read_failures n r
head_reads (Ok x) fault n is = absurd is
head_reads (Err f) fault n is = lag_reads (ℕ × ℕ) Served fault n ∙ ap (λ e. bare_read_failures {T = Served} n (Err e)) (sym is)

pub same_reads : (r : Result Served ServeFault) (q : Result Served BareFault) (n : ℕ) → q ≡ bare_result r → read_failures n r ≡ bare_read_failures n q
same_reads (Ok x) q n is = ap (bare_read_failures n) (sym is)
same_reads (Err Read) q n is = ap (bare_read_failures n) (sym is)
same_reads (Err Write) q n is = ap (bare_read_failures n) (sym is)
same_reads (Err Memory) q n is = ap (bare_read_failures n) (sym is)
same_reads (Err TooLong) q n is = ap (bare_read_failures n) (sym is)
same_reads (Err Head) q n is = ap (bare_read_failures n) (sym is)

pub same_failures : (r : Result Served ServeFault) (q : Result Served BareFault) (n : ℕ) → q ≡ bare_result r → write_failures n r ≡ bare_failures n q
same_failures (Ok x) q n is = ap (bare_failures n) (sym is)
same_failures (Err Read) q n is = ap (bare_failures n) (sym is)
same_failures (Err Write) q n is = ap (bare_failures n) (sym is)
same_failures (Err Memory) q n is = ap (bare_failures n) (sym is)
same_failures (Err TooLong) q n is = ap (bare_failures n) (sym is)
same_failures (Err Head) q n is = ap (bare_failures n) (sym is)

pub lines_all : (r : Result Served BareFault) (source held now : Option (List ℕ)) (before reading after : Reading) (head : ℕ × ℕ) → before.rest ≡ source → before.taken ≡ 0 → before.most ≡ 4_294_967_296 → TakesHead before reading (Ok head) → reading.most ≡ before.most → AnswersLines head reading after held now r → OnOk r (AnswersAll source held now)
lines_all (Err e) source held now before reading after head from none most takes same answers = tt
lines_all (Ok x) source held now before reading after head from none most takes same answers =
    let mid = answers.1 in
    let l = answers.3.lags in
    subst (λ a. AnswersAll a held now) from
    (all_answered before.rest reading.rest mid.rest held now takes.0 takes.1.text l.1.read.text head answers.0 l.0 answers.2 (mid.most - mid.taken) takes.1.free takes.1.ends takes.1.took takes.2 takes.3 l.1.read.took l.1.read.split l.1.set l.2
    (may_take before reading mid (first_setting head) answers.0 takes.0 l.0 takes.1 l.1 none (answers.3.most ∙ (same ∙ most))) answers.5)

pub lines_part : (r : Result Served BareFault) (source held now : Option (List ℕ)) (before reading after : Reading) (head : ℕ × ℕ) → before.rest ≡ source → before.taken ≡ 0 → before.most ≡ 4_294_967_296 → TakesHead before reading (Ok head) → reading.most ≡ before.most → AnswersLines head reading after held now r → OnErr r (AnswersPart source held now)
lines_part (Ok x) source held now before reading after head from none most takes same answers = tt
lines_part (Err Network) source held now before reading after head from none most takes same answers = subst (λ n. AnswersPart source held n) (sym answers) (none_written source held)
lines_part (Err (Serving fault)) source held now before reading after head from none most takes same (inl unread) = subst (λ n. AnswersPart source held n) (sym unread.2) (none_written source held)
lines_part (Err (Serving fault)) source held now before reading after head from none most takes same (inr answers) =
    let mid = answers.1 in
    let l = answers.3.lags in
    let serves = answers.4 in
    subst (λ a. AnswersPart a held now) from
    (part_answered before.rest reading.rest mid.rest serves.left held now takes.0 takes.1.text l.1.read.text head answers.0 l.0 answers.2 serves.lines serves.text (mid.most - mid.taken) takes.1.free takes.1.ends takes.1.took takes.2 takes.3 l.1.read.took l.1.read.split l.1.set l.2
    (may_take before reading mid (first_setting head) answers.0 takes.0 l.0 takes.1 l.1 none (answers.3.most ∙ (same ∙ most))) serves.read serves.ran
    (part_of_serving fault (first_machine head answers.0) answers.2 after held now serves.lines serves.text serves.part serves.ended))

-- ---- why it ended early

none_read : (source held : Option (List ℕ)) → BareStops source held held (Serving Read)
none_read None held = tt
none_read (Some xs) held = inl (Appends-nil held)

network_stops : (source held : Option (List ℕ)) → BareStops source held held Network
network_stops None held = tt
network_stops (Some xs) held = Appends-nil held

pub memory_stops : (source held : Option (List ℕ)) → BareStops source held held (Serving Memory)
memory_stops None held = tt
memory_stops (Some xs) held = Appends-nil held

head_too_long : (a c held : Option (List ℕ)) (text : List ℕ) → Consumes a c text → Free text → HasMore c → length text ≡ 4_294_967_296 → BareStops a held held (Serving TooLong)
head_too_long None c held text took free more is = tt
head_too_long (Some xs) None held text took free more is = absurd took
head_too_long (Some xs) (Some []) held text took free more is = absurd more
head_too_long (Some xs) (Some (y ∷ ys)) held text took free more is = inl (text, y ∷ ys, took, free, is, omega arith, Appends-nil held)

no_head : (a c held : Option (List ℕ)) (line text : List ℕ) → Free line → EndsLine line text c → Consumes a c text → (256 < length line) ⊎ (head_of line ≡ None) → BareStops a held held (Serving Head)
no_head None c held line text free ends took bad = tt
no_head (Some xs) None held line text free ends took bad = absurd took
no_head (Some xs) (Some zs) held line text free ends took bad = (inl (subst HasNoHead (sym (first_whole (Some xs) (Some zs) line text free ends took)) bad), Appends-nil held)

no_line : (a c held : Option (List ℕ)) → Consumes a c [] → IsAtEnd c → BareStops a held held (Serving Head)
no_line None c held took end = tt
no_line (Some xs) None held took end = absurd took
no_line (Some xs) (Some zs) held took end =
    let is : xs ≡ [] = took ∙ end in
    (inl (subst (λ bytes. HasNoHead (lines_of bytes)) (sym is) tt), Appends-nil held)

-- no head was read
pub head_stops : (fault : ServeFault) (source held : Option (List ℕ)) (before after : Reading) → before.rest ≡ source → before.taken ≡ 0 → before.most ≡ 4_294_967_296 → TakesHead before after (Err fault) → SameLimits before after → BareStops source held held (Serving fault)
head_stops Read source held before after from none most takes same = none_read source held
head_stops Write source held before after from none most takes same = absurd takes
head_stops Memory source held before after from none most takes same = absurd takes
head_stops TooLong source held before after from none most takes same =
    subst (λ a. BareStops a held held (Serving TooLong)) from
    (head_too_long before.rest after.rest held takes.0.text takes.0.took takes.0.free takes.1 (omega (arith, takes.0.counted, none, takes.2, same.most, most)))
head_stops Head source held before after from none most (inl takes) same =
    subst (λ a. BareStops a held held (Serving Head)) from (no_head before.rest after.rest held takes.0 takes.1.text takes.1.free takes.1.ends takes.1.took takes.2)
head_stops Head source held before after from none most (inr takes) same =
    subst (λ a. BareStops a held held (Serving Head)) from (no_line before.rest after.rest held takes.0 takes.1)

pub stops_by : (r : Result Served BareFault) (fault : ServeFault) (source held now : Option (List ℕ)) → IsErrAnd r (λ e. e ≡ Serving fault) → BareStops source held now (Serving fault) → IfErr r (BareStops source held now)
stops_by (Ok x) fault source held now is h = absurd is
stops_by (Err f) fault source held now is h = subst (BareStops source held now) (sym is) h

bad_lag : (a c d e held : Option (List ℕ)) (line text more bad last : List ℕ) (head lag : ℕ × ℕ) (setting : Setting) (lags : List (List ℕ)) → Free line → EndsLine line text c → Consumes a c text → length line ≤ 256 → head_of line ≡ Some head → Consumes c d more → IfSome c (λ ys. IfSome d (λ zs. lines_of ys ≡ lags ++ lines_of zs)) → SetsLags (first_setting head) lags setting → Free bad → EndsLine bad last e → Consumes d e last → lag_spelled bad ≡ Some lag → ¬ MaySet setting lag → BareStops a held held (Serving Head)
bad_lag None c d e held line text more bad last head lag setting lags free ends took short spelled took' split set free' ends' took'' names unfit = tt
bad_lag (Some xs) None d e held line text more bad last head lag setting lags free ends took short spelled took' split set free' ends' took'' names unfit = absurd took
bad_lag (Some xs) (Some ys) None e held line text more bad last head lag setting lags free ends took short spelled took' split set free' ends' took'' names unfit = absurd took'
bad_lag (Some xs) (Some ys) (Some zs) None held line text more bad last head lag setting lags free ends took short spelled took' split set free' ends' took'' names unfit = absurd took''
bad_lag (Some xs) (Some ys) (Some zs) (Some ws) held line text more bad last head lag setting lags free ends took short spelled took' split set free' ends' took'' names unfit = (
  inr (record {
    head = head;
    setting = setting;
    line = line;
    lags = lags;
    bad = bad;
    lag = lag;
    rest = lines_of ws;
    read = first_whole (Some xs) (Some ys) line text free ends took ∙ ap (λ ls. line ∷ ls) (split ∙ ap (λ ls. lags ++ ls) (first_whole (Some zs) (Some ws) bad last free' ends' took''));
    short = short;
    spelled = spelled;
    set = set;
    names = names;
    unfit = unfit;
  }),
  Appends-nil held,
)

lags_stop : (fault : ServeFault) (before reading after : Reading) (held : Option (List ℕ)) (head : ℕ × ℕ) (setting : Setting) → TakesHead before reading (Ok head) → ReadsLags reading after (first_setting head) setting (Err fault) → BareStops before.rest held held (Serving fault)
lags_stop Read before reading after held head setting takes lags = none_read before.rest held
lags_stop Write before reading after held head setting takes lags = absurd lags
lags_stop Memory before reading after held head setting takes lags = absurd lags
lags_stop TooLong before reading after held head setting takes lags = absurd lags
lags_stop Head before reading after held head setting takes lags =
    bad_lag before.rest reading.rest lags.1.rest after.rest held takes.0 takes.1.text lags.4.read.text lags.2 lags.5.text head lags.3 setting lags.0 takes.1.free takes.1.ends takes.1.took takes.2 takes.3 lags.4.read.took lags.4.read.split lags.4.set lags.5.free lags.5.ends lags.5.took lags.6 lags.7

-- the answers to some lines were written whole
lines_to : (xs ys zs ws : List ℕ) (held now : Option (List ℕ)) (line text more : List ℕ) (head : ℕ × ℕ) (setting : Setting) (lags : List (List ℕ)) (last : Machine) (lines : List (List ℕ)) (answers : List ℕ) (may : ℕ) → Free line → EndsLine line text (Some ys) → xs ≡ text ++ ys → length line ≤ 256 → head_of line ≡ Some head → ys ≡ more ++ zs → lines_of ys ≡ lags ++ lines_of zs → SetsLags (first_setting head) lags setting → NoLagNext (Some zs) may → 4_294_967_296 ≤ may + (length text + length more) → lines_of zs ≡ lines ++ lines_of ws → Transcript (first_machine head setting) lines answers last → Appends held now answers → AnswersLinesTo xs ws held now
lines_to xs ys zs ws held now line text more head setting lags last lines answers may free ends took short spelled took' split set stop most rest ran wrote =
    record {
      head = head;
      setting = setting;
      line = line;
      lags = lags;
      lines = lines;
      text = answers;
      last = last;
      read = first_whole (Some xs) (Some ys) line text free ends took ∙ ap (λ ls. line ∷ ls) (split ∙ ap (λ ls. lags ++ ls) rest);
      short = short;
      spelled = spelled;
      set = set;
      end = subst (EndLags xs) rest (end_lags xs ys zs text more may took took' stop most);
      ran = ran;
      written = wrote;
    }

read_stops : (a c d left held now : Option (List ℕ)) (line text more : List ℕ) (head : ℕ × ℕ) (setting : Setting) (lags : List (List ℕ)) (last : Machine) (lines : List (List ℕ)) (answers : List ℕ) (may : ℕ) → Free line → EndsLine line text c → Consumes a c text → length line ≤ 256 → head_of line ≡ Some head → Consumes c d more → IfSome c (λ ys. IfSome d (λ zs. lines_of ys ≡ lags ++ lines_of zs)) → SetsLags (first_setting head) lags setting → NoLagNext d may → 4_294_967_296 ≤ may + (length text + length more) → TakesLines d left lines → Transcript (first_machine head setting) lines answers last → Appends held now answers → BareStops a held now (Serving Read)
read_stops None c d left held now line text more head setting lags last lines answers may free ends took short spelled took' split set stop most takes ran wrote = tt
read_stops (Some xs) None d left held now line text more head setting lags last lines answers may free ends took short spelled took' split set stop most takes ran wrote = absurd took
read_stops (Some xs) (Some ys) None left held now line text more head setting lags last lines answers may free ends took short spelled took' split set stop most takes ran wrote = absurd took'
read_stops (Some xs) (Some ys) (Some zs) None held now line text more head setting lags last lines answers may free ends took short spelled took' split set stop most takes ran wrote = absurd takes.took
read_stops (Some xs) (Some ys) (Some zs) (Some ws) held now line text more head setting lags last lines answers may free ends took short spelled took' split set stop most takes ran wrote =
    inr (ws, lines_to xs ys zs ws held now line text more head setting lags last lines answers may free ends took short spelled took' split set stop most takes.split ran wrote)

most_stops : (a c d left after held now : Option (List ℕ)) (line text more part : List ℕ) (head : ℕ × ℕ) (setting : Setting) (lags : List (List ℕ)) (last : Machine) (lines : List (List ℕ)) (answers : List ℕ) (may : ℕ) → Free line → EndsLine line text c → Consumes a c text → length line ≤ 256 → head_of line ≡ Some head → Consumes c d more → IfSome c (λ ys. IfSome d (λ zs. lines_of ys ≡ lags ++ lines_of zs)) → SetsLags (first_setting head) lags setting → NoLagNext d may → 4_294_967_296 ≤ may + (length text + length more) → (takes : TakesLines d left lines) → Transcript (first_machine head setting) lines answers last → Appends held now answers → Consumes left after part → Free part → HasMore after → length text + (length more + (length takes.text + length part)) ≡ 4_294_967_296 → BareStops a held now (Serving TooLong)
most_stops None c d left after held now line text more part head setting lags last lines answers may free ends took short spelled took' split set stop most takes ran wrote behind one beyond is = tt
most_stops (Some xs) None d left after held now line text more part head setting lags last lines answers may free ends took short spelled took' split set stop most takes ran wrote behind one beyond is = absurd took
most_stops (Some xs) (Some ys) None left after held now line text more part head setting lags last lines answers may free ends took short spelled took' split set stop most takes ran wrote behind one beyond is = absurd took'
most_stops (Some xs) (Some ys) (Some zs) None after held now line text more part head setting lags last lines answers may free ends took short spelled took' split set stop most takes ran wrote behind one beyond is = absurd takes.took
most_stops (Some xs) (Some ys) (Some zs) (Some ws) None held now line text more part head setting lags last lines answers may free ends took short spelled took' split set stop most takes ran wrote behind one beyond is = absurd behind
most_stops (Some xs) (Some ys) (Some zs) (Some ws) (Some []) held now line text more part head setting lags last lines answers may free ends took short spelled took' split set stop most takes ran wrote behind one beyond is = absurd beyond
most_stops (Some xs) (Some ys) (Some zs) (Some ws) (Some (v ∷ vs)) held now line text more part head setting lags last lines answers may free ends took short spelled took' split set stop most takes ran wrote behind one beyond is =
    inr (
      ws,
      part,
      v ∷ vs,
      behind,
      one,
      omega (arith, is, ap length took, ap length took', ap length takes.took, ap length behind, length-append text ys, length-append more zs, length-append takes.text ws, length-append part (v ∷ vs)),
      omega arith,
      lines_to xs ys zs ws held now line text more head setting lags last lines answers may free ends took short spelled took' split set stop most takes.split ran wrote,
    )

serving_stops : (fault : ServeFault) (before reading mid after : Reading) (head : ℕ × ℕ) (setting : Setting) (last : Machine) (held now : Option (List ℕ)) → before.taken ≡ 0 → before.most ≡ 4_294_967_296 → TakesHead before reading (Ok head) → reading.most ≡ before.most → TakesAllLags head reading mid setting → after.most ≡ reading.most → Serves (first_machine head setting) last mid after held now (Err fault) → BareStops before.rest held now (Serving fault)
serving_stops Read before reading mid after head setting last held now none most takes same lags still serves =
    let l = lags.lags in
    read_stops before.rest reading.rest mid.rest serves.left held now takes.0 takes.1.text l.1.read.text head setting l.0 last serves.lines serves.text (mid.most - mid.taken) takes.1.free takes.1.ends takes.1.took takes.2 takes.3 l.1.read.took l.1.read.split l.1.set l.2
    (may_take before reading mid (first_setting head) setting takes.0 l.0 takes.1 l.1 none (lags.most ∙ (same ∙ most))) serves.read serves.ran serves.ended
serving_stops Write before reading mid after head setting last held now none most takes same lags still serves =
    let l = lags.lags in
    write_stops before.rest held now
    (part_answered before.rest reading.rest mid.rest serves.left held now takes.0 takes.1.text l.1.read.text head setting l.0 last serves.lines serves.text (mid.most - mid.taken) takes.1.free takes.1.ends takes.1.took takes.2 takes.3 l.1.read.took l.1.read.split l.1.set l.2
    (may_take before reading mid (first_setting head) setting takes.0 l.0 takes.1 l.1 none (lags.most ∙ (same ∙ most))) serves.read serves.ran (unwritten_part (first_machine head setting) last serves.lines serves.text held now serves.ended.1))
  where
    write_stops : (a held now : Option (List ℕ)) → AnswersPart a held now → BareStops a held now (Serving Write)
    write_stops None held now h = tt
    write_stops (Some xs) held now h = h
serving_stops Memory before reading mid after head setting last held now none most takes same lags still serves = absurd serves.ended
serving_stops Head before reading mid after head setting last held now none most takes same lags still serves = absurd serves.ended
serving_stops TooLong before reading mid after head setting last held now none most takes same lags still serves =
    let l = lags.lags in
    most_stops before.rest reading.rest mid.rest serves.left after.rest held now takes.0 takes.1.text l.1.read.text serves.part head setting l.0 last serves.lines serves.text (mid.most - mid.taken) takes.1.free takes.1.ends takes.1.took takes.2 takes.3 l.1.read.took l.1.read.split l.1.set l.2
    (may_take before reading mid (first_setting head) setting takes.0 l.0 takes.1 l.1 none (lags.most ∙ (same ∙ most))) serves.read serves.ran serves.ended.0 serves.behind serves.free serves.ended.1
    (omega (arith, serves.counted, l.1.counted, takes.1.counted, none, serves.ended.2, still, same, most))

pub lines_stop : (r : Result Served BareFault) (source held now : Option (List ℕ)) (before reading after : Reading) (head : ℕ × ℕ) → before.rest ≡ source → before.taken ≡ 0 → before.most ≡ 4_294_967_296 → TakesHead before reading (Ok head) → reading.most ≡ before.most → after.most ≡ reading.most → AnswersLines head reading after held now r → IfErr r (BareStops source held now)
lines_stop (Ok x) source held now before reading after head from none most takes same still answers = tt
lines_stop (Err Network) source held now before reading after head from none most takes same still answers =
    subst (λ n. BareStops source held n Network) (sym answers) (network_stops source held)
lines_stop (Err (Serving fault)) source held now before reading after head from none most takes same still (inl unread) =
    subst (λ n. BareStops source held n (Serving fault)) (sym unread.2)
    (subst (λ a. BareStops a held held (Serving fault)) from (lags_stop fault before reading after held head unread.0 takes unread.1))
lines_stop (Err (Serving fault)) source held now before reading after head from none most takes same still (inr answers) =
    subst (λ a. BareStops a held now (Serving fault)) from
    (serving_stops fault before reading answers.1 after head answers.0 answers.2 held now none most takes same answers.3 still answers.4)

-- ---- input that is refused

past : (bytes part more : List ℕ) → bytes ≡ part ++ more → length part ≡ 4_294_967_296 → 0 < length more → 4_294_967_296 < length bytes
past bytes part more is most some = omega (arith, ap length is, length-append part more, most, some)

pub refused_then : (fault : BareFault) (source held now : Option (List ℕ)) → BareStops source held now fault → bare_status fault ≡ 2 → IsRefused source
refused_then fault None held now h is = tt
refused_then Network (Some xs) held now h is = cc
refused_then (Serving Read) (Some xs) held now h is = cc
refused_then (Serving Write) (Some xs) held now h is = cc
refused_then (Serving Memory) (Some xs) held now h is = cc
refused_then (Serving TooLong) (Some xs) held now (inl h) is = inr (inr (past xs h.0 h.1 h.2 h.4 h.5))
refused_then (Serving TooLong) (Some xs) held now (inr h) is = inr (inr (omega (arith, h.5, h.6)))
refused_then (Serving Head) (Some xs) held now (inl none, wrote) is = inl none
refused_then (Serving Head) (Some xs) held now (inr bad, wrote) is = inr (inl bad)
