-- Lines of lags at the beginning, and then commands on the network of a plan.
use Rattle.std.proofs.Common.{◌≡◌, ◌+◌, ◌-◌, ◌≤◌, ◌<◌, ℕ, List, [], ◌++◌, ◌⊎◌, length-append, length, Bool, true, false, nat_lt, Option, Some, None, refl, subst, sym, ap, ◌∷◌, ◌∙◌, inl, inr, arith}
use Rattle.std.specs.Prelude.{Result, Ok, Err, IfErr, IfOk, IfSome, MatchBool, MatchOption}
use Rattle.std.specs.Io.KnownBytes.{Consumes, IsAtEnd}
use Rattle.std.proofs.KnownBytes.{Appends-nil}
use Rattle.tp_bounds.specs.Setting.{Setting}
use Rattle.tp_bounds.specs.declared.plan_nets.PlanNet.{PlanNet}
use Rattle.tp_exec_machine.specs.Machine.{Machine}
use Rattle.tp_exec_machine.specs.OwnBounds.{KeepsTo}
use Rattle.tp_exec_machine.specs.Step.{Step}
use Rattle.tp_exec_machine.specs.declared.command.Answer.{Answer}
use Rattle.tp_exec_machine.specs.declared.command.Command.{Command}
use Rattle.tp_exec_machine.proofs.Keeping.{step_keeps}
use Rattle.tp_script.specs.Pending.{Reading}
use Rattle.tp_script.specs.Reading.{EndsLine, Free, HasMore}
use Rattle.tp_script.specs.Commands.{command_of, list_is_empty}
use Rattle.tp_script.specs.Words.{words_of}
use Rattle.tp_script.specs.Transcript.{Answers, Transcript, line_of, lines_of, refused_line}
use Rattle.tp_script.specs.Lags.{lag_spelled, MaySet, NoLagNext, ReadsLags, SetsLags, TakesLags}
use Rattle.tp_script.specs.Serving.{Serves, TakesLines}
use Rattle.tp_script.specs.declared.serving.Served.{Served}
use Rattle.tp_script.specs.declared.serving.ServeFault.{ServeFault}
use Rattle.tp_script.specs.declared.serving.ServeFault.TheVariants.{Read, Write, Memory, TooLong, Head}
use Rattle.tp_script.proofs.ServeLemmas.{first_whole, unwritten_part}
use Rattle.tp_cli_bare.specs.Bare.{TakesAllLags, first_setting}
use Rattle.tp_cli_bare.specs.declared.bare.BareFault.{BareFault}
use Rattle.tp_cli_bare.specs.declared.bare.BareFault.TheVariants.{Network, Serving}
use Rattle.tp_cli_bare.proofs.BareLemmas.{end_lags}
use Rattle.tp_cli_run.specs.Answered.{Answered, AnswersWhole, HasUnfitLag, IsTooLong, StopsAnswers}
use Rattle.tp_cli_run.specs.Starts.{AnswersRun, BeginsRun, net_head, run_machine}

-- ---- what every transcript keeps

module _ (n : ℕ) (wanted : (ℕ → ℕ) → Type 0) where
  by_line : (P Q R : Type 0) (T : Command → Answer → Type 0) (old new : Machine) (long blank : Bool) (o : Option Command) → KeepsTo n wanted old → MatchBool long (P × (new ≡ old)) (MatchBool blank (Q × (new ≡ old)) (MatchOption o (R × (new ≡ old)) (λ command. (answer : Answer) × Step old command answer new × T command answer))) → KeepsTo n wanted new
  by_line P Q R T old new true blank o keeps h = subst (KeepsTo n wanted) (sym h.1) keeps
  by_line P Q R T old new false true o keeps h = subst (KeepsTo n wanted) (sym h.1) keeps
  by_line P Q R T old new false false None keeps h = subst (KeepsTo n wanted) (sym h.1) keeps
  by_line P Q R T old new false false (Some command) keeps h = step_keeps n wanted old new command h.0 keeps h.1

  answers_keep : (old new : Machine) (line text : List ℕ) → KeepsTo n wanted old → Answers old line text new → KeepsTo n wanted new
  answers_keep old new line text keeps h =
      by_line (text ≡ refused_line) (text ≡ []) (text ≡ refused_line) (λ command answer. text ≡ line_of answer) old new (nat_lt 256 (length line)) (list_is_empty (words_of line)) (command_of line) keeps h

  pub transcript_keeps : (lines : List (List ℕ)) (old new : Machine) (text : List ℕ) → KeepsTo n wanted old → Transcript old lines text new → KeepsTo n wanted new
  transcript_keeps [] old new text keeps ran = subst (KeepsTo n wanted) (sym ran.1) keeps
  transcript_keeps (line ∷ lines) old new text keeps ran = transcript_keeps lines ran.2 new ran.1 (answers_keep old ran.2 line ran.0 keeps ran.4) ran.5

-- ---- from one reading to the next

pub answers_all : (net : PlanNet) (first last : Machine) (before mid after : Reading) (held now : Option (List ℕ)) (served : Served) → BeginsRun net before mid (Ok first) → Serves first last mid after held now (Ok served) → AnswersRun net before after held now (Ok last)
answers_all net first last before mid after held now served b serves =
    (b.0, mid, served, b.1, subst (λ m. Serves m last mid after held now (Ok served)) b.2 serves)

pub answers_some : (net : PlanNet) (first last : Machine) (before mid after : Reading) (held now : Option (List ℕ)) (fault : ServeFault) → BeginsRun net before mid (Ok first) → Serves first last mid after held now (Err fault) → AnswersRun net before after held now (Err (Serving fault))
answers_some net first last before mid after held now fault b serves =
    inr (b.0, mid, last, b.1, subst (λ m. Serves m last mid after held now (Err fault)) b.2 serves)

pub answers_none : (fault : BareFault) (net : PlanNet) (before after : Reading) (held : Option (List ℕ)) → BeginsRun net before after (Err fault) → AnswersRun net before after held held (Err fault)
answers_none Network net before after held b = refl
answers_none (Serving fault) net before after held b = inl (b.0, b.1, refl)

-- ---- from the bytes on

abbrev rest_lines : Option (List ℕ) → List (List ℕ)
rest_lines None = []
rest_lines (Some bytes) = lines_of bytes

answered_by : (net : PlanNet) (a d left : Option (List ℕ)) (more : List ℕ) (setting : Setting) (lags : List (List ℕ)) (last : Machine) (lines : List (List ℕ)) (answers : List ℕ) (may : ℕ) → Consumes a d more → IfSome a (λ xs. IfSome d (λ ys. lines_of xs ≡ lags ++ lines_of ys)) → SetsLags (first_setting (net_head net)) lags setting → NoLagNext d may → 4_294_967_296 ≤ may + (0 + length more) → TakesLines d left lines → Transcript (run_machine net setting) lines answers last → Answered net a (rest_lines left) answers last
answered_by net None d left more setting lags last lines answers may took split set stop most takes ran =
    record { setting = setting; lags = lags; lines = lines; read = tt; set = set; end = tt; ran = ran }
answered_by net (Some xs) None left more setting lags last lines answers may took split set stop most takes ran = absurd took
answered_by net (Some xs) (Some ys) None more setting lags last lines answers may took split set stop most takes ran = absurd takes.took
answered_by net (Some xs) (Some ys) (Some zs) more setting lags last lines answers may took split set stop most takes ran =
    record {
      setting = setting;
      lags = lags;
      lines = lines;
      read = split ∙ ap (λ ls. lags ++ ls) takes.split;
      set = set;
      end = subst (λ ls. (line : List ℕ) (rest : List (List ℕ)) → ls ≡ line ∷ rest → (lag_spelled line ≡ None) ⊎ (4_294_967_296 < length xs)) takes.split (end_lags xs xs ys [] more may refl took stop most);
      ran = ran;
    }

-- how many bytes may be taken behind the lags
may_take : (before mid : Reading) (s t : Setting) (lags : List (List ℕ)) (l : TakesLags before mid s t lags) → before.taken ≡ 0 → mid.most ≡ 4_294_967_296 → 4_294_967_296 ≤ (mid.most - mid.taken) + (0 + length l.read.text)
may_take before mid s t lags l none most = omega (arith, none, most, l.counted)

answered : (net : PlanNet) (before mid after : Reading) (setting : Setting) (last : Machine) (held now : Option (List ℕ)) (r : Result Served ServeFault) → before.taken ≡ 0 → before.most ≡ 4_294_967_296 → TakesAllLags (net_head net) before mid setting → (serves : Serves (run_machine net setting) last mid after held now r) → Answered net before.rest (rest_lines serves.left) serves.text last
answered net before mid after setting last held now r none most lags serves =
    let l = lags.lags in
    answered_by net before.rest mid.rest serves.left l.1.read.text setting l.0 last serves.lines serves.text (mid.most - mid.taken) l.1.read.took l.1.read.split l.1.set l.2
    (may_take before mid (first_setting (net_head net)) setting l.0 l.1 none (lags.most ∙ most)) serves.read serves.ran

-- ---- all lines are answered

nothing_left : (left after : Option (List ℕ)) (part : List ℕ) → Consumes left after part → part ≡ [] → IsAtEnd after → rest_lines left ≡ []
nothing_left None after part took none end = refl
nothing_left (Some zs) None part took none end = absurd took
nothing_left (Some zs) (Some ws) part took none end =
    let empty : zs ≡ [] = took ∙ (ap (λ p. p ++ ws) none ∙ end) in
    ap lines_of empty

pub lines_whole : (r : Result Machine BareFault) (net : PlanNet) (source held now : Option (List ℕ)) (before after : Reading) → before.rest ≡ source → before.taken ≡ 0 → before.most ≡ 4_294_967_296 → AnswersRun net before after held now r → IfOk r (AnswersWhole net source held now)
lines_whole (Err fault) net source held now before after from none most answers = tt
lines_whole (Ok last) net source held now before after from none most answers =
    let setting = answers.0 in
    let mid = answers.1 in
    let serves = answers.4 in
    let some = answered net before mid after setting last held now (Ok answers.2) none most answers.3 serves in
    let whole : Answered net source [] serves.text last =
    subst (λ a. Answered net a [] serves.text last) from
    (subst (λ ls. Answered net before.rest ls serves.text last) (nothing_left serves.left after.rest serves.part serves.behind serves.ended.0 serves.ended.1) some) in
    (serves.text, whole, serves.ended.2)

-- ---- not all lines are answered

-- the line of a lag does not fit
unfit_lag : (net : PlanNet) (a d e : Option (List ℕ)) (more bad last : List ℕ) (lag : ℕ × ℕ) (setting : Setting) (lags : List (List ℕ)) → Consumes a d more → IfSome a (λ xs. IfSome d (λ ys. lines_of xs ≡ lags ++ lines_of ys)) → SetsLags (first_setting (net_head net)) lags setting → Free bad → EndsLine bad last e → Consumes d e last → lag_spelled bad ≡ Some lag → ¬ MaySet setting lag → HasUnfitLag net a
unfit_lag net None d e more bad last lag setting lags took split set free ends took' names unfit =
    record { setting = setting; lags = lags; bad = bad; lag = lag; rest = []; read = tt; set = set; names = names; unfit = unfit }
unfit_lag net (Some xs) None e more bad last lag setting lags took split set free ends took' names unfit = absurd took
unfit_lag net (Some xs) (Some ys) None more bad last lag setting lags took split set free ends took' names unfit = absurd took'
unfit_lag net (Some xs) (Some ys) (Some zs) more bad last lag setting lags took split set free ends took' names unfit =
    record {
      setting = setting;
      lags = lags;
      bad = bad;
      lag = lag;
      rest = lines_of zs;
      read = split ∙ ap (λ ls. lags ++ ls) (first_whole (Some ys) (Some zs) bad last free ends took');
      set = set;
      names = names;
      unfit = unfit;
    }

lags_stop : (fault : ServeFault) (net : PlanNet) (before after : Reading) (held : Option (List ℕ)) (setting : Setting) → ReadsLags before after (first_setting (net_head net)) setting (Err fault) → StopsAnswers net before.rest held held (Serving fault)
lags_stop Read net before after held setting lags = inl (Appends-nil held)
lags_stop Write net before after held setting lags = absurd lags
lags_stop Memory net before after held setting lags = absurd lags
lags_stop TooLong net before after held setting lags = absurd lags
lags_stop Head net before after held setting lags = (
  unfit_lag net before.rest lags.1.rest after.rest lags.4.read.text lags.2 lags.5.text lags.3 setting lags.0 lags.4.read.took lags.4.read.split lags.4.set lags.5.free lags.5.ends lags.5.took lags.6 lags.7,
  refl,
)

-- as many bytes as are taken were taken, and there are more
too_long : (a d left after : Option (List ℕ)) (more part : List ℕ) (lines : List (List ℕ)) → Consumes a d more → (takes : TakesLines d left lines) → Consumes left after part → Free part → HasMore after → length more + (length takes.text + length part) ≡ 4_294_967_296 → IsTooLong a (rest_lines left)
too_long None d left after more part lines took takes behind free beyond is = tt
too_long (Some xs) None left after more part lines took takes behind free beyond is = absurd took
too_long (Some xs) (Some ys) None after more part lines took takes behind free beyond is = absurd takes.took
too_long (Some xs) (Some ys) (Some zs) None more part lines took takes behind free beyond is = absurd behind
too_long (Some xs) (Some ys) (Some zs) (Some []) more part lines took takes behind free beyond is = absurd beyond
too_long (Some xs) (Some ys) (Some zs) (Some (v ∷ vs)) more part lines took takes behind free beyond is = (
  part,
  v ∷ vs,
  ap lines_of behind,
  free,
  omega (arith, is, ap length took, ap length takes.took, ap length behind, length-append more ys, length-append takes.text zs, length-append part (v ∷ vs)),
  omega arith,
)

serving_stops : (fault : ServeFault) (net : PlanNet) (before mid after : Reading) (setting : Setting) (last : Machine) (held now : Option (List ℕ)) → before.taken ≡ 0 → before.most ≡ 4_294_967_296 → TakesAllLags (net_head net) before mid setting → after.most ≡ before.most → Serves (run_machine net setting) last mid after held now (Err fault) → StopsAnswers net before.rest held now (Serving fault)
serving_stops Read net before mid after setting last held now none most lags still serves =
    inr (rest_lines serves.left, serves.text, last, answered net before mid after setting last held now (Err Read) none most lags serves, serves.ended)
serving_stops Write net before mid after setting last held now none most lags still serves =
    (rest_lines serves.left, serves.text, last, answered net before mid after setting last held now (Err Write) none most lags serves, unwritten_part (run_machine net setting) last serves.lines serves.text held now serves.ended.1)
serving_stops Memory net before mid after setting last held now none most lags still serves = absurd serves.ended
serving_stops Head net before mid after setting last held now none most lags still serves = absurd serves.ended
serving_stops TooLong net before mid after setting last held now none most lags still serves =
    let l = lags.lags in (
      rest_lines serves.left,
      serves.text,
      last,
      too_long before.rest mid.rest serves.left after.rest l.1.read.text serves.part serves.lines l.1.read.took serves.read serves.behind serves.free serves.ended.1
          (omega (arith, serves.counted, l.1.counted, none, serves.ended.2, still, most)),
      answered net before mid after setting last held now (Err TooLong) none most lags serves,
      serves.ended.0,
    )

pub lines_stop : (r : Result Machine BareFault) (net : PlanNet) (source held now : Option (List ℕ)) (before after : Reading) → before.rest ≡ source → before.taken ≡ 0 → before.most ≡ 4_294_967_296 → after.most ≡ before.most → AnswersRun net before after held now r → IfErr r (StopsAnswers net source held now)
lines_stop (Ok last) net source held now before after from none most still answers = tt
lines_stop (Err Network) net source held now before after from none most still answers =
    inl answers
lines_stop (Err (Serving fault)) net source held now before after from none most still (inl unread) =
    subst (λ n. StopsAnswers net source held n (Serving fault)) (sym unread.2)
    (subst (λ a. StopsAnswers net a held held (Serving fault)) from (lags_stop fault net before after held unread.0 unread.1))
lines_stop (Err (Serving fault)) net source held now before after from none most still (inr answers) =
    subst (λ a. StopsAnswers net a held now (Serving fault)) from
    (serving_stops fault net before answers.1 after answers.0 answers.2 held now none most answers.3 still answers.4)
