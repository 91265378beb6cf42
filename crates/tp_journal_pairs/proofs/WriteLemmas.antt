-- Lines that are entered one after another, and what is written of them.
use Rattle.std.proofs.Common.{◌≡◌, ◌≢◌, ℕ, zero, suc, ◌+◌, ◌-◌, ◌≤◌, ◌<◌, inl, inr, List, [], ◌∷◌, ◌++◌, length, take, drop, get_or, map, flat_map, Option, Some, None, Bool, true, false, cond, refl, ap, sym, subst, ◌∙◌, append_assoc, append-nil, arith, length-append, decimal, codes}
use Rattle.std.specs.Prelude.{is_err, Result, Ok, Err, nat_lt, nat_eq, MatchBool, MatchOption}
use Rattle.std.proofs.lemmas.Bool.{le-ltb, lt-ltb, ne_eqb}
use Rattle.std.proofs.lemmas.Fmt.{decimal_digit}
use Rattle.std.proofs.lemmas.Grind.{flat_map-append}
use Rattle.std.specs.Io.KnownBytes.{Appends}
use Rattle.tp_device.specs.Bytes.{AppendsPart, Writes, failures_after}
use Rattle.tp_device.specs.declared.Failed.{Failed}
use Rattle.std.proofs.KnownBytes.{Appends-trans, Appends-nil}
use Rattle.tp_device.proofs.Parts.{appends_is, part_after}
use Rattle.tp_exec_machine.specs.Machine.{Machine}
use Rattle.tp_exec_machine.specs.declared.command.Command.{Command}
use Rattle.tp_exec_machine.specs.declared.command.Command.TheVariants.{Advance, Add, Withdraw, Window, Dispatch, Happened, Report}
use Rattle.tp_exec_machine.specs.declared.command.Answer.{Answer}
use Rattle.tp_exec_machine.specs.Step.{Step}
use Rattle.tp_script.specs.Pending.{Reading}
use Rattle.tp_script.specs.Reading.{TakesWhole}
use Rattle.tp_script.specs.Words.{words_of, words_from}
use Rattle.tp_script.specs.Commands.{command_of, list_is_empty}
use Rattle.tp_script.specs.Transcript.{line_of, refused_line, Answers, Transcript}
use Rattle.tp_script.specs.Written.{bound_line, command_line}
use Rattle.std.specs.Ordering.{nat_cmp}
use Rattle.std.specs.FinMap.{FinMap, get}
use Rattle.tp_bounds.specs.declared.Bound.{Bound}
use Rattle.tp_bounds.specs.Setting.{event_count}
use Rattle.tp_exec_machine.proofs.OwnBounds.{own_there}
use Rattle.tp_script.specs.Serving.{commands_of}
use Rattle.tp_script.proofs.LineLemmas.{consumes_more, consumes_same}
use Rattle.tp_script.proofs.ServeLemmas.{command_words, in_order, in_order_none, at_true, free_none, appends_end, goes_none, goes_more, split_more, transcript_more}
use Rattle.tp_journal_pairs.specs.declared.faults.JournalFault.{JournalFault}
use Rattle.tp_journal_pairs.specs.declared.faults.JournalFault.TheVariants.{Read, Write, Log, TooLong}
use Rattle.tp_journal_pairs.specs.declared.writing.Turn.TheVariants.{Over}
use Rattle.tp_journal_pairs.specs.Journal.{Entry, Has, Runs, pair_lines, text_of, head_lines, head_of, kind_lines, own_lines, own_of, before_bounds, bounds_from, lag_line, lags_from, lags_of}
use Rattle.tp_journal_pairs.specs.Writing.{IsNewExecutive, AllAreInForce, Enters, EntersAll, pairs_text, journal_bytes, SaysAll, Turns, Records, EndsUnlogged, Journals}

-- ---- bytes of lines

pub text_more : (xs ys : List (List ℕ)) → text_of (xs ++ ys) ≡ text_of xs ++ text_of ys
text_more xs ys = flat_map-append (λ line. line ++ 10 ∷ []) xs ys

pairs_more : (es fs : List Entry) → pairs_text (es ++ fs) ≡ pairs_text es ++ pairs_text fs
pairs_more es fs = ap text_of (flat_map-append pair_lines es fs) ∙ text_more (flat_map pair_lines es) (flat_map pair_lines fs)

journal_split : (m : Machine) (es : List Entry) → journal_bytes m es ≡ text_of (head_lines (head_of 2 m)) ++ pairs_text es
journal_split m es = text_more (head_lines (head_of 2 m)) (flat_map pair_lines es)

pub journal_none : (m : Machine) → text_of (head_lines (head_of 2 m)) ≡ journal_bytes m []
journal_none m = sym (journal_split m [] ∙ append-nil (text_of (head_lines (head_of 2 m))))

pub journal_more : (m : Machine) (es fs : List Entry) → journal_bytes m (es ++ fs) ≡ journal_bytes m es ++ pairs_text fs
journal_more m es fs =
    journal_split m (es ++ fs)
    ∙ (ap (λ t. text_of (head_lines (head_of 2 m)) ++ t) (pairs_more es fs)
    ∙ (sym (append_assoc (text_of (head_lines (head_of 2 m))) (pairs_text es) (pairs_text fs))
    ∙ ap (λ t. t ++ pairs_text fs) (sym (journal_split m es))))

-- ---- what a line becomes

map_bool : (b : Bool) (P Q R S : Type 0) → (P → R) → (Q → S) → MatchBool b P Q → MatchBool b R S
map_bool true P Q R S f g h = f h
map_bool false P Q R S f g h = g h

map_option : {X : Type 0} (o : Option X) (P R : Type 0) (Q S : X → Type 0) → (P → R) → ((x : X) → Q x → S x) → MatchOption o P Q → MatchOption o R S
map_option None P R Q S f g h = f h
map_option (Some x) P R Q S f g h = g x h

pub enters_answers : (old new : Machine) (line : List ℕ) (entries : List Entry) (text : List ℕ) → Enters old line entries text new → Answers old line text new
enters_answers old new line entries text =
    map_bool (nat_lt 256 (length line)) _ _ _ _ (λ h. (h.1, h.2))
    (map_bool (list_is_empty (words_of line)) _ _ _ _ (λ h. (h.1, h.2))
    (map_option (command_of line) _ _ _ _ (λ h. (h.1, h.2)) (λ command h. (h.0, h.1, h.3))))

has_two : (command : Command) → Has 2 command
has_two (Advance to) = tt
has_two (Add b) = tt
has_two (Withdraw id) = tt
has_two (Window e) = tt
has_two (Dispatch e) = tt
has_two (Happened e moment) = refl
has_two Report = tt

-- one of three cases
by_bool : {C : Type 0} (b : Bool) (P Q : Type 0) → (P → C) → (Q → C) → MatchBool b P Q → C
by_bool true P Q f g h = f h
by_bool false P Q f g h = g h

by_option : {C X : Type 0} (o : Option X) (P : Type 0) (Q : X → Type 0) → (P → C) → ((x : X) → o ≡ Some x → Q x → C) → MatchOption o P Q → C
by_option None P Q f g h = f h
by_option (Some x) P Q f g h = g x refl h

runs_none : (m new : Machine) (entries : List Entry) → entries ≡ None ∷ [] → new ≡ m → Runs 2 m entries new
runs_none m new entries is same = subst (λ es. Runs 2 m es new) (sym is) same

runs_one : (m new : Machine) (line : List ℕ) (command : Command) (answer : Answer) (entries : List Entry) → entries ≡ Some (command, answer) ∷ [] → command_of line ≡ Some command → Step m command answer new → Runs 2 m entries new
runs_one m new line command answer entries is spelled step =
    subst (λ es. Runs 2 m es new) (sym is) (new, (line, spelled), has_two command, step, refl)

pub enters_runs : (old new : Machine) (line : List ℕ) (entries : List Entry) (text : List ℕ) → Enters old line entries text new → Runs 2 old entries new
enters_runs old new line entries text =
    by_bool (nat_lt 256 (length line)) _ _ (λ h. runs_none old new entries h.0 h.2)
    (by_bool (list_is_empty (words_of line)) _ _ (λ h. subst (λ es. Runs 2 old es new) (sym h.0) h.2)
    (by_option (command_of line) _ _ (λ h. runs_none old new entries h.0 h.2) (λ command is h. runs_one old new line command h.0 entries h.2 is h.1)))

pub enters_few : (old new : Machine) (line : List ℕ) (entries : List Entry) (text : List ℕ) → Enters old line entries text new → length entries ≤ 1
enters_few old new line entries text =
    by_bool (nat_lt 256 (length line)) _ _ (λ h. few entries None h.0)
    (by_bool (list_is_empty (words_of line)) _ _ (λ h. (let e : length entries ≡ 0 = ap length h.0 in omega (arith, e)))
    (by_option (command_of line) _ _ (λ h. few entries None h.0) (λ command is h. few entries (Some (command, h.0)) h.2)))
  where
    few : (es : List Entry) (e : Entry) → es ≡ e ∷ [] → length es ≤ 1
    few es e is = let size : length es ≡ 1 = ap length is in omega (arith, size)

pub enters_command : (old new : Machine) (line : List ℕ) (c : Command) (answer : Answer) → length line ≤ 256 → command_of line ≡ Some c → Step old c answer new → Enters old line (Some (c, answer) ∷ []) (line_of answer) new
enters_command old new line c answer le is step =
    in_order _ _ _ (λ d. (a : Answer) × Step old d a new × (Some (c, answer) ∷ [] ≡ Some (d, a) ∷ []) × (line_of answer ≡ line_of a)) (nat_lt 256 (length line)) (list_is_empty (words_of line)) (command_of line) c
    (le-ltb 256 (length line) le) (command_words line c is) is (answer, step, refl, refl)

pub enters_refused : (old : Machine) (line word rest : List ℕ) → length line ≤ 256 → words_of line ≡ words_from word rest → 0 < length word → command_of line ≡ None → Enters old line (None ∷ []) refused_line old
enters_refused old line [] rest le words some is = absurd (let no : ⊥ = omega arith in no)
enters_refused old line (b ∷ bs) rest le words some is =
    in_order_none _ _ _ (λ d. (a : Answer) × Step old d a old × (None ∷ [] ≡ Some (d, a) ∷ []) × (refused_line ≡ line_of a)) (nat_lt 256 (length line)) (list_is_empty (words_of line)) (command_of line)
    (le-ltb 256 (length line) le) (ap list_is_empty words) is (refl, refl, refl)

in_order_empty : (P Q R : Type 0) (a b : Bool) → a ≡ false → b ≡ true → Q → MatchBool a P (MatchBool b Q R)
in_order_empty P Q R true b x y q = absurd (let no : ⊥ = cc in no)
in_order_empty P Q R false true x y q = q
in_order_empty P Q R false false x y q = absurd (let no : ⊥ = cc in no)

pub enters_blank : (old : Machine) (line word rest : List ℕ) → length line ≤ 256 → words_of line ≡ words_from word rest → length word ≡ 0 → Enters old line [] [] old
enters_blank old line [] rest le words none =
    in_order_empty _ _ _ (nat_lt 256 (length line)) (list_is_empty (words_of line)) (le-ltb 256 (length line) le) (ap list_is_empty words) (refl, refl, refl)
enters_blank old line (b ∷ bs) rest le words none = absurd (let no : ⊥ = omega arith in no)

pub enters_long : (old : Machine) (line : List ℕ) → 256 < length line → Enters old line (None ∷ []) refused_line old
enters_long old line gt = at_true _ _ (nat_lt 256 (length line)) (lt-ltb 256 (length line) gt) (refl, refl, refl)

-- ---- one line more

pub runs_more : (old mid new : Machine) (es fs : List Entry) → Runs 2 old es mid → Runs 2 mid fs new → Runs 2 old (es ++ fs) new
runs_more old mid new [] fs h k = subst (λ m. Runs 2 m fs new) h k
runs_more old mid new (None ∷ es) fs h k = runs_more old mid new es fs h k
runs_more old mid new (Some p ∷ es) fs h k = (h.0, h.1, h.2, h.3, runs_more h.0 mid new es fs h.4 k)

pub enters_more : (lines : List (List ℕ)) (old mid new : Machine) (es fs : List Entry) (text line piece : List ℕ) → EntersAll old lines es text mid → Enters mid line fs piece new → EntersAll old (lines ++ line ∷ []) (es ++ fs) (text ++ piece) new
enters_more [] old mid new es fs text line piece ran enters =
    (fs, [], piece, [], new, ap (λ xs. xs ++ fs) ran.0 ∙ sym (append-nil fs), ap (λ t. t ++ piece) ran.1 ∙ sym (append-nil piece), subst (λ m. Enters m line fs piece new) ran.2 enters, (refl, refl, refl))
enters_more (l ∷ ls) old mid new es fs text line piece ran enters =
    (ran.0, ran.1 ++ fs, ran.2, ran.3 ++ piece, ran.4, ap (λ xs. xs ++ fs) ran.5 ∙ append_assoc ran.0 ran.1 fs, ap (λ t. t ++ piece) ran.6 ∙ append_assoc ran.2 ran.3 piece, ran.7, enters_more ls ran.4 mid new ran.1 fs ran.3 line piece ran.8 enters)

pub records_none : (m : Machine) (r : Reading) (h log logged : Option (List ℕ)) → Appends log logged (text_of (head_lines (head_of 2 m))) → Records m m r r h h log logged 0
unfolding goes_none
records_none m r h log logged head =
    record { goes = goes_none m r h; entries = []; ran = (refl, refl, refl); runs = refl; logs = appends_is log logged _ _ (journal_none m) head }

pub records_more : (old mid new : Machine) (start before after : Reading) (held now then log logged further : Option (List ℕ)) (n k : ℕ) (line piece : List ℕ) (fs : List Entry) → Records old mid start before held now log logged n → TakesWhole before after line → Enters mid line fs piece new → Appends now then piece → Appends logged further (pairs_text fs) → k ≡ commands_of line → Records old new start after held then log further (n + k)
unfolding goes_more
records_more old mid new start before after held now then log logged further n k line piece fs r took enters written logs is =
    record {
      goes = goes_more old mid new start before after held now then n k line piece r.goes took (enters_answers mid new line fs piece enters) written is;
      entries = r.entries ++ fs;
      ran = enters_more r.goes.lines old mid new r.entries fs r.goes.text line piece r.ran enters;
      runs = runs_more old mid new r.entries fs r.runs (enters_runs mid new line fs piece enters);
      logs = appends_is log further _ _ (sym (journal_more old r.entries fs)) (Appends-trans log logged further (journal_bytes old r.entries) (pairs_text fs) r.logs logs);
    }

-- ---- how it ends

pub journals_ok : (old mid new : Machine) (before reading after : Reading) (held now then log logged further : Option (List ℕ)) (n : ℕ) → Records old mid before reading held now log logged n → Turns mid new reading after now then logged further (Ok Over) → Journals old new before after held then log further (Ok (record { commands = n }))
journals_ok old mid new before reading after held now then log logged further n r turns =
    record {
      lines = r.goes.lines;
      entries = r.entries;
      text = r.goes.text;
      left = reading.rest;
      part = [];
      read = r.goes.read;
      behind = turns.1;
      free = free_none;
      counted = omega (arith, r.goes.counted, turns.5);
      ran = subst (EntersAll old r.goes.lines r.entries r.goes.text) (sym turns.0) r.ran;
      transcript = subst (Transcript old r.goes.lines r.goes.text) (sym turns.0) r.goes.ran;
      runs = subst (Runs 2 old r.entries) (sym turns.0) r.runs;
      ended = (refl, turns.2, appends_end held now then r.goes.text r.goes.written turns.3, appends_end log logged further (journal_bytes old r.entries) r.logs turns.4, r.goes.count);
    }

past : (n : ℕ) (xs ys : List ℕ) → take (length xs + n) (xs ++ ys) ≡ xs ++ take n ys
past n [] ys = let e : 0 + n ≡ n = omega arith in ap (λ k. take k ys) e
past n (x ∷ xs) ys = let e : suc (length xs) + n ≡ suc (length xs + n) = omega arith in ap (λ k. take k (x ∷ (xs ++ ys))) e ∙ ap (λ t. x ∷ t) (past n xs ys)

taken : (xs ys : List ℕ) (n : ℕ) (all : List ℕ) → all ≡ xs ++ ys → take (length xs + n) all ≡ xs ++ take n ys
taken xs ys n all is = ap (take (length xs + n)) is ∙ past n xs ys

-- the journal up to a pair of which a part is written
unlogged : (old mid new : Machine) (lines : List (List ℕ)) (line : List ℕ) (es fs : List Entry) (text piece : List ℕ) (held now log logged further : Option (List ℕ)) → EntersAll old lines es text mid → Enters mid line fs piece new → Appends held now text → Appends log logged (journal_bytes old es) → AppendsPart logged further (pairs_text fs) → EndsUnlogged old new (lines ++ line ∷ []) (es ++ fs) held now log further
unlogged old mid new lines line es fs text piece held now log logged further ran enters answered logs part =
    let whole : journal_bytes old (es ++ fs) ≡ journal_bytes old es ++ pairs_text fs = journal_more old es fs in
    let size : length (journal_bytes old (es ++ fs)) ≡ length (journal_bytes old es) + length (pairs_text fs) = ap length whole ∙ length-append (journal_bytes old es) (pairs_text fs) in
    record {
      lines_before = lines;
      lines_last = line ∷ [];
      before = es;
      last = fs;
      said = text;
      unsaid = piece;
      mid = mid;
      lines_are = refl;
      entries_are = refl;
      one = enters_few mid new line fs piece enters;
      ran_before = ran;
      ran_last = (fs, [], piece, [], new, sym (append-nil fs), sym (append-nil piece), enters, (refl, refl, refl));
      answered = answered;
      count = length (journal_bytes old es) + part.count;
      within = omega (arith, size, part.within);
      pairs_before = λ _. omega arith;
      logs = appends_is log further _ _ (sym (taken (journal_bytes old es) (pairs_text fs) part.count (journal_bytes old (es ++ fs)) whole)) (Appends-trans log logged further (journal_bytes old es) (take part.count (pairs_text fs)) logs part.held);
    }

pub journals_err : (old mid new : Machine) (before reading after : Reading) (held now then log logged further : Option (List ℕ)) (n : ℕ) (fault : JournalFault) → Records old mid before reading held now log logged n → Turns mid new reading after now then logged further (Err fault) → Journals old new before after held then log further (Err fault)
journals_err old mid new before reading after held now then log logged further n Read r turns =
    record {
      lines = r.goes.lines;
      entries = r.entries;
      text = r.goes.text;
      left = reading.rest;
      part = turns.1.text;
      read = r.goes.read;
      behind = turns.1.took;
      free = turns.1.free;
      counted = omega (arith, r.goes.counted, turns.1.counted);
      ran = subst (EntersAll old r.goes.lines r.entries r.goes.text) (sym turns.0) r.ran;
      transcript = subst (Transcript old r.goes.lines r.goes.text) (sym turns.0) r.goes.ran;
      runs = subst (Runs 2 old r.entries) (sym turns.0) r.runs;
      ended = (appends_end held now then r.goes.text r.goes.written turns.2, appends_end log logged further (journal_bytes old r.entries) r.logs turns.3);
    }
journals_err old mid new before reading after held now then log logged further n TooLong r turns =
    record {
      lines = r.goes.lines;
      entries = r.entries;
      text = r.goes.text;
      left = reading.rest;
      part = turns.1.text;
      read = r.goes.read;
      behind = turns.1.took;
      free = turns.1.free;
      counted = omega (arith, r.goes.counted, turns.1.counted);
      ran = subst (EntersAll old r.goes.lines r.entries r.goes.text) (sym turns.0) r.ran;
      transcript = subst (Transcript old r.goes.lines r.goes.text) (sym turns.0) r.goes.ran;
      runs = subst (Runs 2 old r.entries) (sym turns.0) r.runs;
      ended = (appends_end held now then r.goes.text r.goes.written turns.2, appends_end log logged further (journal_bytes old r.entries) r.logs turns.3, turns.4, turns.5);
    }
journals_err old mid new before reading after held now then log logged further n Write r turns =
    record {
      lines = r.goes.lines ++ turns.0 ∷ [];
      entries = r.entries ++ turns.1;
      text = r.goes.text ++ turns.2;
      left = after.rest;
      part = [];
      read = record {
        text = r.goes.read.text ++ turns.3.text;
        took = consumes_more before.rest reading.rest after.rest r.goes.read.text turns.3.text r.goes.read.took turns.3.took;
        split = split_more before.rest reading.rest after.rest r.goes.lines turns.0 r.goes.read.text turns.3.text turns.3.free turns.3.ends r.goes.read.took turns.3.took r.goes.read.split;
      };
      behind = consumes_same after.rest;
      free = free_none;
      counted = omega (arith, r.goes.counted, turns.3.counted, length-append r.goes.read.text turns.3.text);
      ran = enters_more r.goes.lines old mid new r.entries turns.1 r.goes.text turns.0 turns.2 r.ran turns.4;
      transcript = transcript_more r.goes.lines old mid new r.goes.text turns.0 turns.2 r.goes.ran (enters_answers mid new turns.0 turns.1 turns.2 turns.4);
      runs = runs_more old mid new r.entries turns.1 r.runs (enters_runs mid new turns.0 turns.1 turns.2 turns.4);
      ended = (
        refl,
        record {
          lines_before = r.goes.lines;
          line = turns.0;
          said = r.goes.text;
          answer = turns.2;
          mid = mid;
          count = turns.5.count;
          lines_are = refl;
          text_is = refl;
          ran_before = r.goes.ran;
          ran_last = enters_answers mid new turns.0 turns.1 turns.2 turns.4;
          within = turns.5.within;
          written = Appends-trans held now then r.goes.text (take turns.5.count turns.2) r.goes.written turns.5.held;
        },
        appends_is log further _ _ (sym (journal_more old r.entries turns.1)) (Appends-trans log logged further (journal_bytes old r.entries) (pairs_text turns.1) r.logs turns.6),
      );
    }
journals_err old mid new before reading after held now then log logged further n Log r turns =
    record {
      lines = r.goes.lines ++ turns.0 ∷ [];
      entries = r.entries ++ turns.1;
      text = r.goes.text ++ turns.2;
      left = after.rest;
      part = [];
      read = record {
        text = r.goes.read.text ++ turns.3.text;
        took = consumes_more before.rest reading.rest after.rest r.goes.read.text turns.3.text r.goes.read.took turns.3.took;
        split = split_more before.rest reading.rest after.rest r.goes.lines turns.0 r.goes.read.text turns.3.text turns.3.free turns.3.ends r.goes.read.took turns.3.took r.goes.read.split;
      };
      behind = consumes_same after.rest;
      free = free_none;
      counted = omega (arith, r.goes.counted, turns.3.counted, length-append r.goes.read.text turns.3.text);
      ran = enters_more r.goes.lines old mid new r.entries turns.1 r.goes.text turns.0 turns.2 r.ran turns.4;
      transcript = transcript_more r.goes.lines old mid new r.goes.text turns.0 turns.2 r.goes.ran (enters_answers mid new turns.0 turns.1 turns.2 turns.4);
      runs = runs_more old mid new r.entries turns.1 r.runs (enters_runs mid new turns.0 turns.1 turns.2 turns.4);
      ended = (refl, unlogged old mid new r.goes.lines turns.0 r.entries turns.1 r.goes.text turns.2 held then log logged further r.ran turns.4 (appends_end held now then r.goes.text r.goes.written turns.5) r.logs turns.6);
    }

-- no line was read, and the log failed in the head
pub journals_headless : (m : Machine) (r : Reading) (held log logged : Option (List ℕ)) → AppendsPart log logged (text_of (head_lines (head_of 2 m))) → Journals m m r r held held log logged (Err Log)
unfolding goes_none
journals_headless m r held log logged part =
    record {
      lines = [];
      entries = [];
      text = [];
      left = r.rest;
      part = [];
      read = (goes_none m r held).read;
      behind = consumes_same r.rest;
      free = free_none;
      counted = (goes_none m r held).counted;
      ran = (refl, refl, refl);
      transcript = (refl, refl);
      runs = refl;
      ended = (
        refl,
        record {
          lines_before = [];
          lines_last = [];
          before = [];
          last = [];
          said = [];
          unsaid = [];
          mid = m;
          lines_are = refl;
          entries_are = refl;
          one = omega arith;
          ran_before = (refl, refl, refl);
          ran_last = (refl, refl, refl);
          answered = Appends-nil held;
          count = part.count;
          within = omega (arith, part.within, ap length (journal_none m));
          pairs_before = λ some. absurd (some refl);
          logs = appends_is log logged _ _ (ap (take part.count) (journal_none m)) part.held;
        },
      );
    }

-- ---- the head

pub network_lines_are : (events horizon : ℕ) → text_of ((codes "journal " ++ decimal 2) ∷ (codes "network " ++ decimal events ++ codes " " ++ decimal horizon) ∷ []) ≡ codes "journal 2" ++ 10 ∷ (codes "network " ++ decimal events ++ codes " " ++ decimal horizon ++ codes "\n")
network_lines_are events horizon =
    ap (λ ds. text_of ((codes "journal " ++ ds) ∷ (codes "network " ++ decimal events ++ codes " " ++ decimal horizon) ∷ [])) (decimal_digit 2 (omega arith))
    ∙ ap (λ t. codes "journal 2" ++ 10 ∷ t) (append-nil (codes "network " ++ decimal events ++ codes " " ++ decimal horizon ++ codes "\n"))

abbrev pub start_text : ℕ → ℕ → List ℕ
start_text events horizon = codes "journal 2" ++ 10 ∷ (codes "network " ++ decimal events ++ codes " " ++ decimal horizon ++ codes "\n")

pub head_bytes : (m : Machine) → text_of (head_lines (head_of 2 m)) ≡ (start_text (event_count m.setting) m.setting.horizon ++ text_of (kind_lines (own_of m))) ++ text_of (map lag_line (lags_of m))
head_bytes m =
    text_more ((codes "journal " ++ decimal 2) ∷ (codes "network " ++ decimal (event_count m.setting) ++ codes " " ++ decimal m.setting.horizon) ∷ []) (kind_lines (own_of m) ++ map lag_line (lags_of m))
    ∙ (ap (λ t. t ++ text_of (kind_lines (own_of m) ++ map lag_line (lags_of m))) (network_lines_are (event_count m.setting) m.setting.horizon)
    ∙ (ap (λ t. start_text (event_count m.setting) m.setting.horizon ++ t) (text_more (kind_lines (own_of m)) (map lag_line (lags_of m)))
    ∙ sym (append_assoc (start_text (event_count m.setting) m.setting.horizon) (text_of (kind_lines (own_of m))) (text_of (map lag_line (lags_of m))))))

pub pair_bytes : (c : Command) (a : Answer) → pairs_text (Some (c, a) ∷ []) ≡ (codes "> " ++ command_line c) ++ (codes "< " ++ line_of a)
pair_bytes c a = ap (λ t. (codes "> " ++ command_line c) ++ t) (append-nil (codes "< " ++ line_of a))

drop_next : (e : ℕ) (xs : List ℕ) → e < length xs → drop e xs ≡ get_or xs e 0 ∷ drop (e + 1) xs
drop_next e [] lt = absurd (let f : ⊥ = omega arith in f)
drop_next zero (x ∷ xs) lt = refl
drop_next (suc e) (x ∷ xs) lt = let n : suc (e + 1) ≡ suc e + 1 = omega arith in drop_next e xs (omega arith) ∙ ap (λ k. get_or xs e 0 ∷ drop k (x ∷ xs)) n

-- the lines of lags from an event on
abbrev pub lags_after : ℕ → List ℕ → List ℕ
lags_after e lags = text_of (map lag_line (lags_from e (drop e lags)))

pub lag_skipped : (e : ℕ) (lags : List ℕ) → e < length lags → get_or lags e 0 ≡ 0 → lags_after e lags ≡ lags_after (e + 1) lags
lag_skipped e lags lt none =
    ap (λ ls. text_of (map lag_line (lags_from e ls))) (drop_next e lags lt)
    ∙ ap (λ (l : ℕ). text_of (map lag_line (cond (nat_eq l 0) (lags_from (e + 1) (drop (e + 1) lags)) ((e, l) ∷ lags_from (e + 1) (drop (e + 1) lags))))) none

pub lag_written : (e : ℕ) (lags : List ℕ) → e < length lags → get_or lags e 0 ≢ 0 → lags_after e lags ≡ (codes "lag " ++ decimal e ++ codes " " ++ decimal (get_or lags e 0) ++ codes "\n") ++ lags_after (e + 1) lags
lag_written e lags lt some =
    ap (λ ls. text_of (map lag_line (lags_from e ls))) (drop_next e lags lt)
    ∙ ap (λ b. text_of (map lag_line (cond b (lags_from (e + 1) (drop (e + 1) lags)) ((e, get_or lags e 0) ∷ lags_from (e + 1) (drop (e + 1) lags))))) (ne_eqb (get_or lags e 0) 0 some)

-- the lines of lags so far, and those to come
pub record WritesLags (lags : List ℕ) (log logged : Option (List ℕ)) (e : ℕ) : Type 0 where
  pub written : List ℕ
  pub logs : Appends log logged written
  pub whole : lags_after 0 lags ≡ written ++ lags_after e lags

pub lags_skip : (lags : List ℕ) (a b : Option (List ℕ)) (e : ℕ) → e < length lags → get_or lags e 0 ≡ 0 → WritesLags lags a b e → WritesLags lags a b (e + 1)
lags_skip lags a b e lt none w =
    record { written = w.written; logs = w.logs; whole = w.whole ∙ ap (λ t. w.written ++ t) (lag_skipped e lags lt none) }

pub lags_write : (lags : List ℕ) (a b d : Option (List ℕ)) (e n l : ℕ) → e < length lags → n ≡ e → l ≡ get_or lags e 0 → l ≢ 0 → WritesLags lags a b e → Appends b d (codes "lag " ++ decimal n ++ codes " " ++ decimal l ++ codes "\n") → WritesLags lags a d (e + 1)
lags_write lags a b d e n l lt number is some w logs =
    let line : codes "lag " ++ decimal n ++ codes " " ++ decimal l ++ codes "\n" ≡ codes "lag " ++ decimal e ++ codes " " ++ decimal (get_or lags e 0) ++ codes "\n" =
    ap (λ k. codes "lag " ++ decimal k ++ codes " " ++ decimal l ++ codes "\n") number ∙ ap (λ k. codes "lag " ++ decimal e ++ codes " " ++ decimal k ++ codes "\n") is in
    record {
      written = w.written ++ (codes "lag " ++ decimal n ++ codes " " ++ decimal l ++ codes "\n");
      logs = Appends-trans a b d w.written _ w.logs logs;
      whole =
          w.whole ∙ (ap (λ t. w.written ++ t) (lag_written e lags lt (λ h. some (is ∙ h)) ∙ ap (λ t. t ++ lags_after (e + 1) lags) (sym line))
          ∙ sym (append_assoc w.written (codes "lag " ++ decimal n ++ codes " " ++ decimal l ++ codes "\n") (lags_after (e + 1) lags)));
    }

pub lags_part : (lags : List ℕ) (a b d : Option (List ℕ)) (e n l : ℕ) → e < length lags → n ≡ e → l ≡ get_or lags e 0 → l ≢ 0 → WritesLags lags a b e → AppendsPart b d (codes "lag " ++ decimal n ++ codes " " ++ decimal l ++ codes "\n") → AppendsPart a d (lags_after 0 lags)
lags_part lags a b d e n l lt number is some w part =
    let line : codes "lag " ++ decimal n ++ codes " " ++ decimal l ++ codes "\n" ≡ codes "lag " ++ decimal e ++ codes " " ++ decimal (get_or lags e 0) ++ codes "\n" =
    ap (λ k. codes "lag " ++ decimal k ++ codes " " ++ decimal l ++ codes "\n") number ∙ ap (λ k. codes "lag " ++ decimal e ++ codes " " ++ decimal k ++ codes "\n") is in
    part_after a b d w.written _ (lags_after (e + 1) lags) _ (w.whole ∙ ap (λ t. w.written ++ t) (lag_written e lags lt (λ h. some (is ∙ h)) ∙ ap (λ t. t ++ lags_after (e + 1) lags) (sym line))) w.logs part

-- ---- own bounds

-- the lines of own bounds so far, and those to come
abbrev pub own_after : FinMap nat_cmp Bound → ℕ → ℕ → List ℕ
own_after held next id = text_of (own_lines id (bounds_from held id (next - id)))

pub record WritesOwn (held : FinMap nat_cmp Bound) (next : ℕ) (log logged : Option (List ℕ)) (id : ℕ) : Type 0 where
  pub written : List ℕ
  pub logs : Appends log logged written
  pub whole : own_after held next 0 ≡ written ++ own_after held next id

own_next : (held : FinMap nat_cmp Bound) (next id : ℕ) (b : Bound) → id < next → get held id ≡ Some b → own_after held next id ≡ bound_line id b ++ own_after held next (id + 1)
own_next held next id b lt is =
    let n : next - id ≡ suc (next - (id + 1)) = omega arith in
    let s : suc id ≡ id + 1 = omega arith in
    ap (λ k. text_of (own_lines id (bounds_from held id k))) n
    ∙ (ap (λ o. text_of (own_lines id (before_bounds o (bounds_from held (suc id) (next - (id + 1)))))) is
    ∙ ap (λ k. bound_line id b ++ text_of (own_lines k (bounds_from held k (next - (id + 1))))) s)

pub own_write : (held : FinMap nat_cmp Bound) (next : ℕ) (a b d : Option (List ℕ)) (id : ℕ) (bound : Bound) → id < next → get held id ≡ Some bound → WritesOwn held next a b id → Appends b d (bound_line id bound) → WritesOwn held next a d (id + 1)
own_write held next a b d id bound lt is w logs =
    record {
      written = w.written ++ bound_line id bound;
      logs = Appends-trans a b d w.written _ w.logs logs;
      whole = w.whole ∙ (ap (λ t. w.written ++ t) (own_next held next id bound lt is) ∙ sym (append_assoc w.written (bound_line id bound) (own_after held next (id + 1))));
    }

pub own_part : (held : FinMap nat_cmp Bound) (next : ℕ) (a b d : Option (List ℕ)) (id : ℕ) (bound : Bound) → id < next → get held id ≡ Some bound → WritesOwn held next a b id → AppendsPart b d (bound_line id bound) → AppendsPart a d (text_of (own_lines 0 (bounds_from held 0 next)))
own_part held next a b d id bound lt is w part =
    let all : next - 0 ≡ next = omega arith in
    subst (λ k. AppendsPart a d (text_of (own_lines 0 (bounds_from held 0 k)))) all
    (part_after a b d w.written _ (own_after held next (id + 1)) _ (w.whole ∙ ap (λ t. w.written ++ t) (own_next held next id bound lt is)) w.logs part)

count_step : (o : Option Bound) (bs : List Bound) (k : ℕ) → o ≢ None → length bs ≡ k → length (before_bounds o bs) ≡ suc k
count_step None bs k some is = absurd (some refl)
count_step (Some b) bs k some is = ap suc is

pub own_count : (held : FinMap nat_cmp Bound) (id k : ℕ) → ((q : ℕ) → q < id + k → get held q ≢ None) → length (bounds_from held id k) ≡ k
own_count held id zero h = refl
own_count held id (suc k) h = count_step (get held id) (bounds_from held (suc id) k) k (h id (omega arith)) (own_count held (suc id) k (λ q lt. h q (omega arith)))

pub own_bytes : (held : FinMap nat_cmp Bound) (next : ℕ) → ((q : ℕ) → q < next → get held q ≢ None) → text_of (kind_lines (Some (bounds_from held 0 next))) ≡ (codes "own " ++ decimal next ++ codes "\n") ++ text_of (own_lines 0 (bounds_from held 0 next))
own_bytes held next h = ap (λ n. (codes "own " ++ decimal n ++ codes "\n") ++ text_of (own_lines 0 (bounds_from held 0 next))) (own_count held 0 next (λ q lt. h q (omega arith)))

pub new_in_force : (m : Machine) → IsNewExecutive m → AllAreInForce m
new_in_force m (inl p) = subst AllAreInForce (sym p.2) (λ id lt. absurd (let f : ⊥ = omega arith in f))
new_in_force m (inr p) = subst AllAreInForce (sym p.3) (own_there p.0 p.2 p.1)

-- ---- what is said

pub says_err : (S T : Type 0) (entries : List Entry) (text : List ℕ) (held now log logged : Option (List ℕ)) (fault : JournalFault) → SaysAll {T = S} entries text held now log logged (Err fault) → SaysAll {T = T} entries text held now log logged (Err fault)
says_err S T entries text held now log logged Read h = absurd h
says_err S T entries text held now log logged Write h = h
says_err S T entries text held now log logged Log h = h
says_err S T entries text held now log logged TooLong h = absurd h

-- a fault of a turn that took a line
pub turn_err : (T : Type 0) (old new : Machine) (before after : Reading) (held now log logged : Option (List ℕ)) (line : List ℕ) (entries : List Entry) (text : List ℕ) (fault : JournalFault) → TakesWhole before after line → Enters old line entries text new → SaysAll {T = T} entries text held now log logged (Err fault) → Turns old new before after held now log logged (Err fault)
turn_err T old new before after held now log logged line entries text Read took enters says = absurd says
turn_err T old new before after held now log logged line entries text Write took enters says = (line, entries, text, took, enters, says.0, says.1)
turn_err T old new before after held now log logged line entries text Log took enters says = (line, entries, text, took, enters, says.0, says.1)
turn_err T old new before after held now log logged line entries text TooLong took enters says = absurd says

pub written_part : (r : Result (Unit {0}) Failed) (old new : Option (List ℕ)) (bytes : List ℕ) → is_err r ≡ true → Writes old new bytes r → AppendsPart old new bytes
written_part (Ok x) old new bytes failed h = absurd (let f : ⊥ = cc in f)
written_part (Err e) old new bytes failed h = h

pub written_all : (r : Result (Unit {0}) Failed) (old new : Option (List ℕ)) (bytes : List ℕ) → is_err r ≡ false → Writes old new bytes r → Appends old new bytes
written_all (Ok x) old new bytes done h = h
written_all (Err e) old new bytes done h = absurd (let f : ⊥ = cc in f)

pub counted_none : (r : Result (Unit {0}) Failed) (old new : ℕ) → is_err r ≡ false → new ≡ failures_after old r → new ≡ old
counted_none (Ok x) old new done h = h
counted_none (Err e) old new done h = absurd (let f : ⊥ = cc in f)
