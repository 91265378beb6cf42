-- Pairs that are judged one after another.
use Rattle.std.proofs.Common.{◌≡◌, ◌≢◌, inl, inr, ℕ, zero, suc, ◌+◌, ◌<◌, ◌≤◌, ◌&&◌, Bool, true, false, cond, List, [], ◌∷◌, ◌++◌, length, take, drop, get_or, flat_map, Option, Some, None, refl, ap, sym, subst, ◌∙◌, append_assoc, append-nil, length-append, arith, codes}
use Rattle.std.specs.Prelude.{Ok, Err, IfSome}
use Rattle.std.specs.Option.{option_and_then, option_map}
use Rattle.std.specs.Str.{bytes_eq}
use Rattle.std.specs.Io.KnownBytes.{IsAtEnd}
use Rattle.std.proofs.lemmas.Grind.{flat_map-append, common_steps}
use Rattle.std.specs.List.{All}
use Rattle.std.proofs.lemmas.List.{length_push}
use Rattle.std.proofs.lemmas.Slice.Eq.{bytes_eq-Decides}
use Rattle.std.proofs.lemmas.Bool.Decides.{nat_tests}
use Rattle.tp_exec_machine.specs.declared.command.Command.{Command}
use Rattle.tp_exec_machine.specs.declared.command.Command.TheVariants.{Advance, Add, Withdraw, Window, Dispatch, Happened, Report}
use Rattle.tp_exec_machine.specs.Machine.{Machine}
use Rattle.tp_exec_machine.specs.Step.{Step}
use Rattle.tp_script.specs.Pending.{Reading}
use Rattle.tp_script.specs.Reading.{Free}
use Rattle.tp_script.specs.Words.{words_of}
use Rattle.tp_script.specs.Commands.{command_of}
use Rattle.tp_script.specs.Written.{command_text, IsSpelled}
use Rattle.tp_script.proofs.ReadBack.{read_again}
use Rattle.tp_journal_pairs.specs.Edges.{begins}
use Rattle.tp_journal_pairs.specs.declared.judging.Finding.TheVariants.{Right, Wrong as Wrongly}
use Rattle.tp_journal_pairs.specs.Journal.{Entry, IsHead, IsJournalText, Has, Runs, head_of, head_lines, pair_lines, question_line, answer_line, journal_lines, text_of}
use Rattle.tp_journal_pairs.proofs.WriteLemmas.{text_more}
use Rattle.tp_journal.specs.declared.form.Asked.{Asked}
use Rattle.tp_journal.specs.declared.form.Asked.TheVariants.{Nothing, Told}
use Rattle.tp_journal.specs.declared.form.Place.{Place}
use Rattle.tp_journal.specs.declared.form.Place.TheVariants.{Start, Question, Reply}
use Rattle.tp_journal.specs.declared.faults.AuditFault.{AuditFault}
use Rattle.tp_journal.specs.declared.faults.AuditFault.TheVariants.{Memory, Read, Line, Wrong, Head}
use Rattle.tp_journal.specs.declared.auditing.Headed.{Headed}
use Rattle.tp_journal.specs.Replay.{LeadsTo}
use Rattle.tp_journal.specs.Form.{question_of, one_command, has_command, is_reply, is_of_pair, is_neat, is_answer_from, next_place, place_after, may_end}
use Rattle.tp_journal.specs.Auditing.{IsBehind, DisallowsAt, HeadEnds, HasHead, IsReplyJudged, TakesReply, TakesQuestion, TakesPair, Audits}
use Rattle.tp_journal.proofs.Places.{of_pair, question_next}
use Rattle.tp_journal.proofs.Heads.{behind_more, place_more, ends_behind, known, breaks_line}

-- ---- how a line begins

split : (n : ℕ) (xs : List ℕ) → take n xs ++ drop n xs ≡ xs
split zero xs = refl
split (suc n) [] = refl
split (suc n) (x ∷ xs) = ap (λ t. x ∷ t) (split n xs)

begins_is : (part line : List ℕ) → begins part line ≡ true → line ≡ part ++ drop (length part) line
begins_is part line is =
    sym (split (length part) line) ∙ ap (λ t. t ++ drop (length part) line) ((bytes_eq-Decides (take (length part) line) part).0 is)

both : (a b : Bool) → (a && b) ≡ true → (a ≡ true) × (b ≡ true)
both true b h = (refl, h)
both false b h = absurd (let f : ⊥ = cc in f)

pub reply_is : (line : List ℕ) → is_reply line ≡ true → line ≡ codes "< " ++ drop 2 line
reply_is line is = begins_is (codes "< ") line (both (begins (codes "< ") line) (is_neat (drop 2 line) && is_answer_from (words_of (drop 2 line))) is).0

pub reply_long : (line : List ℕ) → is_reply line ≡ true → 2 ≤ length line
reply_long line is = let n : length line ≡ length (codes "< ") + length (drop 2 line) = ap length (reply_is line is) ∙ length-append (codes "< ") (drop 2 line) in omega (arith, n)

-- ---- what a question is

pub record IsCommandAsked (version : ℕ) (line : List ℕ) (command : Command) : Type 0 where
  pub spelled : IsSpelled command
  pub has : Has version command
  pub line_is : line ≡ codes "> " ++ command_text command

has_is : (version : ℕ) (command : Command) → has_command version command ≡ true → Has version command
has_is version (Advance to) h = tt
has_is version (Add b) h = tt
has_is version (Withdraw id) h = tt
has_is version (Window e) h = tt
has_is version (Dispatch e) h = tt
has_is version (Happened e moment) h = grind (arith, nat_tests, h)
has_is version Report h = tt

asked_from : (version : ℕ) (text : List ℕ) (command : Command) (o : Option Command) → command_of text ≡ o → option_and_then (λ c. cond (bytes_eq text (command_text c) && has_command version c) (Some (Told c)) None) o ≡ Some (Told command) → IsSpelled command × Has version command × (text ≡ command_text command)
asked_from version text command None reads is = absurd (let f : ⊥ = cc in f)
asked_from version text command (Some c) reads is = by_test (bytes_eq text (command_text c) && has_command version c) refl is
  where
    by_test : (b : Bool) → (bytes_eq text (command_text c) && has_command version c) ≡ b → cond b (Some (Told c)) None ≡ Some (Told command) → IsSpelled command × Has version command × (text ≡ command_text command)
    by_test true test is =
        let same : c ≡ command = cc in
        let p = both (bytes_eq text (command_text c)) (has_command version c) test in
        subst (λ x. IsSpelled x × Has version x × (text ≡ command_text x)) same ((text, reads), has_is version c p.1, (bytes_eq-Decides text (command_text c)).0 p.0)
    by_test false test is = absurd (let f : ⊥ = cc in f)

told_by : (version : ℕ) (line : List ℕ) (command : Command) (a b : Bool) → begins (codes "> ") line ≡ b → cond a (Some Nothing) (cond b (one_command version (drop 2 line)) None) ≡ Some (Told command) → IsCommandAsked version line command
told_by version line command true b starts is = absurd (let f : ⊥ = cc in f)
told_by version line command false false starts is = absurd (let f : ⊥ = cc in f)
told_by version line command false true starts is =
    let p = asked_from version (drop 2 line) command (command_of (drop 2 line)) refl is in
    record { spelled = p.0; has = p.1; line_is = begins_is (codes "> ") line starts ∙ ap (λ t. codes "> " ++ t) p.2 }

pub told_is : (version : ℕ) (line : List ℕ) (command : Command) → question_of version line ≡ Some (Told command) → IsCommandAsked version line command
told_is version line command is = told_by version line command (bytes_eq line (codes "> ?")) (begins (codes "> ") line) refl is

not_nothing : (version : ℕ) (text : List ℕ) (o : Option Command) → option_and_then (λ c. cond (bytes_eq text (command_text c) && has_command version c) (Some (Told c)) None) o ≡ Some Nothing → ⊥
not_nothing version text None is = let f : ⊥ = cc in f
not_nothing version text (Some c) is = by_test (bytes_eq text (command_text c) && has_command version c) is
  where
    by_test : (b : Bool) → cond b (Some (Told c)) None ≡ Some Nothing → ⊥
    by_test true h = let f : ⊥ = cc in f
    by_test false h = let f : ⊥ = cc in f

nothing_by : (version : ℕ) (line : List ℕ) (a b : Bool) → bytes_eq line (codes "> ?") ≡ a → cond a (Some Nothing) (cond b (one_command version (drop 2 line)) None) ≡ Some Nothing → line ≡ codes "> ?"
nothing_by version line true b same is = (bytes_eq-Decides line (codes "> ?")).0 same
nothing_by version line false false same is = absurd (let f : ⊥ = cc in f)
nothing_by version line false true same is = absurd (not_nothing version (drop 2 line) (command_of (drop 2 line)) is)

pub nothing_is : (version : ℕ) (line : List ℕ) → question_of version line ≡ Some Nothing → line ≡ codes "> ?"
nothing_is version line is = nothing_by version line (bytes_eq line (codes "> ?")) (begins (codes "> ") line) refl is

-- ---- places of pairs

pub question_pair : (version : ℕ) (line : List ℕ) (asked : Asked) → question_of version line ≡ Some asked → is_of_pair line ≡ true
question_pair version line (Told command) is = ap is_of_pair (told_is version line command is).line_is
question_pair version line Nothing is = ap is_of_pair (nothing_is version line is)

pub asks_at : (version : ℕ) (line : List ℕ) (asked : Asked) → question_of version line ≡ Some asked → next_place (Question version) line ≡ Some (Reply version)
asks_at version line asked is =
    of_pair (Question version) line (question_pair version line asked is) ∙ ap (option_map (λ a. Reply version)) is

reply_pair : (line : List ℕ) → is_reply line ≡ true → is_of_pair line ≡ true
reply_pair line is = ap is_of_pair (reply_is line is)

pub reply_at : (version : ℕ) (line : List ℕ) → is_reply line ≡ true → next_place (Reply version) line ≡ Some (Question version)
reply_at version line is = of_pair (Reply version) line (reply_pair line is) ∙ ap (λ b. cond b (Some (Question version)) None) is

-- ---- a journal, as far as it was read

-- how a question leads on from a place
abbrev pub AsksAt : ℕ → Place → Type 0
AsksAt version place = (line : List ℕ) (asked : Asked) → question_of version line ≡ Some asked → next_place place line ≡ Some (Reply version)

pub record JournalSoFar (old new : Machine) (start now : Reading) (version count pairs : ℕ) (next : Option Asked) : Type 0 where
  pub entries : List Entry
  pub seen : List (List ℕ)
  pub place : Place
  pub allowed : IsHead (head_of version old)
  pub runs : Runs version old entries new
  pub count_of : length entries ≡ pairs
  pub bytes_are : text_of seen ≡ text_of (journal_lines version old entries)
  pub reached : place_after Start seen ≡ Some place
  pub over : may_end place ≡ true
  pub asks : AsksAt version place
  pub ends : HeadEnds version start seen next now count

pub pairs_none : (old : Machine) (start now : Reading) (headed : Headed) → HasHead old start now headed → JournalSoFar old old start now headed.version headed.count 0 headed.asked
pairs_none old start now headed h =
    record {
      entries = [];
      seen = h.seen;
      place = h.place;
      allowed = h.allowed;
      runs = refl;
      count_of = refl;
      bytes_are = h.head ∙ ap text_of (sym (append-nil (head_lines (head_of headed.version old))));
      reached = h.reached;
      over = h.over;
      asks = λ line asked is. question_next h.place headed.version line h.names h.over (question_pair headed.version line asked is) ∙ ap (option_map (λ a. Reply headed.version)) is;
      ends = h.ends;
    }

runs_push : (version : ℕ) (old mid new : Machine) (es : List Entry) (e : Entry) → Runs version old es mid → Runs version mid (e ∷ []) new → Runs version old (es ++ e ∷ []) new
runs_push version old mid new [] e runs one = subst (λ m. Runs version m (e ∷ []) new) runs one
runs_push version old mid new (None ∷ es) e runs one = runs_push version old mid new es e runs one
runs_push version old mid new (Some p ∷ es) e runs one = (runs.0, runs.1, runs.2, runs.3, runs_push version runs.0 mid new es e runs.4 one)

-- the entry that a question and its reply make
pub record IsEntry (version : ℕ) (old new : Machine) (question reply : List ℕ) : Type 0 where
  pub entry : Entry
  pub runs : Runs version old (entry ∷ []) new
  pub asks : question ≡ question_line entry
  pub replies : reply ≡ answer_line entry

pub entry_of : (version : ℕ) (old new : Machine) (asked : Asked) (question reply : List ℕ) → question_of version question ≡ Some asked → is_reply reply ≡ true → IsReplyJudged old new asked reply Right → IsEntry version old new question reply
entry_of version old new (Told command) question reply is formed judged =
    let c = told_is version question command is in
    record {
      entry = Some (command, judged.0);
      runs = (new, c.spelled, c.has, judged.1, refl);
      asks = c.line_is;
      replies = reply_is reply formed ∙ ap (λ t. codes "< " ++ t) judged.2;
    }
entry_of version old new Nothing question reply is formed judged =
    record { entry = None; runs = judged.0; asks = nothing_is version question is; replies = judged.1 }

entry_text : (version : ℕ) (old : Machine) (entries : List Entry) (e : Entry) (seen : List (List ℕ)) (question reply : List ℕ) → text_of seen ≡ text_of (journal_lines version old entries) → question ≡ question_line e → reply ≡ answer_line e → text_of ((seen ++ question ∷ []) ++ reply ∷ []) ≡ text_of (journal_lines version old (entries ++ e ∷ []))
entry_text version old entries e seen question reply is asks replies =
    let lines : journal_lines version old (entries ++ e ∷ []) ≡ journal_lines version old entries ++ pair_lines e =
    ap (λ ls. head_lines (head_of version old) ++ ls) (flat_map-append pair_lines entries (e ∷ []) ∙ ap (λ ls. flat_map pair_lines entries ++ ls) (append-nil (pair_lines e)))
    ∙ sym (append_assoc (head_lines (head_of version old)) (flat_map pair_lines entries) (pair_lines e)) in
    let pair : (seen ++ question ∷ []) ++ reply ∷ [] ≡ seen ++ question ∷ reply ∷ [] = append_assoc seen (question ∷ []) (reply ∷ []) in
    let same : question ∷ reply ∷ [] ≡ pair_lines e = cc in
    ap text_of pair ∙ (text_more seen (question ∷ reply ∷ [])
    ∙ (ap (λ t. t ++ text_of (question ∷ reply ∷ [])) is
    ∙ (ap (λ ls. text_of (journal_lines version old entries) ++ text_of ls) same
    ∙ (sym (text_more (journal_lines version old entries) (pair_lines e)) ∙ ap text_of (sym lines)))))

ends_after : (version count : ℕ) (start mid after : Reading) (seen : List (List ℕ)) (next : Option Asked) → IsBehind start mid seen → count ≡ length seen → TakesQuestion mid after version (count + 1) (Ok next) → HeadEnds version start seen next after (count + 1)
ends_after version count start mid after seen None b n took = (ends_behind start mid after seen b took, took.over)
ends_after version count start mid after seen (Some asked) b n took = (took.0, behind_more start mid after seen took.0 b took.1, took.2, omega (arith, n))

pub pairs_more : (old m new : Machine) (start now after : Reading) (version count pairs : ℕ) (asked : Asked) (next : Option Asked) → JournalSoFar old m start now version count pairs (Some asked) → TakesPair m new now after version asked count (Ok next) → JournalSoFar old new start after version (count + 2) (pairs + 1) next
pairs_more old m new start now after version count pairs asked next h t =
    let mid = t.0 in
    let question = h.ends.0 in
    let reply = t.1.0 in
    let e = entry_of version m new asked h.ends.0 t.1.0 h.ends.2 t.1.2 t.1.3 in
    let b = behind_more start now t.0 (h.seen ++ h.ends.0 ∷ []) t.1.0 h.ends.1 t.1.1 in
    let n : count + 1 ≡ length ((h.seen ++ h.ends.0 ∷ []) ++ t.1.0 ∷ []) = omega (arith, h.ends.3, length_push h.seen h.ends.0, length_push (h.seen ++ h.ends.0 ∷ []) t.1.0) in
    let two : count + 2 ≡ (count + 1) + 1 = omega arith in
    let asks : place_after Start (h.seen ++ h.ends.0 ∷ []) ≡ Some (Reply version) = place_more Start h.place (Reply version) h.seen h.ends.0 h.reached (h.asks h.ends.0 asked h.ends.2) in
    record {
      entries = h.entries ++ e.entry ∷ [];
      seen = (h.seen ++ h.ends.0 ∷ []) ++ t.1.0 ∷ [];
      place = Question version;
      allowed = h.allowed;
      runs = runs_push version old m new h.entries e.entry h.runs e.runs;
      count_of = length_push h.entries e.entry ∙ ap (λ k. k + 1) h.count_of;
      bytes_are = entry_text version old h.entries e.entry h.seen h.ends.0 t.1.0 h.bytes_are e.asks e.replies;
      reached = place_more Start (Reply version) (Question version) (h.seen ++ h.ends.0 ∷ []) t.1.0 asks (reply_at version t.1.0 t.1.2);
      over = refl;
      asks = λ line other is. asks_at version line other is;
      ends = subst (λ k. HeadEnds version start ((h.seen ++ h.ends.0 ∷ []) ++ t.1.0 ∷ []) next after k) (sym two) (ends_after version (count + 1) start t.0 after ((h.seen ++ h.ends.0 ∷ []) ++ t.1.0 ∷ []) next b n (subst (λ k. TakesQuestion t.0 after version k (Ok next)) two t.2));
    }

-- ---- an answer that is not allowed

free_front : (seen : List (List ℕ)) (line : List ℕ) → All Free (seen ++ line ∷ []) → All Free seen
free_front seen line all = λ k d lt. (let n : length (seen ++ line ∷ []) ≡ length seen + 1 = length_push seen line in subst Free (front_of_push k d seen line lt) (all k d (omega (arith, n))))
  where
    front_of_push : (k : ℕ) (d : List ℕ) (xs : List (List ℕ)) (x : List ℕ) → k < length xs → get_or (xs ++ x ∷ []) k d ≡ get_or xs k d
    front_of_push k d xs x lt = grind (arith, common_steps)

free_last : (seen : List (List ℕ)) (line : List ℕ) → All Free (seen ++ line ∷ []) → Free line
free_last seen line all = (let n : length (seen ++ line ∷ []) ≡ length seen + 1 = length_push seen line in subst Free (last_of_push seen line) (all (length seen) [] (omega (arith, n))))
  where
    last_of_push : (xs : List (List ℕ)) (x : List ℕ) → get_or (xs ++ x ∷ []) (length xs) [] ≡ x
    last_of_push xs x = grind (arith, common_steps)

pub no_mark : (command : Command) → codes "> ?" ≡ codes "> " ++ command_text command → ⊥
no_mark (Advance to) is = let e : ◌≡◌ {A = ℕ} 63 97 = cc in let f : ⊥ = omega (arith, e) in f
no_mark (Add b) is = let e : ◌≡◌ {A = ℕ} 63 97 = cc in let f : ⊥ = omega (arith, e) in f
no_mark (Withdraw id) is = let e : ◌≡◌ {A = ℕ} 63 119 = cc in let f : ⊥ = omega (arith, e) in f
no_mark (Window k) is = let e : ◌≡◌ {A = ℕ} 63 119 = cc in let f : ⊥ = omega (arith, e) in f
no_mark (Dispatch k) is = let e : ◌≡◌ {A = ℕ} 63 100 = cc in let f : ⊥ = omega (arith, e) in f
no_mark (Happened k moment) is = let e : ◌≡◌ {A = ℕ} 63 104 = cc in let f : ⊥ = omega (arith, e) in f
no_mark Report is = let e : ◌≡◌ {A = ℕ} 63 114 = cc in let f : ⊥ = omega (arith, e) in f

pub one_asked : (c d : Command) → IsSpelled c → IsSpelled d → codes "> " ++ command_text c ≡ codes "> " ++ command_text d → c ≡ d
one_asked c d p q is =
    let same : command_text c ≡ command_text d = ap (drop 2) is in
    let e : Some c ≡ Some d = sym (read_again c p) ∙ (ap command_of same ∙ read_again d q) in
    let f : c ≡ d = cc in f

pub refused_entry : (version : ℕ) (m new : Machine) (asked : Asked) (question reply : List ℕ) → question_of version question ≡ Some asked → IsReplyJudged m new asked reply Wrongly → (entry : Entry) (end : Machine) → Runs version m (entry ∷ []) end → question ≡ question_line entry → reply ≢ answer_line entry
refused_entry version m new (Told command) question reply is judged None end runs asks replies =
    no_mark command (sym asks ∙ (told_is version question command is).line_is)
refused_entry version m new (Told command) question reply is judged (Some p) end runs asks replies =
    let c = told_is version question command is in
    let same : p.0 ≡ command = one_asked p.0 command runs.1 c.spelled (sym asks ∙ c.line_is) in
    judged (runs.0, (p.1, subst (λ x. Step m x p.1 runs.0) same runs.3, ap (drop 2) replies))
refused_entry version m new Nothing question reply is judged None end runs asks replies = judged replies
refused_entry version m new Nothing question reply is judged (Some p) end runs asks replies = no_mark p.0 (sym (nothing_is version question is) ∙ asks)

disallowed : (old m new : Machine) (start now after : Reading) (version count pairs n : ℕ) (asked : Asked) → JournalSoFar old m start now version count pairs (Some asked) → TakesReply m new now after asked (count + 1) (Err (Wrong n)) → IfSome start.rest (λ bytes. DisallowsAt old bytes n)
disallowed old m new start now after version count pairs n asked h t =
    let line = t.1.0 in
    let b = behind_more start now after (h.seen ++ h.ends.0 ∷ []) t.1.0 h.ends.1 t.1.1 in
    known (λ bytes. DisallowsAt old bytes n) start.rest after.rest (text_of ((h.seen ++ h.ends.0 ∷ []) ++ t.1.0 ∷ [])) b.took
    (λ left is_left. record {
      version = version;
      before = h.seen;
      pairs = pairs;
      mid = m;
      question = h.ends.0;
      reply = t.1.0;
      left = left;
      asked = asked;
      journal = record { entries = h.entries; head = h.allowed; runs = h.runs; count = h.count_of; free = free_front h.seen h.ends.0 h.ends.1.free; bytes_are = h.bytes_are };
      asks = h.ends.2;
      formed = t.1.2;
      free_question = free_last h.seen h.ends.0 h.ends.1.free;
      free_reply = t.1.1.free;
      bytes_are = ap (λ ls. text_of ls ++ left) (append_assoc h.seen (h.ends.0 ∷ []) (t.1.0 ∷ []));
      number = t.0 ∙ (let k : count + 1 ≡ length h.seen + 2 = omega (arith, h.ends.3) in k);
      refuses = refused_entry version m new asked h.ends.0 t.1.0 h.ends.2 t.1.3;
    })

reply_fails : (old m new : Machine) (start now after : Reading) (version count pairs : ℕ) (asked : Asked) (fault : AuditFault) → JournalSoFar old m start now version count pairs (Some asked) → TakesReply m new now after asked (count + 1) (Err fault) → Audits old start after (Err fault)
reply_fails old m new start now after version count pairs asked Memory h t = tt
reply_fails old m new start now after version count pairs asked Read h t = tt
reply_fails old m new start now after version count pairs asked (Line n) h t =
    breaks_line start now after (h.seen ++ h.ends.0 ∷ []) (Reply version) (count + 1) n h.ends.1
    (place_more Start h.place (Reply version) h.seen h.ends.0 h.reached (h.asks h.ends.0 asked h.ends.2)) (omega (arith, h.ends.3, length_push h.seen h.ends.0)) (t version)
reply_fails old m new start now after version count pairs asked (Wrong n) h t = disallowed old m new start now after version count pairs n asked h t
reply_fails old m new start now after version count pairs asked Head h t = absurd t

question_fails : (old m new : Machine) (start now mid after : Reading) (version count pairs : ℕ) (asked : Asked) (fault : AuditFault) → JournalSoFar old m start now version count pairs (Some asked) → TakesReply m new now mid asked (count + 1) (Ok tt) → TakesQuestion mid after version (count + 2) (Err fault) → Audits old start after (Err fault)
question_fails old m new start now mid after version count pairs asked Memory h t q = tt
question_fails old m new start now mid after version count pairs asked Read h t q = tt
question_fails old m new start now mid after version count pairs asked (Line n) h t q =
    let asks : place_after Start (h.seen ++ h.ends.0 ∷ []) ≡ Some (Reply version) = place_more Start h.place (Reply version) h.seen h.ends.0 h.reached (h.asks h.ends.0 asked h.ends.2) in
    breaks_line start mid after ((h.seen ++ h.ends.0 ∷ []) ++ t.0 ∷ []) (Question version) (count + 2) n
    (behind_more start now mid (h.seen ++ h.ends.0 ∷ []) t.0 h.ends.1 t.1)
    (place_more Start (Reply version) (Question version) (h.seen ++ h.ends.0 ∷ []) t.0 asks (reply_at version t.0 t.2))
    (omega (arith, h.ends.3, length_push h.seen h.ends.0, length_push (h.seen ++ h.ends.0 ∷ []) t.0)) q
question_fails old m new start now mid after version count pairs asked (Wrong n) h t q = absurd q
question_fails old m new start now mid after version count pairs asked Head h t q = absurd q

pub pairs_fail : (old m new : Machine) (start now after : Reading) (version count pairs : ℕ) (asked : Asked) (fault : AuditFault) → JournalSoFar old m start now version count pairs (Some asked) → TakesPair m new now after version asked count (Err fault) → Audits old start after (Err fault)
pairs_fail old m new start now after version count pairs asked fault h (inl t) = reply_fails old m new start now after version count pairs asked fault h t
pairs_fail old m new start now after version count pairs asked fault h (inr q) = question_fails old m new start now q.0 after version count pairs asked fault h q.1 q.2

-- ---- the end

at_end : (o : Option (List ℕ)) (left : List ℕ) → o ≡ Some left → IsAtEnd o → left ≡ []
at_end None left is over = absurd (let f : ⊥ = cc in f)
at_end (Some xs) left is over = let same : xs ≡ left = cc in sym same ∙ over

pub pairs_over : (old new : Machine) (start now : Reading) (version count pairs : ℕ) → JournalSoFar old new start now version count pairs None → IfSome start.rest (λ bytes. IsJournalText old bytes pairs) × IsAtEnd now.rest
pairs_over old new start now version count pairs h = (
  known (λ bytes. IsJournalText old bytes pairs) start.rest now.rest (text_of h.seen) h.ends.0.took
      (λ left is. (
        version,
        h.seen,
        new,
        record { entries = h.entries; head = h.allowed; runs = h.runs; count = h.count_of; free = h.ends.0.free; bytes_are = h.bytes_are },
        ap (λ t. text_of h.seen ++ t) (at_end now.rest left is h.ends.1) ∙ append-nil (text_of h.seen),
        h.ends.0.short,
      )),
  h.ends.1,
)

-- and where the run ends
pub pairs_lead : (old new : Machine) (start now : Reading) (version count pairs : ℕ) → JournalSoFar old new start now version count pairs None → IfSome start.rest (λ bytes. LeadsTo old bytes pairs new)
pairs_lead old new start now version count pairs h =
    known (λ bytes. LeadsTo old bytes pairs new) start.rest now.rest (text_of h.seen) h.ends.0.took
    (λ left is. (
      version,
      h.seen,
      record { entries = h.entries; head = h.allowed; runs = h.runs; count = h.count_of; free = h.ends.0.free; bytes_are = h.bytes_are },
      ap (λ t. text_of h.seen ++ t) (at_end now.rest left is h.ends.1) ∙ append-nil (text_of h.seen),
      h.ends.0.short,
    ))

-- a pair takes bytes
pub pair_takes : (m new : Machine) (now after : Reading) (version : ℕ) (asked : Asked) (count : ℕ) (next : Option Asked) → TakesPair m new now after version asked count (Ok next) → now.taken + 3 ≤ after.taken
pair_takes m new now after version asked count None t = omega (arith, reply_long t.1.0 t.1.2, t.1.1.counted, t.2.counted)
pair_takes m new now after version asked count (Some next) t = omega (arith, reply_long t.1.0 t.1.2, t.1.1.counted, t.2.1.counted)
