-- Each answer of the machine, as it is written, has the form of an answer, and each question is read as its command.
use Rattle.std.proofs.Common.{◌≡◌, cond, ℕ, zero, suc, ◌+◌, ◌^◌, ◌%◌, ◌<◌, ◌≤◌, Bool, true, false, ◌&&◌, List, [], ◌∷◌, ◌++◌, length, slice_get, get_or, is_some, Option, Some, None, refl, ap, sym, subst, ◌∙◌, arith, append-nil, append_assoc, flat_map, decimal, codes}
use Rattle.std.specs.Prelude.{nat_eq, nat_lt, nat_le, not}
use Rattle.std.specs.FinMap.{get, len}
use Rattle.std.specs.List.{list_all}
use Rattle.std.specs.Str.{bytes_eq}
use Rattle.std.proofs.lemmas.Fmt.{decimal_by_steps, decimal_nonempty}
use Rattle.std.proofs.lemmas.Slice.Eq.{bytes_eq-Decides}
use Rattle.std.proofs.lemmas.Bool.Decides.{nat_tests}
use Rattle.tp_bounds.specs.declared.Edge.{Edge}
use Rattle.tp_bounds.specs.declared.Edge.TheVariants.{Own, New, PastHigh, PastLow, Now, End}
use Rattle.tp_bounds.specs.declared.Reason.{Reason}
use Rattle.tp_bounds.specs.Reasons.{BeginsWith}
use Rattle.tp_bounds.specs.Setting.{Setting, event_count, fixed_at, floor_of}
use Rattle.tp_bounds.specs.Schedule.{IsSchedule}
use Rattle.tp_bounds.specs.Lawful.{IsLawful}
use Rattle.tp_exec_machine.specs.declared.command.Command.{Command}
use Rattle.tp_exec_machine.specs.declared.command.Command.TheVariants.{Advance, Add, Withdraw, Window, Dispatch, Happened, Report as Tell}
use Rattle.tp_exec_machine.specs.declared.command.Kind.{Kind}
use Rattle.tp_exec_machine.specs.declared.command.Kind.TheVariants.{Bare, Kept, Altered}
use Rattle.tp_exec_machine.specs.declared.command.Answer.{Answer}
use Rattle.tp_exec_machine.specs.declared.command.Answer.TheVariants.{Accepted, Named, Told as Shown, Reported, Refused}
use Rattle.tp_exec_machine.specs.declared.command.Report.{Report}
use Rattle.tp_exec_machine.specs.declared.refusal.Refusal.{Refusal}
use Rattle.tp_exec_machine.specs.declared.refusal.Refusal.TheVariants.{NoEvent, Done, NoBound, Weight, Back, Moment, Full, Spent, Memory, Conflict}
use Rattle.tp_exec_machine.specs.Machine.{Machine}
use Rattle.tp_exec_machine.specs.Step.{Step, Decides, Refuses, Tells, AreMoments, first_refusal, is_point_of, is_in_range, brings}
use Rattle.tp_script.specs.Words.{words_of}
use Rattle.tp_script.specs.Commands.{list_is_empty}
use Rattle.tp_script.specs.Transcript.{answer_text, edge_text, kind_text, moment_text}
use Rattle.tp_script.specs.Written.{command_text, IsSpelled}
use Rattle.tp_script.proofs.SpellLemmas.{Solid, Gap as Blank, word_then, solid_then, solid_more, decimal_solid, decimal_then, moment_back}
use Rattle.tp_script.proofs.ReadBack.{read_again}
use Rattle.tp_journal_pairs.specs.Edges.{Fits_edge, Fit_edges, last_of}
use Rattle.tp_journal_pairs.specs.Journal.{question_line, answer_line, Has}
use Rattle.tp_journal_pairs.specs.Sound.{IsSound}
use Rattle.tp_journal_pairs.proofs.Verdicts.{refused_step, decided_step}
use Rattle.tp_journal_pairs.proofs.EdgeTexts.{fits_reason, edge_back, edge_word, gap_next, front_back, last_back}
use Rattle.tp_journal.specs.declared.form.Asked.TheVariants.{Nothing, Told}
use Rattle.tp_journal.specs.declared.form.LastByte.{LastByte}
use Rattle.tp_journal.specs.declared.form.LastByte.TheVariants.{Other}
use Rattle.tp_journal.specs.Form.{last_after, is_moment_word, is_edge_word, is_kind_word, is_answer_from, is_reply, has_command, one_command, question_of}
use Rattle.tp_journal.proofs.NeatTexts.{Tidy, AllTidy, tidy_neat, tidy_join, tidy_all, tidy_number, number_behind, letter_behind}

reply_of : (text : List ℕ) → Tidy text → is_answer_from (words_of text) ≡ true → is_reply (codes "< " ++ text) ≡ true
reply_of text t form = rw (tidy_neat text t, form) refl

-- ---- numbers and moments

pub number_word : (n : ℕ) → n < 2 ^ 64 → words_of (decimal n) ≡ decimal n ∷ []
number_word n small = ap words_of (sym (append-nil (decimal n))) ∙ decimal_then n [] small tt

named_form : (n : ℕ) → n < 2 ^ 32 → is_reply (codes "< " ++ answer_text (Named (record { 0 = n }))) ≡ true
named_form n small =
    reply_of (codes "bound " ++ decimal n) (tidy_join (codes "bound") (decimal n) (record { last = Other; reads = refl; ends = refl }) (tidy_number n (omega arith)))
    (ap is_answer_from (word_then 98 (codes "ound") (32 ∷ decimal n) refl (refl, (refl, (refl, (refl, tt)))) refl ∙ ap (λ (ws : List (List ℕ)). codes "bound" ∷ ws) (number_word n (omega arith)))
    ∙ rw (moment_back n (omega arith)) refl)

pub two_words : (a b : ℕ) → a < 2 ^ 64 → b < 2 ^ 64 → words_of (decimal a ++ 32 ∷ decimal b) ≡ decimal a ∷ decimal b ∷ []
two_words a b p q = decimal_then a (32 ∷ decimal b) p refl ∙ ap (λ (ws : List (List ℕ)). decimal a ∷ ws) (number_word b q)

window_same : (a b : ℕ) → answer_text (Shown a b) ≡ codes "window " ++ (decimal a ++ 32 ∷ decimal b)
window_same a b = ap (λ (xs : List ℕ). codes "window " ++ xs) (append_assoc (decimal a) (codes " ") (decimal b))

window_form : (a b : ℕ) → a ≤ 1_000_000_000 → b ≤ 1_000_000_000 → is_reply (codes "< " ++ answer_text (Shown a b)) ≡ true
window_form a b p q =
    ap (λ (xs : List ℕ). is_reply (codes "< " ++ xs)) (window_same a b)
    ∙ reply_of (codes "window " ++ (decimal a ++ 32 ∷ decimal b))
    (tidy_join (codes "window") (decimal a ++ 32 ∷ decimal b) (record { last = Other; reads = refl; ends = refl }) (tidy_join (decimal a) (decimal b) (tidy_number a (omega arith)) (tidy_number b (omega arith))))
    (ap is_answer_from (word_then 119 (codes "indow") (32 ∷ (decimal a ++ 32 ∷ decimal b)) refl (refl, (refl, (refl, (refl, (refl, tt))))) refl ∙ ap (λ (ws : List (List ℕ)). codes "window" ∷ ws) (two_words a b (omega arith) (omega arith)))
    ∙ rw (moment_back a (omega arith), moment_back b (omega arith)) refl)

-- ---- edges

letter_plus : (last : LastByte) → last_after last 43 ≡ Some Other
letter_plus last = refl

letter_minus : (last : LastByte) → last_after last 45 ≡ Some Other
letter_minus last = refl

letter_bang : (last : LastByte) → last_after last 33 ≡ Some Other
letter_bang last = refl

edge_tidy : (e : Edge) → Fits_edge e → Tidy (edge_text e)
edge_tidy (Own id) fit = number_behind id.0 (codes "b") (omega arith) refl
edge_tidy New fit = record { last = Other; reads = refl; ends = refl }
edge_tidy (PastHigh e) fit = letter_behind (codes "past" ++ decimal e) 43 letter_plus (number_behind e (codes "past") (omega arith) refl)
edge_tidy (PastLow e) fit = letter_behind (codes "past" ++ decimal e) 45 letter_minus (number_behind e (codes "past") (omega arith) refl)
edge_tidy (Now e) fit = number_behind e (codes "now") (omega arith) refl
edge_tidy (End e) fit = number_behind e (codes "end") (omega arith) refl

edges_tidy : (es : List Edge) → Fit_edges es → AllTidy edge_text es
edges_tidy [] fit = tt
edges_tidy (e ∷ es) fit = (edge_tidy e fit.0, edges_tidy es fit.1)

edges_form : (es : List Edge) → Fit_edges es → list_all is_edge_word (words_of (flat_map (λ e. 32 ∷ edge_text e) es)) ≡ true
edges_form [] fit = refl
edges_form (e ∷ es) fit =
    ap (list_all is_edge_word) (edge_word e (flat_map (λ d. 32 ∷ edge_text d) es) fit.0 (gap_next es))
    ∙ (ap (λ o. is_some o && list_all is_edge_word (words_of (flat_map (λ d. 32 ∷ edge_text d) es))) (edge_back e fit.0) ∙ edges_form es fit.1)

some_words : (P : Edge → Type 0) (es : List Edge) → BeginsWith P es → Fit_edges es → list_is_empty (words_of (flat_map (λ e. 32 ∷ edge_text e) es)) ≡ false
some_words P [] first fit = absurd first
some_words P (e ∷ es) first fit = ap list_is_empty (edge_word e (flat_map (λ d. 32 ∷ edge_text d) es) fit.0 (gap_next es))

conflict_words : (es : List Edge) → words_of (codes "refused " ++ (codes "conflict" ++ flat_map (λ e. 32 ∷ edge_text e) es)) ≡ codes "refused" ∷ codes "conflict" ∷ words_of (flat_map (λ e. 32 ∷ edge_text e) es)
conflict_words es =
    word_then 114 (codes "efused") (32 ∷ (codes "conflict" ++ flat_map (λ e. 32 ∷ edge_text e) es)) refl (refl, (refl, (refl, (refl, (refl, (refl, tt)))))) refl
    ∙ ap (λ (ws : List (List ℕ)). codes "refused" ∷ ws) (word_then 99 (codes "onflict") (flat_map (λ e. 32 ∷ edge_text e) es) refl (refl, (refl, (refl, (refl, (refl, (refl, (refl, tt))))))) (gap_next es))

conflict_form : (P : Edge → Type 0) (reason : Reason) → BeginsWith P reason.edges.items → Fit_edges reason.edges.items → is_reply (codes "< " ++ answer_text (Refused (Conflict reason))) ≡ true
conflict_form P reason first fit =
    reply_of (codes "refused " ++ (codes "conflict" ++ flat_map (λ e. 32 ∷ edge_text e) reason.edges.items))
    (tidy_join (codes "refused") (codes "conflict" ++ flat_map (λ e. 32 ∷ edge_text e) reason.edges.items) (record { last = Other; reads = refl; ends = refl })
    (tidy_all edge_text (codes "conflict") reason.edges.items (record { last = Other; reads = refl; ends = refl }) (edges_tidy reason.edges.items fit)))
    (ap is_answer_from (conflict_words reason.edges.items) ∙ rw (some_words P reason.edges.items first fit, edges_form reason.edges.items fit) refl)

-- ---- the moments of a report

abbrev moment_word : ℕ × Bool → List ℕ
moment_word p = decimal p.0 ++ cond p.1 (codes "!") []

abbrev pub AreSoon : List (ℕ × Bool) → Type 0
AreSoon [] = Unit {0}
AreSoon (p ∷ ps) = (p.0 ≤ 1_000_000_000) × AreSoon ps

no_bang : (d : ℕ) → d < 10 → bytes_eq ((48 + d) ∷ []) (codes "!") ≡ false
no_bang d lt = by_case (bytes_eq ((48 + d) ∷ []) (codes "!")) refl
  where
    by_case : (b : Bool) → bytes_eq ((48 + d) ∷ []) (codes "!") ≡ b → bytes_eq ((48 + d) ∷ []) (codes "!") ≡ false
    by_case false is = is
    by_case true is =
        let same : (48 + d) ∷ [] ≡ codes "!" = (bytes_eq-Decides ((48 + d) ∷ []) (codes "!")).0 is in
        let n : 48 + d ≡ 33 = ap (λ (w : List ℕ). get_or w 0 0) same in
        absurd (let f : ⊥ = omega (arith, n) in f)

no_mark : (n : ℕ) → n < 2 ^ 64 → bytes_eq (last_of (decimal n)) (codes "!") ≡ false
no_mark = decimal_by_steps (λ n ds. bytes_eq (last_of ds) (codes "!") ≡ false)
    (λ n lt. ap (λ w. bytes_eq w (codes "!")) (last_back [] (48 + n)) ∙ no_bang n lt)
    (λ n ds le h. ap (λ w. bytes_eq w (codes "!")) (last_back ds (48 + n % 10)) ∙ no_bang (n % 10) (omega arith))

moment_form : (n : ℕ) (b : Bool) → n ≤ 1_000_000_000 → is_moment_word (decimal n ++ cond b (codes "!") []) ≡ true
moment_form n true le = rw (last_back (decimal n) 33, front_back (decimal n) 33, moment_back n (omega arith)) refl
moment_form n false le = ap is_moment_word (append-nil (decimal n)) ∙ rw (no_mark n (omega arith), moment_back n (omega arith)) refl

moment_tidy : (n : ℕ) (b : Bool) → n ≤ 1_000_000_000 → Tidy (decimal n ++ cond b (codes "!") [])
moment_tidy n true le = letter_behind (decimal n) 33 letter_bang (tidy_number n (omega arith))
moment_tidy n false le = subst Tidy (sym (append-nil (decimal n))) (tidy_number n (omega arith))

moments_tidy : (ps : List (ℕ × Bool)) → AreSoon ps → AllTidy moment_word ps
moments_tidy [] h = tt
moments_tidy (p ∷ ps) h = (moment_tidy p.0 p.1 h.0, moments_tidy ps h.1)

mark_solid : (b : Bool) → Solid (cond b (codes "!") [])
mark_solid true = (refl, tt)
mark_solid false = tt

gap_moments : (ps : List (ℕ × Bool)) → Blank (flat_map moment_text ps)
gap_moments [] = tt
gap_moments (p ∷ ps) = refl

some_letters : (xs ys : List ℕ) → 0 < length xs → 0 < length (xs ++ ys)
some_letters [] ys h = absurd (let f : ⊥ = omega arith in f)
some_letters (x ∷ xs) ys h = omega arith

moments_form : (ps : List (ℕ × Bool)) → AreSoon ps → list_all is_moment_word (words_of (flat_map moment_text ps)) ≡ true
moments_form [] h = refl
moments_form (p ∷ ps) h =
    let small : p.0 < 2 ^ 64 = omega (arith, h.0) in
    ap (list_all is_moment_word) (solid_then (moment_word p) (flat_map moment_text ps) (some_letters (decimal p.0) (cond p.1 (codes "!") []) (decimal_nonempty p.0 small)) (solid_more (decimal p.0) (cond p.1 (codes "!") []) (decimal_solid p.0 small) (mark_solid p.1)) (gap_moments ps))
    ∙ (ap (λ t. t && list_all is_moment_word (words_of (flat_map moment_text ps))) (moment_form p.0 p.1 h.0) ∙ moments_form ps h.1)

pub soon : (s : Setting) (t : ℕ → ℕ) (e : ℕ) → IsLawful s → IsSchedule s t → e < event_count s → t e ≤ 1_000_000_000
soon s t e lawful is there = by_past (fixed_at s e) refl
  where
    by_past : (o : Option ℕ) → fixed_at s e ≡ o → t e ≤ 1_000_000_000
    by_past None none = omega (arith, is.end e there none, lawful.horizon)
    by_past (Some m) some = omega (arith, is.past e m some, lawful.past e m some, lawful.horizon)

in_list : (ps : List (ℕ × Bool)) (k : ℕ) (p : ℕ × Bool) → slice_get ps k ≡ Some p → k < length ps
in_list [] k p is = absurd (let f : ⊥ = cc in f)
in_list (q ∷ ps) zero p is = omega arith
in_list (q ∷ ps) (suc k) p is = let r : k < length ps = in_list ps k p is in omega arith

soon_each : (ps : List (ℕ × Bool)) → ((k : ℕ) (p : ℕ × Bool) → slice_get ps k ≡ Some p → p.0 ≤ 1_000_000_000) → AreSoon ps
soon_each [] h = tt
soon_each (p ∷ ps) h = (h 0 p refl, soon_each ps (λ k q is. h (suc k) q is))

pub are_soon : (s : Setting) (ps : List (ℕ × Bool)) → IsLawful s → AreMoments s ps → AreSoon ps
are_soon s ps lawful h =
    soon_each ps (λ k p is. (
    let there : k < event_count s = omega (arith, in_list ps k p is, h.count) in
    let t = h.schedule in
    let same : Some p ≡ Some (t k, is_some (fixed_at s k)) = sym is ∙ h.each k there in
    let pair : p ≡ (t k, is_some (fixed_at s k)) = cc in
    omega (arith, ap (λ (x : ℕ × Bool). x.0) pair, soon s t k lawful h.least.is there)))

-- ---- reports

kind_then : (k : Kind) (rest : List ℕ) → Blank rest → words_of (kind_text k ++ rest) ≡ kind_text k ∷ words_of rest
kind_then Bare rest gap = word_then 98 (codes "are") rest refl (refl, (refl, (refl, tt))) gap
kind_then Kept rest gap = word_then 107 (codes "ept") rest refl (refl, (refl, (refl, tt))) gap
kind_then Altered rest gap = word_then 97 (codes "ltered") rest refl (refl, (refl, (refl, (refl, (refl, (refl, tt)))))) gap

kind_form : (k : Kind) → is_kind_word (kind_text k) ≡ true
kind_form Bare = refl
kind_form Kept = refl
kind_form Altered = refl

kind_tidy : (k : Kind) → Tidy (kind_text k)
kind_tidy Bare = record { last = Other; reads = refl; ends = refl }
kind_tidy Kept = record { last = Other; reads = refl; ends = refl }
kind_tidy Altered = record { last = Other; reads = refl; ends = refl }

report_same : (r : Report) → answer_text (Reported r) ≡ codes "report " ++ (decimal r.now ++ 32 ∷ (kind_text r.kind ++ flat_map moment_text r.moments.items))
report_same r =
    ap (λ (xs : List ℕ). codes "report " ++ xs)
    (append_assoc (decimal r.now ++ codes " ") (kind_text r.kind) (flat_map moment_text r.moments.items)
    ∙ append_assoc (decimal r.now) (codes " ") (kind_text r.kind ++ flat_map moment_text r.moments.items))

report_words : (now : ℕ) (k : Kind) (more : List ℕ) → now < 2 ^ 64 → Blank more → words_of (codes "report " ++ (decimal now ++ 32 ∷ (kind_text k ++ more))) ≡ codes "report" ∷ decimal now ∷ kind_text k ∷ words_of more
report_words now k more small gap =
    word_then 114 (codes "eport") (32 ∷ (decimal now ++ 32 ∷ (kind_text k ++ more))) refl (refl, (refl, (refl, (refl, (refl, tt))))) refl
    ∙ ap (λ (ws : List (List ℕ)). codes "report" ∷ ws) (decimal_then now (32 ∷ (kind_text k ++ more)) small refl
    ∙ ap (λ (ws : List (List ℕ)). decimal now ∷ ws) (kind_then k more gap))

report_form : (r : Report) → r.now ≤ 1_000_000_000 → AreSoon r.moments.items → is_reply (codes "< " ++ answer_text (Reported r)) ≡ true
report_form r le all =
    ap (λ (xs : List ℕ). is_reply (codes "< " ++ xs)) (report_same r)
    ∙ reply_of (codes "report " ++ (decimal r.now ++ 32 ∷ (kind_text r.kind ++ flat_map moment_text r.moments.items)))
    (tidy_join (codes "report") (decimal r.now ++ 32 ∷ (kind_text r.kind ++ flat_map moment_text r.moments.items)) (record { last = Other; reads = refl; ends = refl })
    (tidy_join (decimal r.now) (kind_text r.kind ++ flat_map moment_text r.moments.items) (tidy_number r.now (omega arith)) (tidy_all moment_word (kind_text r.kind) r.moments.items (kind_tidy r.kind) (moments_tidy r.moments.items all))))
    (ap is_answer_from (report_words r.now r.kind (flat_map moment_text r.moments.items) (omega arith) (gap_moments r.moments.items))
    ∙ rw (moment_back r.now (omega arith), kind_form r.kind, moments_form r.moments.items all) refl)

-- ---- refusals without a reason

abbrev pub IsPlain : Refusal → Type 0
IsPlain NoEvent = Unit {0}
IsPlain Done = Unit {0}
IsPlain NoBound = Unit {0}
IsPlain Weight = Unit {0}
IsPlain Back = Unit {0}
IsPlain Moment = Unit {0}
IsPlain Full = Unit {0}
IsPlain Spent = Unit {0}
IsPlain Memory = Unit {0}
IsPlain (Conflict reason) = ⊥

plain_form : (r : Refusal) → IsPlain r → is_reply (codes "< " ++ answer_text (Refused r)) ≡ true
plain_form NoEvent h = refl
plain_form Done h = refl
plain_form NoBound h = refl
plain_form Weight h = refl
plain_form Back h = refl
plain_form Moment h = refl
plain_form Full h = refl
plain_form Spent h = refl
plain_form Memory h = refl
plain_form (Conflict reason) h = absurd h

abbrev pub Plain : Option Refusal → Type 0
Plain None = Unit {0}
Plain (Some r) = IsPlain r

plain_if : (b : Bool) (o u : Option Refusal) → Plain o → Plain u → Plain (cond b o u)
plain_if true o u p q = p
plain_if false o u p q = q

pub first_plain : (m : Machine) (c : Command) → Plain (first_refusal m c)
first_plain m (Advance to) = plain_if (nat_lt to m.setting.clock) _ _ (tt {0}) (plain_if (nat_lt m.setting.horizon to) _ _ (tt {0}) (tt {0}))
first_plain m (Add b) =
    plain_if (not (is_point_of (event_count m.setting) b.from && is_point_of (event_count m.setting) b.to)) _ _ (tt {0})
    (plain_if (not (is_in_range b.w)) _ _ (tt {0})
    (plain_if (nat_le m.limits.bounds (len m.setting.bounds)) _ _ (tt {0})
    (plain_if (nat_le m.limits.ids m.next) _ _ (tt {0}) (tt {0}))))
first_plain m (Withdraw id) = plain_if (is_some (get m.setting.bounds id.0)) _ _ (tt {0}) (tt {0})
first_plain m (Window e) = plain_if (nat_lt e (event_count m.setting)) _ _ (tt {0}) (tt {0})
first_plain m (Dispatch e) =
    plain_if (nat_lt e (event_count m.setting)) _ _ (plain_if (is_some (fixed_at m.setting e)) _ _ (tt {0}) (tt {0})) (tt {0})
first_plain m (Happened e t) =
    plain_if (not (nat_lt e (event_count m.setting))) _ _ (tt {0})
    (plain_if (is_some (fixed_at m.setting e)) _ _ (tt {0})
    (plain_if (nat_lt t (floor_of m.setting e)) _ _ (tt {0})
    (plain_if (nat_lt m.setting.clock t) _ _ (tt {0}) (tt {0}))))
first_plain m Tell = tt

-- ---- each answer

pub named_is : (m : Machine) (c : Command) (n : ℕ) → Tells m c (Named (record { 0 = n })) → n ≡ m.next
named_is m (Advance to) n h = absurd h
named_is m (Add b) n h = h
named_is m (Withdraw id) n h = absurd h
named_is m (Window e) n h = absurd h
named_is m (Dispatch e) n h = absurd h
named_is m (Happened e t) n h = absurd h
named_is m Tell n h = absurd h

pub there_is : (n e : ℕ) → cond (nat_lt e n) None (Some NoEvent) ≡ None → e < n
there_is n e h = by_case (nat_lt e n) refl h
  where
    by_case : (b : Bool) → nat_lt e n ≡ b → cond b None (Some NoEvent) ≡ None → e < n
    by_case true is h = grind (arith, nat_tests, is)
    by_case false is h = absurd (let f : ⊥ = cc in f)

shown_form : (m : Machine) (c : Command) (low high : ℕ) → IsLawful m.setting → first_refusal m c ≡ None → Tells m c (Shown low high) → is_reply (codes "< " ++ answer_text (Shown low high)) ≡ true
shown_form m (Advance to) low high lawful none h = absurd h
shown_form m (Add b) low high lawful none h = absurd h
shown_form m (Withdraw id) low high lawful none h = absurd h
shown_form m (Window e) low high lawful none h =
    let there : e < event_count m.setting = there_is (event_count m.setting) e none in
    let a = h.occurs low (omega arith) h.ordered in
    let b = h.occurs high h.ordered (omega arith) in
    let p : low ≤ 1_000_000_000 = omega (arith, a.2, soon m.setting a.0 e lawful a.1 there) in
    let q : high ≤ 1_000_000_000 = omega (arith, b.2, soon m.setting b.0 e lawful b.1 there) in
    window_form low high p q
shown_form m (Dispatch e) low high lawful none h = absurd h
shown_form m (Happened e t) low high lawful none h = absurd h
shown_form m Tell low high lawful none h = absurd h

reported_form : (m : Machine) (c : Command) (r : Report) → IsLawful m.setting → Tells m c (Reported r) → is_reply (codes "< " ++ answer_text (Reported r)) ≡ true
reported_form m (Advance to) r lawful h = absurd h
reported_form m (Add b) r lawful h = absurd h
reported_form m (Withdraw id) r lawful h = absurd h
reported_form m (Window e) r lawful h = absurd h
reported_form m (Dispatch e) r lawful h = absurd h
reported_form m (Happened e t) r lawful h = absurd h
reported_form m Tell r lawful h = report_form r (omega (arith, h.now, lawful.in_time, lawful.horizon)) (are_soon m.setting r.moments.items lawful h.moments)

refuses_form : (m : Machine) (c : Command) (r : Refusal) → IsSound m → IsLawful m.setting → m.next < 2 ^ 32 → Refuses m c r → is_reply (codes "< " ++ answer_text (Refused r)) ≡ true
refuses_form m c (Conflict reason) sound lawful ids h =
    conflict_form (brings c) reason h.first (fits_reason m c reason.edges.items sound ids (omega (arith, lawful.events)) h.reason)
refuses_form m c Memory sound lawful ids h = refl
refuses_form m c NoEvent sound lawful ids h = refl
refuses_form m c Done sound lawful ids h = refl
refuses_form m c NoBound sound lawful ids h = refl
refuses_form m c Weight sound lawful ids h = refl
refuses_form m c Back sound lawful ids h = refl
refuses_form m c Moment sound lawful ids h = refl
refuses_form m c Full sound lawful ids h = refl
refuses_form m c Spent sound lawful ids h = refl

decided_form : (m new : Machine) (c : Command) (a : Answer) → IsSound m → IsLawful m.setting → m.next < 2 ^ 32 → first_refusal m c ≡ None → Decides m c a new → is_reply (codes "< " ++ answer_text a) ≡ true
decided_form m new c Accepted sound lawful ids none d = refl
decided_form m new c (Named id) sound lawful ids none d = named_form id.0 (omega (arith, named_is m c id.0 d.0))
decided_form m new c (Shown low high) sound lawful ids none d = shown_form m c low high lawful none d.0
decided_form m new c (Reported r) sound lawful ids none d = reported_form m c r lawful d.0
decided_form m new c (Refused r) sound lawful ids none d = refuses_form m c r sound lawful ids d.0

pub has_the_form : (old new : Machine) (command : Command) (answer : Answer) → IsSound old → IsLawful old.setting → old.next < 2 ^ 32 → Step old command answer new → is_reply (answer_line (Some (command, answer))) ≡ true
has_the_form old new command answer sound lawful ids step = by_refusal (first_refusal old command) refl
  where
    by_refusal : (o : Option Refusal) → first_refusal old command ≡ o → is_reply (codes "< " ++ answer_text answer) ≡ true
    by_refusal None none = decided_form old new command answer sound lawful ids none (decided_step old new command answer none step)
    by_refusal (Some r) some =
        ap (λ a. is_reply (codes "< " ++ answer_text a)) (refused_step old new command answer r some step)
        ∙ plain_form r (subst Plain some (first_plain old command))

-- ---- questions

not_nothing : (c : Command) → bytes_eq (codes "> " ++ command_text c) (codes "> ?") ≡ false
not_nothing (Advance to) = refl
not_nothing (Add b) = refl
not_nothing (Withdraw id) = refl
not_nothing (Window e) = refl
not_nothing (Dispatch e) = refl
not_nothing (Happened e t) = refl
not_nothing Tell = refl

has_is : (version : ℕ) (c : Command) → Has version c → has_command version c ≡ true
has_is version (Advance to) h = refl
has_is version (Add b) h = refl
has_is version (Withdraw id) h = refl
has_is version (Window e) h = refl
has_is version (Dispatch e) h = refl
has_is version (Happened e t) h = ap (λ v. nat_eq v 2) h
has_is version Tell h = refl

pub question_read : (version : ℕ) (command : Command) (answer : Answer) → IsSpelled command → Has version command → question_of version (question_line (Some (command, answer))) ≡ Some (Told command)
question_read version command answer spelled has =
    ap (λ t. cond t (Some Nothing) (one_command version (command_text command))) (not_nothing command)
    ∙ rw (read_again command spelled, (bytes_eq-Decides (command_text command) (command_text command)).1 refl, has_is version command has) refl
