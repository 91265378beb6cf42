-- No line of a journal has a line's end within.
use Rattle.std.proofs.Common.{◌≡◌, ◌≢◌, cond, inl, inr, ℕ, suc, ◌+◌, ◌^◌, ◌%◌, ◌<◌, ◌≤◌, Bool, true, false, ◌&&◌, List, [], ◌∷◌, ◌++◌, length, Option, Some, None, refl, ap, sym, ◌∙◌, arith, flat_map, decimal, codes}
use Rattle.std.specs.Prelude.{ℤ, pos, negsuc, nat_eq, not, map, MatchOption}
use Rattle.std.specs.Fmt.{signed_decimal}
use Rattle.std.specs.List.{All, list_all}
use Rattle.std.proofs.lemmas.Fmt.{decimal_by_steps}
use Rattle.std.proofs.lemmas.Bool.Decides.{nat_tests}
use Rattle.std.proofs.lemmas.List.Elements.{All-nil, All-cons, All-head, All-tail, All-append}
use Rattle.tp_bounds.specs.declared.Bound.{Bound}
use Rattle.tp_bounds.specs.declared.Point.{Point}
use Rattle.tp_bounds.specs.declared.Point.TheVariants.{Origin, Event}
use Rattle.tp_bounds.specs.declared.Edge.{Edge}
use Rattle.tp_bounds.specs.declared.Edge.TheVariants.{Own, New, PastHigh, PastLow, Now, End}
use Rattle.tp_exec_machine.specs.declared.command.Command.{Command}
use Rattle.tp_exec_machine.specs.declared.command.Command.TheVariants.{Advance, Add, Withdraw, Window, Dispatch, Happened, Report as Tell}
use Rattle.tp_exec_machine.specs.declared.command.Kind.{Kind}
use Rattle.tp_exec_machine.specs.declared.command.Kind.TheVariants.{Bare, Kept, Altered}
use Rattle.tp_exec_machine.specs.declared.command.Answer.{Answer}
use Rattle.tp_exec_machine.specs.declared.command.Answer.TheVariants.{Accepted, Named, Told as Shown, Reported, Refused}
use Rattle.tp_exec_machine.specs.declared.refusal.Refusal.TheVariants.{NoEvent, Done, NoBound, Weight, Back, Moment, Full, Spent, Memory, Conflict}
use Rattle.tp_exec_machine.specs.Machine.{Machine}
use Rattle.tp_script.specs.Reading.{Free}
use Rattle.tp_script.specs.Transcript.{answer_text, edge_text, kind_text, moment_text}
use Rattle.tp_script.specs.Written.{point_text, bound_text, command_text}
use Rattle.tp_script.proofs.ReadBack.{FitsPoint, FitsWeight, FitsBound, FitsCommand, fits_spelled}
use Rattle.tp_journal_pairs.specs.Edges.{Fits_edge, Fit_edges}
use Rattle.tp_journal_pairs.specs.Journal.{Head, IsHead, IsVersion, IsWritable, IsWritablePoint, IsWritableWeight, AreLags, Entry, Runs, pair_lines, journal_lines, own_lines, kind_lines, lag_line, head_lines, head_of}
use Rattle.tp_journal.specs.Laws.{IsWithin}
use Rattle.tp_journal.proofs.AnswerForms.{AreSoon}
use Rattle.tp_journal.proofs.FitAnswers.{IsFit, step_fits}
use Rattle.tp_journal.proofs.PairForms.{step_within}

abbrev is_inner : ℕ → Bool
is_inner b = not (nat_eq b 10)

abbrev clean : List ℕ → Bool
clean xs = list_all is_inner xs

both : (a b : Bool) → (a && b) ≡ true → (a ≡ true) × (b ≡ true)
both true b h = (refl, h)
both false b h = absurd (let f : ⊥ = cc in f)

clean_more : (xs ys : List ℕ) → clean xs ≡ true → clean ys ≡ true → clean (xs ++ ys) ≡ true
clean_more [] ys p q = q
clean_more (x ∷ xs) ys p q =
    let r = both (is_inner x) (clean xs) p in ap (λ t. t && clean (xs ++ ys)) r.0 ∙ clean_more xs ys r.1 q

no_end_byte : (b : ℕ) → is_inner b ≡ true → b ≢ 10
no_end_byte b h is = let f : true ≡ false = sym h ∙ ap is_inner is in let g : ⊥ = cc in g

clean_free : (xs : List ℕ) → clean xs ≡ true → Free xs
clean_free [] h = All-nil (λ b. b ≢ 10)
clean_free (x ∷ xs) h =
    let r = both (is_inner x) (clean xs) h in All-cons (λ b. b ≢ 10) x xs (no_end_byte x r.0) (clean_free xs r.1)

-- ---- numbers

digit_inner : (d : ℕ) → clean ((48 + d) ∷ []) ≡ true
digit_inner d = let a : nat_eq (48 + d) 10 ≡ false = grind (arith, nat_tests) in rw a refl

clean_number : (n : ℕ) → n < 2 ^ 64 → clean (decimal n) ≡ true
clean_number = decimal_by_steps (λ n ds. clean ds ≡ true)
    (λ n lt. digit_inner n)
    (λ n ds le h. clean_more ds ((48 + n % 10) ∷ []) h (digit_inner (n % 10)))

clean_two : (a b : ℕ) → a < 2 ^ 64 → b < 2 ^ 64 → clean (decimal a ++ codes " " ++ decimal b) ≡ true
clean_two a b p q = clean_more (decimal a ++ codes " ") (decimal b) (clean_more (decimal a) (codes " ") (clean_number a p) refl) (clean_number b q)

-- ---- bounds and commands

point_clean : (p : Point) → IsWritablePoint p → clean (point_text p) ≡ true
point_clean Origin fit = refl
point_clean (Event e) fit = clean_number e (omega arith)

weight_clean : (z : ℤ) → IsWritableWeight z → clean (signed_decimal z) ≡ true
weight_clean (pos n) fit = clean_number n (omega arith)
weight_clean (negsuc n) fit = clean_number (suc n) (omega arith)

bound_clean : (b : Bound) → IsWritable b → clean (bound_text b) ≡ true
bound_clean b fit =
    clean_more (point_text b.from ++ codes " " ++ point_text b.to ++ codes " ") (signed_decimal b.w)
    (clean_more (point_text b.from ++ codes " " ++ point_text b.to) (codes " ")
    (clean_more (point_text b.from ++ codes " ") (point_text b.to) (clean_more (point_text b.from) (codes " ") (point_clean b.from fit.0) refl) (point_clean b.to fit.1)) refl)
    (weight_clean b.w fit.2)

point_fits : (p : Point) → FitsPoint p → IsWritablePoint p
point_fits Origin fit = tt
point_fits (Event e) fit = fit

weight_fits : (z : ℤ) → FitsWeight z → IsWritableWeight z
weight_fits (pos n) fit = omega arith
weight_fits (negsuc n) fit = omega arith

pub bound_fits : (b : Bound) → FitsBound b → IsWritable b
bound_fits b fit = (point_fits b.from fit.0, point_fits b.to fit.1, weight_fits b.w fit.2)

command_clean : (c : Command) → FitsCommand c → clean (command_text c) ≡ true
command_clean (Advance to) fit = clean_number to (omega arith)
command_clean (Add b) fit = bound_clean b (bound_fits b fit)
command_clean (Withdraw id) fit = clean_number id.0 (omega arith)
command_clean (Window e) fit = clean_number e (omega arith)
command_clean (Dispatch e) fit = clean_number e (omega arith)
command_clean (Happened e t) fit = clean_two e t (omega arith) (omega arith)
command_clean Tell fit = refl

-- ---- answers

edge_clean : (e : Edge) → Fits_edge e → clean (edge_text e) ≡ true
edge_clean (Own id) fit = clean_number id.0 (omega arith)
edge_clean New fit = refl
edge_clean (PastHigh e) fit = clean_more (decimal e) (codes "+") (clean_number e (omega arith)) refl
edge_clean (PastLow e) fit = clean_more (decimal e) (codes "-") (clean_number e (omega arith)) refl
edge_clean (Now e) fit = clean_number e (omega arith)
edge_clean (End e) fit = clean_number e (omega arith)

edges_clean : (es : List Edge) → Fit_edges es → clean (flat_map (λ e. 32 ∷ edge_text e) es) ≡ true
edges_clean [] fit = refl
edges_clean (e ∷ es) fit = clean_more (edge_text e) (flat_map (λ d. 32 ∷ edge_text d) es) (edge_clean e fit.0) (edges_clean es fit.1)

mark_clean : (b : Bool) → clean (cond b (codes "!") []) ≡ true
mark_clean true = refl
mark_clean false = refl

moments_clean : (ps : List (ℕ × Bool)) → AreSoon ps → clean (flat_map moment_text ps) ≡ true
moments_clean [] h = refl
moments_clean (p ∷ ps) h =
    clean_more (decimal p.0 ++ cond p.1 (codes "!") []) (flat_map moment_text ps)
    (clean_more (decimal p.0) (cond p.1 (codes "!") []) (clean_number p.0 (omega (arith, h.0))) (mark_clean p.1)) (moments_clean ps h.1)

kind_clean : (k : Kind) → clean (kind_text k) ≡ true
kind_clean Bare = refl
kind_clean Kept = refl
kind_clean Altered = refl

answer_clean : (a : Answer) → IsFit a → clean (answer_text a) ≡ true
answer_clean Accepted fit = refl
answer_clean (Named id) fit = clean_number id.0 (omega arith)
answer_clean (Shown low high) fit = clean_two low high (omega (arith, fit.0)) (omega (arith, fit.1))
answer_clean (Reported r) fit =
    clean_more (decimal r.now ++ codes " " ++ kind_text r.kind) (flat_map moment_text r.moments.items)
    (clean_more (decimal r.now ++ codes " ") (kind_text r.kind) (clean_more (decimal r.now) (codes " ") (clean_number r.now (omega (arith, fit.0))) refl) (kind_clean r.kind))
    (moments_clean r.moments.items fit.1)
answer_clean (Refused (Conflict reason)) fit = edges_clean reason.edges.items fit.0
answer_clean (Refused NoEvent) fit = refl
answer_clean (Refused Done) fit = refl
answer_clean (Refused NoBound) fit = refl
answer_clean (Refused Weight) fit = refl
answer_clean (Refused Back) fit = refl
answer_clean (Refused Moment) fit = refl
answer_clean (Refused Full) fit = refl
answer_clean (Refused Spent) fit = refl
answer_clean (Refused Memory) fit = refl

-- ---- the lines of pairs

two_free : (a b : List ℕ) (more : List (List ℕ)) → Free a → Free b → All Free more → All Free (a ∷ b ∷ more)
two_free a b more p q all = All-cons Free a (b ∷ more) p (All-cons Free b more q all)

pairs_free : (version : ℕ) (old new : Machine) (entries : List Entry) → IsWithin old → Runs version old entries new → All Free (flat_map pair_lines entries)
pairs_free version old new [] h runs = All-nil Free
pairs_free version old new (None ∷ es) h runs =
    two_free (codes "> ?") (codes "< refused line") (flat_map pair_lines es) (clean_free (codes "> ?") refl) (clean_free (codes "< refused line") refl) (pairs_free version old new es h runs)
pairs_free version old new (Some p ∷ es) h runs =
    two_free (codes "> " ++ command_text p.0) (codes "< " ++ answer_text p.1) (flat_map pair_lines es)
    (clean_free (codes "> " ++ command_text p.0) (command_clean p.0 (fits_spelled runs.1.0 p.0 runs.1.1)))
    (clean_free (codes "< " ++ answer_text p.1) (answer_clean p.1 (step_fits old runs.0 p.0 p.1 h runs.3)))
    (pairs_free version runs.0 new es (step_within old runs.0 p.0 p.1 h runs.3) runs.4)

-- ---- the lines of a head

own_free : (id : ℕ) (bs : List Bound) → id + length bs ≤ 65_535 → All IsWritable bs → All Free (own_lines id bs)
own_free id [] le all = All-nil Free
own_free id (b ∷ bs) le all =
    All-cons Free (codes "bound " ++ decimal id ++ codes " " ++ bound_text b) (own_lines (suc id) bs)
    (clean_free (codes "bound " ++ decimal id ++ codes " " ++ bound_text b)
    (clean_more (decimal id ++ codes " ") (bound_text b) (clean_more (decimal id) (codes " ") (clean_number id (omega arith)) refl) (bound_clean b (All-head IsWritable b bs all))))
    (own_free (suc id) bs (omega arith) (All-tail IsWritable b bs all))

kind_free : (own : Option (List Bound)) → MatchOption own (Unit {0}) (λ bounds. (length bounds ≤ 65_535) × All IsWritable bounds) → All Free (kind_lines own)
kind_free None fit = All-cons Free (codes "bare") [] (clean_free (codes "bare") refl) (All-nil Free)
kind_free (Some bs) fit =
    All-cons Free (codes "own " ++ decimal (length bs)) (own_lines 0 bs) (clean_free (codes "own " ++ decimal (length bs)) (clean_number (length bs) (omega (arith, fit.0))))
    (own_free 0 bs (omega (arith, fit.0)) fit.1)

lags_free : (least events : ℕ) (ps : List (ℕ × ℕ)) → events ≤ 1_024 → AreLags least events ps → All Free (map lag_line ps)
lags_free least events [] few are = All-nil Free
lags_free least events (p ∷ ps) few are =
    All-cons Free (lag_line p) (map lag_line ps) (clean_free (lag_line p) (clean_two p.0 p.1 (omega (arith, are.1)) (omega (arith, are.3)))) (lags_free (p.0 + 1) events ps few are.4)

small_version : (v : ℕ) → IsVersion v → v < 2 ^ 64
small_version v (inl is) = omega (arith, is)
small_version v (inr is) = omega (arith, is)

head_free : (h : Head) → IsHead h → All Free (head_lines h)
head_free h is =
    two_free (codes "journal " ++ decimal h.version) (codes "network " ++ decimal h.events ++ codes " " ++ decimal h.horizon) (kind_lines h.own ++ map lag_line h.lags)
    (clean_free (codes "journal " ++ decimal h.version) (clean_number h.version (small_version h.version is.version)))
    (clean_free (codes "network " ++ decimal h.events ++ codes " " ++ decimal h.horizon) (clean_two h.events h.horizon (omega (arith, is.events)) (omega (arith, is.horizon))))
    (All-append Free (kind_lines h.own) (map lag_line h.lags) (kind_free h.own is.own) (lags_free 0 h.events h.lags is.events is.lags))

-- ---- a whole journal

pub journal_free : (version : ℕ) (old new : Machine) (entries : List Entry) → IsWithin old → IsHead (head_of version old) → Runs version old entries new → All Free (journal_lines version old entries)
journal_free version old new entries within is runs =
    All-append Free (head_lines (head_of version old)) (flat_map pair_lines entries) (head_free (head_of version old) is) (pairs_free version old new entries within runs)
