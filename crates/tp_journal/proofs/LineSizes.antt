-- No line of a journal is longer than a line of a journal may be.
use Rattle.std.proofs.Common.{◌≡◌, cond, inl, inr, ℕ, suc, ◌+◌, ◌*◌, ◌^◌, ◌<◌, ◌≤◌, Bool, true, false, List, [], ◌∷◌, ◌++◌, length, Option, Some, None, refl, arith, length-append, flat_map, decimal, codes}
use Rattle.std.specs.Prelude.{ℤ, pos, negsuc, map, MatchOption}
use Rattle.std.specs.Fmt.{signed_decimal}
use Rattle.std.specs.List.{All}
use Rattle.std.proofs.lemmas.Fmt.{length-decimal-le}
use Rattle.std.proofs.lemmas.List.Elements.{All-nil, All-cons, All-head, All-tail, All-append}
use Rattle.tp_bounds.specs.declared.Bound.{Bound}
use Rattle.tp_bounds.specs.declared.Point.{Point}
use Rattle.tp_bounds.specs.declared.Point.TheVariants.{Origin, Event}
use Rattle.tp_bounds.specs.declared.Edge.{Edge}
use Rattle.tp_bounds.specs.declared.Edge.TheVariants.{Own, New, PastHigh, PastLow, Now, End}
use Rattle.tp_exec_machine.specs.declared.command.Command.{Command}
use Rattle.tp_exec_machine.specs.declared.command.Command.TheVariants.{Advance, Add, Withdraw, Window, Dispatch, Happened, Report as Tell}
use Rattle.tp_exec_machine.specs.declared.command.Kind.{Kind}
use Rattle.tp_exec_machine.specs.declared.command.Kind.TheVariants.{Bare, Kept, Altered}
use Rattle.tp_exec_machine.specs.declared.command.Answer.{Answer}
use Rattle.tp_exec_machine.specs.declared.command.Answer.TheVariants.{Accepted, Named, Told as Shown, Reported, Refused}
use Rattle.tp_exec_machine.specs.declared.refusal.Refusal.TheVariants.{NoEvent, Done, NoBound, Weight, Back, Moment, Full, Spent, Memory, Conflict}
use Rattle.tp_exec_machine.specs.Machine.{Machine}
use Rattle.tp_script.specs.Transcript.{answer_text, edge_text, kind_text, moment_text}
use Rattle.tp_script.specs.Written.{point_text, bound_text, command_text}
use Rattle.tp_script.proofs.ReadBack.{FitsCommand, fits_spelled}
use Rattle.tp_journal_pairs.specs.Edges.{Fits_edge, Fit_edges}
use Rattle.tp_journal_pairs.specs.Journal.{Head, IsHead, IsVersion, IsWritable, IsWritablePoint, IsWritableWeight, AreLags, Entry, Runs, pair_lines, journal_lines, own_lines, kind_lines, lag_line, head_lines, head_of, longest_line}
use Rattle.tp_journal.specs.Laws.{IsWithin}
use Rattle.tp_journal.proofs.AnswerForms.{AreSoon}
use Rattle.tp_journal.proofs.FitAnswers.{IsFit, step_fits}
use Rattle.tp_journal.proofs.PairForms.{step_within}
use Rattle.tp_journal.proofs.CleanTexts.{bound_fits}

-- ---- texts one behind another

sum_of : (xs ys : List ℕ) (a b : ℕ) → length xs ≤ a → length ys ≤ b → length (xs ++ ys) ≤ a + b
sum_of xs ys a b p q = omega (arith, length-append xs ys, p, q)

word : (xs : List ℕ) (n : ℕ) → length xs ≡ n → length xs ≤ n
word xs n is = omega (arith, is)

number : (n : ℕ) → n < 10 ^ 10 → length (decimal n) ≤ 10
number n lt = length-decimal-le 10 n (omega arith) lt (omega arith)

two_numbers : (a b : ℕ) → a < 10 ^ 10 → b < 10 ^ 10 → length (decimal a ++ codes " " ++ decimal b) ≤ 21
two_numbers a b p q = sum_of (decimal a ++ codes " ") (decimal b) 11 10 (sum_of (decimal a) (codes " ") 10 1 (number a p) (word (codes " ") 1 refl)) (number b q)

-- ---- bounds and commands

point_size : (p : Point) → IsWritablePoint p → length (point_text p) ≤ 10
point_size Origin fit = omega arith
point_size (Event e) fit = number e (omega arith)

weight_size : (z : ℤ) → IsWritableWeight z → length (signed_decimal z) ≤ 11
weight_size (pos n) fit = let n10 : length (decimal n) ≤ 10 = number n (omega arith) in omega (arith, n10)
weight_size (negsuc n) fit = let n10 : length (decimal (suc n)) ≤ 10 = number (suc n) (omega arith) in omega (arith, n10)

bound_size : (b : Bound) → IsWritable b → length (bound_text b) ≤ 33
bound_size b fit =
    sum_of (point_text b.from ++ codes " " ++ point_text b.to ++ codes " ") (signed_decimal b.w) 22 11
    (sum_of (point_text b.from ++ codes " " ++ point_text b.to) (codes " ") 21 1
    (sum_of (point_text b.from ++ codes " ") (point_text b.to) 11 10 (sum_of (point_text b.from) (codes " ") 10 1 (point_size b.from fit.0) (word (codes " ") 1 refl)) (point_size b.to fit.1)) (word (codes " ") 1 refl))
    (weight_size b.w fit.2)

command_size : (c : Command) → FitsCommand c → length (command_text c) ≤ 60
command_size (Advance to) fit = let s = sum_of (codes "advance ") (decimal to) 8 10 (word (codes "advance ") 8 refl) (number to (omega arith)) in omega (arith, s)
command_size (Add b) fit = let s = sum_of (codes "add ") (bound_text b) 4 33 (word (codes "add ") 4 refl) (bound_size b (bound_fits b fit)) in omega (arith, s)
command_size (Withdraw id) fit = let s = sum_of (codes "withdraw ") (decimal id.0) 9 10 (word (codes "withdraw ") 9 refl) (number id.0 (omega arith)) in omega (arith, s)
command_size (Window e) fit = let s = sum_of (codes "window ") (decimal e) 7 10 (word (codes "window ") 7 refl) (number e (omega arith)) in omega (arith, s)
command_size (Dispatch e) fit = let s = sum_of (codes "dispatch ") (decimal e) 9 10 (word (codes "dispatch ") 9 refl) (number e (omega arith)) in omega (arith, s)
command_size (Happened e t) fit =
    let s = sum_of (codes "happened ") (decimal e ++ codes " " ++ decimal t) 9 21 (word (codes "happened ") 9 refl) (two_numbers e t (omega arith) (omega arith)) in
    omega (arith, s)
command_size Tell fit = omega arith

-- ---- answers

edge_size : (e : Edge) → Fits_edge e → length (edge_text e) ≤ 11
edge_size (Own id) fit = let s = number id.0 (omega arith) in omega (arith, s)
edge_size New fit = omega arith
edge_size (PastHigh e) fit =
    let n : length (decimal e) ≤ 5 = length-decimal-le 5 e (omega arith) (omega arith) (omega arith) in
    let s = sum_of (decimal e) (codes "+") 5 1 n (word (codes "+") 1 refl) in omega (arith, s)
edge_size (PastLow e) fit =
    let n : length (decimal e) ≤ 5 = length-decimal-le 5 e (omega arith) (omega arith) (omega arith) in
    let s = sum_of (decimal e) (codes "-") 5 1 n (word (codes "-") 1 refl) in omega (arith, s)
edge_size (Now e) fit =
    let n : length (decimal e) ≤ 5 = length-decimal-le 5 e (omega arith) (omega arith) (omega arith) in omega (arith, n)
edge_size (End e) fit =
    let n : length (decimal e) ≤ 5 = length-decimal-le 5 e (omega arith) (omega arith) (omega arith) in omega (arith, n)

edges_size : (es : List Edge) → Fit_edges es → length (flat_map (λ e. 32 ∷ edge_text e) es) ≤ 12 * length es
edges_size [] fit = omega arith
edges_size (e ∷ es) fit =
    let first = edge_size e fit.0 in
    let rest = edges_size es fit.1 in
    let all = length-append (edge_text e) (flat_map (λ d. 32 ∷ edge_text d) es) in
    omega (arith, first, rest, all)

mark_size : (b : Bool) → length (cond b (codes "!") []) ≤ 1
mark_size true = omega arith
mark_size false = omega arith

moments_size : (ps : List (ℕ × Bool)) → AreSoon ps → length (flat_map moment_text ps) ≤ 12 * length ps
moments_size [] h = omega arith
moments_size (p ∷ ps) h =
    let first = sum_of (decimal p.0) (cond p.1 (codes "!") []) 10 1 (number p.0 (omega (arith, h.0))) (mark_size p.1) in
    let rest = moments_size ps h.1 in
    let all = length-append (decimal p.0 ++ cond p.1 (codes "!") []) (flat_map moment_text ps) in
    omega (arith, first, rest, all)

kind_size : (k : Kind) → length (kind_text k) ≤ 7
kind_size Bare = omega arith
kind_size Kept = omega arith
kind_size Altered = omega arith

answer_size : (a : Answer) → IsFit a → length (answer_text a) ≤ 12_400
answer_size Accepted fit = omega arith
answer_size (Named id) fit = let s = sum_of (codes "bound ") (decimal id.0) 6 10 (word (codes "bound ") 6 refl) (number id.0 (omega arith)) in omega (arith, s)
answer_size (Shown low high) fit =
    let s = sum_of (codes "window ") (decimal low ++ codes " " ++ decimal high) 7 21 (word (codes "window ") 7 refl) (two_numbers low high (omega (arith, fit.0)) (omega (arith, fit.1))) in
    omega (arith, s)
answer_size (Reported r) fit =
    let head = sum_of (codes "report " ++ decimal r.now ++ codes " ") (kind_text r.kind) 18 7
    (sum_of (codes "report " ++ decimal r.now) (codes " ") 17 1 (sum_of (codes "report ") (decimal r.now) 7 10 (word (codes "report ") 7 refl) (number r.now (omega (arith, fit.0)))) (word (codes " ") 1 refl))
    (kind_size r.kind) in
    let all = sum_of (codes "report " ++ decimal r.now ++ codes " " ++ kind_text r.kind) (flat_map moment_text r.moments.items) 25 (12 * length r.moments.items) head (moments_size r.moments.items fit.1) in
    omega (arith, all, fit.2)
answer_size (Refused (Conflict reason)) fit =
    let all = sum_of (codes "refused conflict") (flat_map (λ e. 32 ∷ edge_text e) reason.edges.items) 16 (12 * length reason.edges.items) (word (codes "refused conflict") 16 refl) (edges_size reason.edges.items fit.0) in
    omega (arith, all, fit.1)
answer_size (Refused NoEvent) fit = omega arith
answer_size (Refused Done) fit = omega arith
answer_size (Refused NoBound) fit = omega arith
answer_size (Refused Weight) fit = omega arith
answer_size (Refused Back) fit = omega arith
answer_size (Refused Moment) fit = omega arith
answer_size (Refused Full) fit = omega arith
answer_size (Refused Spent) fit = omega arith
answer_size (Refused Memory) fit = omega arith

-- ---- the lines of pairs

abbrev IsShort : List ℕ → Type 0
IsShort line = length line ≤ longest_line

two_short : (a b : List ℕ) (more : List (List ℕ)) → IsShort a → IsShort b → All IsShort more → All IsShort (a ∷ b ∷ more)
two_short a b more p q all = All-cons IsShort a (b ∷ more) p (All-cons IsShort b more q all)

pairs_short : (version : ℕ) (old new : Machine) (entries : List Entry) → IsWithin old → Runs version old entries new → All IsShort (flat_map pair_lines entries)
pairs_short version old new [] h runs = All-nil IsShort
pairs_short version old new (None ∷ es) h runs =
    two_short (codes "> ?") (codes "< refused line") (flat_map pair_lines es) (omega arith) (omega arith) (pairs_short version old new es h runs)
pairs_short version old new (Some p ∷ es) h runs =
    let question = sum_of (codes "> ") (command_text p.0) 2 60 (word (codes "> ") 2 refl) (command_size p.0 (fits_spelled runs.1.0 p.0 runs.1.1)) in
    let reply = sum_of (codes "< ") (answer_text p.1) 2 12_400 (word (codes "< ") 2 refl) (answer_size p.1 (step_fits old runs.0 p.0 p.1 h runs.3)) in
    two_short (codes "> " ++ command_text p.0) (codes "< " ++ answer_text p.1) (flat_map pair_lines es)
    (omega (arith, question)) (omega (arith, reply))
    (pairs_short version runs.0 new es (step_within old runs.0 p.0 p.1 h runs.3) runs.4)

-- ---- the lines of a head

own_short : (id : ℕ) (bs : List Bound) → id + length bs ≤ 65_535 → All IsWritable bs → All IsShort (own_lines id bs)
own_short id [] le all = All-nil IsShort
own_short id (b ∷ bs) le all =
    let s = sum_of (codes "bound " ++ decimal id ++ codes " ") (bound_text b) 17 33
    (sum_of (codes "bound " ++ decimal id) (codes " ") 16 1 (sum_of (codes "bound ") (decimal id) 6 10 (word (codes "bound ") 6 refl) (number id (omega arith))) (word (codes " ") 1 refl))
    (bound_size b (All-head IsWritable b bs all)) in
    All-cons IsShort (codes "bound " ++ decimal id ++ codes " " ++ bound_text b) (own_lines (suc id) bs) (omega (arith, s))
    (own_short (suc id) bs (omega arith) (All-tail IsWritable b bs all))

kind_short : (own : Option (List Bound)) → MatchOption own (Unit {0}) (λ bounds. (length bounds ≤ 65_535) × All IsWritable bounds) → All IsShort (kind_lines own)
kind_short None fit = All-cons IsShort (codes "bare") [] (omega arith) (All-nil IsShort)
kind_short (Some bs) fit =
    let s = sum_of (codes "own ") (decimal (length bs)) 4 10 (word (codes "own ") 4 refl) (number (length bs) (omega (arith, fit.0))) in
    All-cons IsShort (codes "own " ++ decimal (length bs)) (own_lines 0 bs) (omega (arith, s)) (own_short 0 bs (omega (arith, fit.0)) fit.1)

lags_short : (least events : ℕ) (ps : List (ℕ × ℕ)) → events ≤ 1_024 → AreLags least events ps → All IsShort (map lag_line ps)
lags_short least events [] few are = All-nil IsShort
lags_short least events (p ∷ ps) few are =
    let s = sum_of (codes "lag ") (decimal p.0 ++ codes " " ++ decimal p.1) 4 21 (word (codes "lag ") 4 refl) (two_numbers p.0 p.1 (omega (arith, are.1)) (omega (arith, are.3))) in
    All-cons IsShort (lag_line p) (map lag_line ps) (omega (arith, s)) (lags_short (p.0 + 1) events ps few are.4)

small_version : (v : ℕ) → IsVersion v → v < 10 ^ 10
small_version v (inl is) = omega (arith, is)
small_version v (inr is) = omega (arith, is)

head_short : (h : Head) → IsHead h → All IsShort (head_lines h)
head_short h is =
    let first = sum_of (codes "journal ") (decimal h.version) 8 10 (word (codes "journal ") 8 refl) (number h.version (small_version h.version is.version)) in
    let second = sum_of (codes "network ") (decimal h.events ++ codes " " ++ decimal h.horizon) 8 21 (word (codes "network ") 8 refl) (two_numbers h.events h.horizon (omega (arith, is.events)) (omega (arith, is.horizon))) in
    two_short (codes "journal " ++ decimal h.version) (codes "network " ++ decimal h.events ++ codes " " ++ decimal h.horizon) (kind_lines h.own ++ map lag_line h.lags)
    (omega (arith, first)) (omega (arith, second))
    (All-append IsShort (kind_lines h.own) (map lag_line h.lags) (kind_short h.own is.own) (lags_short 0 h.events h.lags is.events is.lags))

-- ---- a whole journal

pub journal_short : (version : ℕ) (old new : Machine) (entries : List Entry) → IsWithin old → IsHead (head_of version old) → Runs version old entries new → All (λ line. length line ≤ longest_line) (journal_lines version old entries)
journal_short version old new entries within is runs =
    All-append IsShort (head_lines (head_of version old)) (flat_map pair_lines entries) (head_short (head_of version old) is) (pairs_short version old new entries within runs)
