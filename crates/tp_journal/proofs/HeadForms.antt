-- A head of the format is read as it is written, line by line.
use Rattle.std.proofs.Common.{◌≡◌, cond, ◌⊎◌, inl, inr, ℕ, suc, ◌+◌, ◌^◌, ◌<◌, ◌≤◌, Bool, true, false, ◌&&◌, List, [], ◌∷◌, ◌++◌, length, is_some, Option, Some, None, refl, ap, sym, subst, ◌∙◌, arith, append-nil, append_assoc, flat_map, decimal, codes}
use Rattle.std.specs.Prelude.{ℤ, pos, negsuc, nat_eq, nat_lt, nat_le, map, MatchOption}
use Rattle.std.specs.Fmt.{signed_decimal}
use Rattle.std.specs.List.{All, list_all}
use Rattle.std.specs.Option.{option_map, option_and_then}
use Rattle.std.specs.Str.{bytes_eq}
use Rattle.std.proofs.lemmas.Fmt.{decimal_digit, decimal_nonempty}
use Rattle.std.proofs.lemmas.Slice.Eq.{bytes_eq-Decides}
use Rattle.std.proofs.lemmas.Bool.Decides.{nat_tests}
use Rattle.std.proofs.lemmas.List.Elements.{All-head, All-tail}
use Rattle.tp_bounds.specs.declared.Bound.{Bound}
use Rattle.tp_bounds.specs.Setting.{event_count}
use Rattle.tp_exec_machine.specs.Machine.{Machine}
use Rattle.tp_bounds.specs.declared.Point.{Point}
use Rattle.tp_bounds.specs.declared.Point.TheVariants.{Origin, Event}
use Rattle.tp_script.specs.Words.{words_of, number_of, is_digit}
use Rattle.tp_script.specs.Commands.{point_of, weight_of}
use Rattle.tp_script.specs.Serving.{head_from}
use Rattle.tp_script.specs.Serving as serving
use Rattle.tp_script.specs.Written.{point_text, bound_text}
use Rattle.tp_script.proofs.SpellLemmas.{Solid, word_then, solid_then, decimal_solid, decimal_then, decimal_digits, number_back, moment_back, event_back}
use Rattle.tp_journal_pairs.specs.Journal.{Entry, question_line, answer_line, pair_lines, journal_lines, Runs, head_of, Head, IsHead, IsVersion, IsWritable, IsWritablePoint, IsWritableWeight, AreLags, own_lines, kind_lines, lag_line, head_lines}
use Rattle.tp_journal.specs.declared.form.LastByte.TheVariants.{Other}
use Rattle.tp_journal.specs.declared.form.Place.{Place}
use Rattle.tp_journal.specs.declared.form.Place.TheVariants.{Start, Network, Kind, Own, Lag, Question}
use Rattle.tp_journal.specs.Form.{version_of, network_of, own_count_of, own_count_from, is_own_line, are_ends, lag_of, lag_from, own_place, may_lag, lag_place, next_place, place_after, may_end}
use Rattle.tp_journal.specs.Laws.{IsWithin}
use Rattle.tp_journal.proofs.Heads.{start_next}
use Rattle.tp_journal.proofs.NeatTexts.{Tidy, tidy_neat, tidy_join, tidy_number, number_behind}
use Rattle.tp_journal.proofs.WordForms.{own_line_is}
use Rattle.tp_journal.proofs.AnswerForms.{number_word, two_words}
use Rattle.tp_journal.proofs.PairForms.{pairs_form}

-- ---- lines behind lines

pub after_more : (p : Place) (xs ys : List (List ℕ)) → place_after p (xs ++ ys) ≡ option_and_then (λ q. place_after q ys) (place_after p xs)
after_more p [] ys = refl
after_more p (x ∷ xs) ys = by_next (next_place p x) (λ n. after_more n xs ys)
  where
    by_next : (o : Option Place) → ((n : Place) → place_after n (xs ++ ys) ≡ option_and_then (λ q. place_after q ys) (place_after n xs)) → option_and_then (λ n. place_after n (xs ++ ys)) o ≡ option_and_then (λ q. place_after q ys) (option_and_then (λ n. place_after n xs) o)
    by_next None h = refl
    by_next (Some n) h = h n

pub goes_on : (p q : Place) (line : List ℕ) (lines : List (List ℕ)) → next_place p line ≡ Some q → place_after p (line ∷ lines) ≡ place_after q lines
goes_on p q line lines is = ap (option_and_then (λ n. place_after n lines)) is

-- ---- lines 1 and 2

pub version_back : (v : ℕ) → IsVersion v → version_of (codes "journal " ++ decimal v) ≡ Some v
version_back v (inl is) = subst (λ x. version_of (codes "journal " ++ decimal x) ≡ Some x) (sym is) (ap (λ ds. version_of (codes "journal " ++ ds)) (decimal_digit 1 (omega arith)))
version_back v (inr is) = subst (λ x. version_of (codes "journal " ++ decimal x) ≡ Some x) (sym is) (ap (λ ds. version_of (codes "journal " ++ ds)) (decimal_digit 2 (omega arith)))

first_goes : (v : ℕ) → IsVersion v → next_place Start (codes "journal " ++ decimal v) ≡ Some (Network v)
first_goes v is = start_next (codes "journal " ++ decimal v) v (version_back v is)

network_same : (e h : ℕ) → codes "network " ++ decimal e ++ codes " " ++ decimal h ≡ codes "network " ++ (decimal e ++ 32 ∷ decimal h)
network_same e h = ap (λ (xs : List ℕ). codes "network " ++ xs) (append_assoc (decimal e) (codes " ") (decimal h))

two_tidy : (a b : ℕ) → a < 2 ^ 64 → b < 2 ^ 64 → Tidy (decimal a ++ 32 ∷ decimal b)
two_tidy a b p q = tidy_join (decimal a) (decimal b) (tidy_number a p) (tidy_number b q)

network_words : (e h : ℕ) → e < 2 ^ 64 → h < 2 ^ 64 → words_of (codes "network " ++ (decimal e ++ 32 ∷ decimal h)) ≡ codes "network" ∷ decimal e ∷ decimal h ∷ []
network_words e h p q =
    word_then 110 (codes "etwork") (32 ∷ (decimal e ++ 32 ∷ decimal h)) refl (refl, (refl, (refl, (refl, (refl, (refl, tt)))))) refl
    ∙ ap (λ (ws : List (List ℕ)). codes "network" ∷ ws) (two_words e h p q)

head_told : (e h : ℕ) → e ≤ 1_024 → h ≤ 1_000_000_000 → head_from (codes "network" ∷ decimal e ∷ decimal h ∷ []) ≡ Some (e, h)
head_told e h p q =
    let a : nat_le e 1_024 ≡ true = grind (arith, nat_tests) in
    let b : nat_le h 1_000_000_000 ≡ true = grind (arith, nat_tests) in
    rw (number_back e (omega arith), number_back h (omega arith), a, b) refl

network_told : (e h : ℕ) → e ≤ 1_024 → h ≤ 1_000_000_000 → network_of (codes "network " ++ (decimal e ++ 32 ∷ decimal h)) ≡ Some (e, h)
network_told e h p q =
    ap (λ t. cond t (serving.head_of (codes "network " ++ (decimal e ++ 32 ∷ decimal h))) None)
    (tidy_neat (codes "network " ++ (decimal e ++ 32 ∷ decimal h)) (tidy_join (codes "network") (decimal e ++ 32 ∷ decimal h) (record { last = Other; reads = refl; ends = refl }) (two_tidy e h (omega arith) (omega arith))))
    ∙ (ap head_from (network_words e h (omega arith) (omega arith)) ∙ head_told e h p q)

network_goes : (v e h : ℕ) → e ≤ 1_024 → h ≤ 1_000_000_000 → next_place (Network v) (codes "network " ++ decimal e ++ codes " " ++ decimal h) ≡ Some (Kind v e)
network_goes v e h p q = ap (next_place (Network v)) (network_same e h) ∙ ap (option_map (λ (x : ℕ × ℕ). Kind v x.0)) (network_told e h p q)

-- ---- line 3

own_words : (k : ℕ) → k < 2 ^ 64 → words_of (codes "own " ++ decimal k) ≡ codes "own" ∷ decimal k ∷ []
own_words k p =
    word_then 111 (codes "wn") (32 ∷ decimal k) refl (refl, (refl, tt)) refl ∙ ap (λ (ws : List (List ℕ)). codes "own" ∷ ws) (number_word k p)

own_told : (k : ℕ) → k ≤ 65_535 → own_count_of (codes "own " ++ decimal k) ≡ Some k
own_told k p =
    ap (λ t. cond t (own_count_from (words_of (codes "own " ++ decimal k))) None)
    (tidy_neat (codes "own " ++ decimal k) (tidy_join (codes "own") (decimal k) (record { last = Other; reads = refl; ends = refl }) (tidy_number k (omega arith))))
    ∙ (ap own_count_from (own_words k (omega arith)) ∙ event_back k p)

kind_goes : (v e k : ℕ) → k ≤ 65_535 → next_place (Kind v e) (codes "own " ++ decimal k) ≡ Some (own_place v e 0 k)
kind_goes v e k p = ap (option_map (own_place v e 0)) (own_told k p)

-- ---- the lines of own bounds

bound_same : (b : Bound) → bound_text b ≡ point_text b.from ++ 32 ∷ (point_text b.to ++ 32 ∷ signed_decimal b.w)
bound_same b =
    append_assoc (point_text b.from ++ codes " " ++ point_text b.to) (codes " ") (signed_decimal b.w)
    ∙ (append_assoc (point_text b.from ++ codes " ") (point_text b.to) (codes " " ++ signed_decimal b.w)
    ∙ append_assoc (point_text b.from) (codes " ") (point_text b.to ++ (codes " " ++ signed_decimal b.w)))

own_text : ℕ → Bound → List ℕ
own_text id b = codes "bound " ++ (decimal id ++ 32 ∷ (point_text b.from ++ 32 ∷ (point_text b.to ++ 32 ∷ signed_decimal b.w)))

own_same : (id : ℕ) (b : Bound) → codes "bound " ++ decimal id ++ codes " " ++ bound_text b ≡ own_text id b
unfolding own_text
own_same id b = ap (λ (xs : List ℕ). codes "bound " ++ xs) (append_assoc (decimal id) (codes " ") (bound_text b) ∙ ap (λ (xs : List ℕ). decimal id ++ 32 ∷ xs) (bound_same b))

point_tidy : (p : Point) → IsWritablePoint p → Tidy (point_text p)
point_tidy Origin fit = record { last = Other; reads = refl; ends = refl }
point_tidy (Event e) fit = tidy_number e (omega arith)

weight_tidy : (z : ℤ) → IsWritableWeight z → Tidy (signed_decimal z)
weight_tidy (pos n) fit = tidy_number n (omega arith)
weight_tidy (negsuc n) fit = number_behind (suc n) (codes "-") (omega arith) refl

point_solid : (p : Point) → IsWritablePoint p → (0 < length (point_text p)) × Solid (point_text p)
point_solid Origin fit = (omega arith, (refl, tt))
point_solid (Event e) fit = (decimal_nonempty e (omega arith), decimal_solid e (omega arith))

weight_solid : (z : ℤ) → IsWritableWeight z → (0 < length (signed_decimal z)) × Solid (signed_decimal z)
weight_solid (pos n) fit = (decimal_nonempty n (omega arith), decimal_solid n (omega arith))
weight_solid (negsuc n) fit = (omega arith, (refl, decimal_solid (suc n) (omega arith)))

last_word : (w : List ℕ) → 0 < length w → Solid w → words_of w ≡ w ∷ []
last_word w some solid = ap words_of (sym (append-nil w)) ∙ solid_then w [] some solid tt

own_words_are : (id : ℕ) (b : Bound) → id ≤ 65_535 → IsWritable b → words_of (own_text id b) ≡ codes "bound" ∷ decimal id ∷ point_text b.from ∷ point_text b.to ∷ signed_decimal b.w ∷ []
unfolding own_text
own_words_are id b le fit =
    let f = point_solid b.from fit.0 in
    let t = point_solid b.to fit.1 in
    let w = weight_solid b.w fit.2 in
    word_then 98 (codes "ound") (32 ∷ (decimal id ++ 32 ∷ (point_text b.from ++ 32 ∷ (point_text b.to ++ 32 ∷ signed_decimal b.w)))) refl (refl, (refl, (refl, (refl, tt)))) refl
    ∙ ap (λ (ws : List (List ℕ)). codes "bound" ∷ ws) (decimal_then id (32 ∷ (point_text b.from ++ 32 ∷ (point_text b.to ++ 32 ∷ signed_decimal b.w))) (omega arith) refl
    ∙ ap (λ (ws : List (List ℕ)). decimal id ∷ ws) (solid_then (point_text b.from) (32 ∷ (point_text b.to ++ 32 ∷ signed_decimal b.w)) f.0 f.1 refl
    ∙ ap (λ (ws : List (List ℕ)). point_text b.from ∷ ws) (solid_then (point_text b.to) (32 ∷ signed_decimal b.w) t.0 t.1 refl
    ∙ ap (λ (ws : List (List ℕ)). point_text b.to ∷ ws) (last_word (signed_decimal b.w) w.0 w.1))))

own_tidy : (id : ℕ) (b : Bound) → id ≤ 65_535 → IsWritable b → Tidy (own_text id b)
unfolding own_text
own_tidy id b le fit =
    tidy_join (codes "bound") (decimal id ++ 32 ∷ (point_text b.from ++ 32 ∷ (point_text b.to ++ 32 ∷ signed_decimal b.w))) (record { last = Other; reads = refl; ends = refl })
    (tidy_join (decimal id) (point_text b.from ++ 32 ∷ (point_text b.to ++ 32 ∷ signed_decimal b.w)) (tidy_number id (omega arith))
    (tidy_join (point_text b.from) (point_text b.to ++ 32 ∷ signed_decimal b.w) (point_tidy b.from fit.0)
    (tidy_join (point_text b.to) (signed_decimal b.w) (point_tidy b.to fit.1) (weight_tidy b.w fit.2))))

some_point : (t : Bool) (e : ℕ) → is_some (cond t (Some Origin) (Some (Event e))) ≡ true
some_point true e = refl
some_point false e = refl

point_reads : (p : Point) → IsWritablePoint p → is_some (point_of (point_text p)) ≡ true
point_reads Origin fit = refl
point_reads (Event e) fit =
    ap (λ o. is_some (cond (bytes_eq (decimal e) (codes "o")) (Some Origin) (option_map (λ k. Event k) o))) (event_back e fit) ∙ some_point (bytes_eq (decimal e) (codes "o")) e

both : (a b : Bool) → (a && b) ≡ true → (a ≡ true) × (b ≡ true)
both true b h = (refl, h)
both false b h = absurd (let f : ⊥ = cc in f)

plain_weight : (w : List ℕ) (n : ℕ) → list_all is_digit w ≡ true → 0 < length w → number_of w ≡ Some n → is_some (weight_of w) ≡ true
plain_weight [] n digits some is = absurd (let f : ⊥ = omega arith in f)
plain_weight (b ∷ bs) n digits some is =
    let p = both (is_digit b) (list_all is_digit bs) digits in
    let no_minus : nat_eq b 45 ≡ false = grind (arith, nat_tests, p.0) in
    rw (no_minus, is) refl

weight_reads : (z : ℤ) → IsWritableWeight z → is_some (weight_of (signed_decimal z)) ≡ true
weight_reads (pos n) fit = plain_weight (decimal n) n (decimal_digits n (omega arith)) (decimal_nonempty n (omega arith)) (number_back n (omega arith))
weight_reads (negsuc n) fit = rw (number_back (suc n) (omega arith)) refl

other_text : (xs ys : List ℕ) → (xs ≡ ys → ⊥) → bytes_eq xs ys ≡ false
other_text xs ys differs = by_case (bytes_eq xs ys) refl
  where
    by_case : (b : Bool) → bytes_eq xs ys ≡ b → bytes_eq xs ys ≡ false
    by_case false is = is
    by_case true is = absurd (differs ((bytes_eq-Decides xs ys).0 is))

no_minus_nothing : (z : ℤ) → IsWritableWeight z → bytes_eq (signed_decimal z) (codes "-0") ≡ false
no_minus_nothing (pos n) fit =
    other_text (decimal n) (codes "-0") (λ is. (let d : true ≡ false = sym (decimal_digits n (omega arith)) ∙ ap (list_all is_digit) is in let f : ⊥ = cc in f))
no_minus_nothing (negsuc n) fit =
    other_text (45 ∷ decimal (suc n)) (codes "-0") (λ is. (
    let tail : decimal (suc n) ≡ 48 ∷ [] = cc in
    let d : Some (suc n) ≡ Some 0 = sym (number_back (suc n) (omega arith)) ∙ ap number_of tail in
    let f : ⊥ = cc in f))

ends_read : (b : Bound) → IsWritable b → are_ends (point_text b.from) (point_text b.to) (signed_decimal b.w) ≡ true
ends_read b fit = rw (point_reads b.from fit.0, point_reads b.to fit.1, weight_reads b.w fit.2) refl

own_number : (id : ℕ) → nat_eq id id ≡ true
own_number id = grind (arith, nat_tests)

own_read : (id : ℕ) (b : Bound) → id ≤ 65_535 → IsWritable b → is_own_line id (own_text id b) ≡ true
own_read id b le fit =
    own_line_is id (own_text id b) (codes "bound") (decimal id) (point_text b.from) (point_text b.to) (signed_decimal b.w)
    (tidy_neat (own_text id b) (own_tidy id b le fit)) (own_words_are id b le fit) refl
    (rw (moment_back id (omega arith)) (own_number id)) (no_minus_nothing b.w fit.2)
    ∙ ends_read b fit

own_goes : (v e id k : ℕ) (b : Bound) → id < k → k ≤ 65_535 → IsWritable b → next_place (Own v e id k) (codes "bound " ++ decimal id ++ codes " " ++ bound_text b) ≡ Some (own_place v e (suc id) k)
own_goes v e id k b lt le fit =
    let in_count : nat_lt id k ≡ true = grind (arith, nat_tests) in
    let read : is_own_line id (codes "bound " ++ decimal id ++ codes " " ++ bound_text b) ≡ true = ap (is_own_line id) (own_same id b) ∙ own_read id b (omega arith) fit in
    let one : id + 1 ≡ suc id = omega arith in
    ap (λ t. cond (t && is_own_line id (codes "bound " ++ decimal id ++ codes " " ++ bound_text b)) (Some (own_place v e (id + 1) k)) None) in_count
    ∙ (ap (λ t. cond t (Some (own_place v e (id + 1) k)) None) read ∙ ap (λ n. Some (own_place v e n k)) one)

own_after : (v e id k : ℕ) (bs : List Bound) → id + length bs ≡ k → k ≤ 65_535 → All IsWritable bs → place_after (own_place v e id k) (own_lines id bs) ≡ Some (Lag v e 0)
own_after v e id k [] is le all =
    let over : nat_lt id k ≡ false = grind (arith, nat_tests, is) in ap (λ t. Some (cond t (Own v e id k) (Lag v e 0))) over
own_after v e id k (b ∷ bs) is le all =
    let lt : id < k = omega (arith, is) in
    let more : nat_lt id k ≡ true = grind (arith, nat_tests) in
    ap (λ t. place_after (cond t (Own v e id k) (Lag v e 0)) (own_lines id (b ∷ bs))) more
    ∙ (goes_on (Own v e id k) (own_place v e (suc id) k) (codes "bound " ++ decimal id ++ codes " " ++ bound_text b) (own_lines (suc id) bs) (own_goes v e id k b lt le (All-head IsWritable b bs all))
    ∙ own_after v e (suc id) k bs (omega (arith, is)) le (All-tail IsWritable b bs all))

kind_after : (v e : ℕ) (own : Option (List Bound)) → MatchOption own (Unit {0}) (λ bounds. (length bounds ≤ 65_535) × All IsWritable bounds) → place_after (Kind v e) (kind_lines own) ≡ Some (Lag v e 0)
kind_after v e None fit = refl
kind_after v e (Some bs) fit =
    goes_on (Kind v e) (own_place v e 0 (length bs)) (codes "own " ++ decimal (length bs)) (own_lines 0 bs) (kind_goes v e (length bs) fit.0)
    ∙ own_after v e 0 (length bs) bs (omega arith) fit.0 fit.1

-- ---- the lines of lags

lag_same : (p : ℕ × ℕ) → lag_line p ≡ codes "lag " ++ (decimal p.0 ++ 32 ∷ decimal p.1)
lag_same p = ap (λ (xs : List ℕ). codes "lag " ++ xs) (append_assoc (decimal p.0) (codes " ") (decimal p.1))

lag_words : (a b : ℕ) → a < 2 ^ 64 → b < 2 ^ 64 → words_of (codes "lag " ++ (decimal a ++ 32 ∷ decimal b)) ≡ codes "lag" ∷ decimal a ∷ decimal b ∷ []
lag_words a b p q =
    word_then 108 (codes "ag") (32 ∷ (decimal a ++ 32 ∷ decimal b)) refl (refl, (refl, tt)) refl ∙ ap (λ (ws : List (List ℕ)). codes "lag" ∷ ws) (two_words a b p q)

lag_told : (a b : ℕ) → a ≤ 65_535 → b ≤ 1_000_000_000 → lag_of (codes "lag " ++ (decimal a ++ 32 ∷ decimal b)) ≡ Some (a, b)
lag_told a b p q =
    ap (λ t. cond t (lag_from (words_of (codes "lag " ++ (decimal a ++ 32 ∷ decimal b)))) None)
    (tidy_neat (codes "lag " ++ (decimal a ++ 32 ∷ decimal b)) (tidy_join (codes "lag") (decimal a ++ 32 ∷ decimal b) (record { last = Other; reads = refl; ends = refl }) (two_tidy a b (omega arith) (omega arith))))
    ∙ (ap lag_from (lag_words a b (omega arith) (omega arith)) ∙ rw (event_back a p, moment_back b (omega arith)) refl)

may_come : (events least a b : ℕ) → least ≤ a → a < events → 0 < b → b ≤ 1_000_000_000 → may_lag events least (a, b) ≡ true
may_come events least a b low there some high =
    let p : nat_le least a ≡ true = grind (arith, nat_tests) in
    let q : nat_lt a events ≡ true = grind (arith, nat_tests) in
    let r : nat_lt 0 b ≡ true = grind (arith, nat_tests) in
    let s : nat_le b 1_000_000_000 ≡ true = grind (arith, nat_tests) in
    rw (p, q, r, s) refl

lag_goes : (v events least : ℕ) (p : ℕ × ℕ) → v ≡ 2 → events ≤ 1_024 → least ≤ p.0 → p.0 < events → 0 < p.1 → p.1 ≤ 1_000_000_000 → next_place (Lag v events least) (lag_line p) ≡ Some (Lag v events (p.0 + 1))
lag_goes v events least p is few low there some high =
    ap (next_place (Lag v events least)) (lag_same p)
    ∙ (ap (option_and_then (lag_place v events least)) (lag_told p.0 p.1 (omega arith) high)
    ∙ (ap (λ x. cond (nat_eq x 2 && may_lag events least (p.0, p.1)) (Some (Lag v events (p.0 + 1))) None) is
    ∙ ap (λ t. cond t (Some (Lag v events (p.0 + 1))) None) (may_come events least p.0 p.1 low there some high)))

-- the place to which the lines of lags lead
pub record LagsRead (v events least : ℕ) (ps : List (ℕ × ℕ)) : Type 0 where
  pub last : ℕ
  pub is : place_after (Lag v events least) (map lag_line ps) ≡ Some (Lag v events last)

some_pair : (p : ℕ × ℕ) (ps : List (ℕ × ℕ)) → p ∷ ps ≡ [] → ⊥
some_pair p ps is = let f : ⊥ = cc in f

lags_read : (v events least : ℕ) (ps : List (ℕ × ℕ)) → (v ≡ 2) ⊎ (ps ≡ []) → events ≤ 1_024 → AreLags least events ps → LagsRead v events least ps
lags_read v events least [] two few are = record { last = least; is = refl }
lags_read v events least (p ∷ ps) (inr none) few are = absurd (some_pair p ps none)
lags_read v events least (p ∷ ps) (inl two) few are =
    let rest = lags_read v events (p.0 + 1) ps (inl two) few are.4 in
    record {
      last = rest.last;
      is = goes_on (Lag v events least) (Lag v events (p.0 + 1)) (lag_line p) (map lag_line ps) (lag_goes v events least p two few are.0 are.1 are.2 are.3) ∙ rest.is;
    }

-- version 1 has no lags
lags_by_version : (h : Head) → IsHead h → (h.version ≡ 2) ⊎ (h.lags ≡ [])
lags_by_version h is = elim is.version [ inl one ↦ inr (is.first_version one) | inr two ↦ inl two ]

-- ---- a whole head

pub head_read : (h : Head) → IsHead h → (least : ℕ) × (place_after Start (head_lines h) ≡ Some (Lag h.version h.events least))
head_read h is =
    let l = lags_read h.version h.events 0 h.lags (lags_by_version h is) is.events is.lags in (
      l.last,
      goes_on Start (Network h.version) (codes "journal " ++ decimal h.version) ((codes "network " ++ decimal h.events ++ codes " " ++ decimal h.horizon) ∷ (kind_lines h.own ++ map lag_line h.lags)) (first_goes h.version is.version)
          ∙ (goes_on (Network h.version) (Kind h.version h.events) (codes "network " ++ decimal h.events ++ codes " " ++ decimal h.horizon) (kind_lines h.own ++ map lag_line h.lags) (network_goes h.version h.events h.horizon is.events is.horizon)
          ∙ (after_more (Kind h.version h.events) (kind_lines h.own) (map lag_line h.lags)
          ∙ (ap (option_and_then (λ q. place_after q (map lag_line h.lags))) (kind_after h.version h.events h.own is.own) ∙ l.is))),
    )

-- ---- a whole journal

pair_first : (version events least : ℕ) (e : Entry) → next_place (Lag version events least) (question_line e) ≡ next_place (Question version) (question_line e)
pair_first version events least None = refl
pair_first version events least (Some p) = refl

pairs_behind : (version events least : ℕ) (entries : List Entry) → place_after (Question version) (flat_map pair_lines entries) ≡ Some (Question version) → (place : Place) × (place_after (Lag version events least) (flat_map pair_lines entries) ≡ Some place) × (may_end place ≡ true)
pairs_behind version events least [] h = (Lag version events least, refl, refl)
pairs_behind version events least (e ∷ es) h = (
  Question version,
  ap (option_and_then (λ n. place_after n (answer_line e ∷ flat_map pair_lines es))) (pair_first version events least e) ∙ h,
  refl,
)

pub journal_read : (version : ℕ) (old new : Machine) (entries : List Entry) → IsWithin old → IsHead (head_of version old) → Runs version old entries new → (place : Place) × (place_after Start (journal_lines version old entries) ≡ Some place) × (may_end place ≡ true)
journal_read version old new entries within is runs =
    let h = head_read (head_of version old) is in
    let p = pairs_behind version (event_count old.setting) h.0 entries (pairs_form version old new entries within runs) in (
      p.0,
      after_more Start (head_lines (head_of version old)) (flat_map pair_lines entries)
          ∙ (ap (option_and_then (λ q. place_after q (flat_map pair_lines entries))) h.1 ∙ p.1),
      p.2,
    )
