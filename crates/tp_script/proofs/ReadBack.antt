-- A command that some line spells is read again from its one spelling.
use Rattle.std.proofs.Common.{◌≡◌, cond, ℕ, zero, suc, ◌+◌, ◌-◌, ◌*◌, ◌^◌, ◌<◌, ◌≤◌, Bool, true, false, ◌&&◌, List, [], ◌∷◌, ◌++◌, length, Option, Some, None, refl, ap, sym, ◌∙◌, subst, arith, decimal, codes, append-nil, append_assoc}
use Rattle.std.specs.Prelude.{ℤ, pos, negsuc, ◌-ℤ◌, nat_le, nat_eq}
use Rattle.std.specs.Fmt.{signed_decimal}
use Rattle.std.specs.List.{list_all}
use Rattle.std.specs.Option.{option_map, option_and_then}
use Rattle.std.specs.Str.{bytes_eq}
use Rattle.std.proofs.lemmas.Fmt.{decimal_nonempty}
use Rattle.std.proofs.lemmas.Slice.Eq.{bytes_eq-Decides}
use Rattle.std.proofs.lemmas.Bool.Decides.{nat_tests}
use Rattle.std.proofs.lemmas.Int.{ints}
use Rattle.std.proofs.Math.Nat.{pow-succ', pow-le-pow_right, mul-le-mul_right}
use Rattle.tp_bounds.specs.declared.Point.{Point}
use Rattle.tp_bounds.specs.declared.Point.TheVariants.{Origin, Event}
use Rattle.tp_bounds.specs.declared.Bound.{Bound}
use Rattle.tp_exec_machine.specs.declared.command.Command.{Command}
use Rattle.tp_exec_machine.specs.declared.command.Command.TheVariants.{Advance, Add, Withdraw, Window, Dispatch, Happened, Report}
use Rattle.tp_script.specs.Words.{words_of, number_of, is_digit, value_from}
use Rattle.tp_script.specs.Commands.{up_to, event_of, moment_of, point_of, weight_of, the_only, bound_spelled, pair_spelled, list_is_empty, command_from, command_of}
use Rattle.tp_script.specs.Written.{point_text, bound_text, command_text, IsSpelled}
use Rattle.tp_script.proofs.WordLemmas.{bound_is, pair_is}
use Rattle.tp_script.proofs.SpellLemmas.{Solid, word_then, solid_then, decimal_solid, decimal_then, decimal_digits, number_back, moment_back, event_back}

-- ---- what holds of each value that a reader answers

abbrev pub Gives : {X : Type 0} → (X → Type 0) → Option X → Type 0
Gives P None = Unit {0}
Gives P (Some x) = P x

gives : {X : Type 0} (P : X → Type 0) (o : Option X) (x : X) → Gives P o → o ≡ Some x → P x
gives P o x h is = subst (Gives P) is h

gives_if : {X : Type 0} (P : X → Type 0) (b : Bool) (o u : Option X) → Gives P o → Gives P u → Gives P (cond b o u)
gives_if P true o u p q = p
gives_if P false o u p q = q

gives_map : {X Y : Type 0} (P : X → Type 0) (Q : Y → Type 0) (f : X → Y) (o : Option X) → Gives P o → ((x : X) → P x → Q (f x)) → Gives Q (option_map f o)
gives_map P Q f None p h = tt
gives_map P Q f (Some x) p h = h x p

gives_then : {X Y : Type 0} (P : X → Type 0) (Q : Y → Type 0) (f : X → Option Y) (o : Option X) → Gives P o → ((x : X) → P x → Gives Q (f x)) → Gives Q (option_and_then f o)
gives_then P Q f None p h = tt
gives_then P Q f (Some x) p h = h x p

-- ---- numbers that words spell

both : (a b : Bool) → (a && b) ≡ true → (a ≡ true) × (b ≡ true)
both true b h = (refl, h)
both false b h = absurd (let f : ⊥ = cc in f)

value_below : (n : ℕ) (w : List ℕ) → list_all is_digit w ≡ true → value_from n w + 1 ≤ (n + 1) * 10 ^ length w
value_below n [] digits = omega arith
value_below n (b ∷ bs) digits =
    let p = both (is_digit b) (list_all is_digit bs) digits in
    let digit : b ≤ 57 = grind (arith, nat_tests, p.0) in
    let rest : value_from (10 * n + (b - 48)) bs + 1 ≤ ((10 * n + (b - 48)) + 1) * 10 ^ length bs = value_below (10 * n + (b - 48)) bs p.1 in
    let more : ((10 * n + (b - 48)) + 1) * 10 ^ length bs ≤ (10 * (n + 1)) * 10 ^ length bs = mul-le-mul_right (10 ^ length bs) (omega arith) in
    let power : 10 ^ suc (length bs) ≡ 10 * 10 ^ length bs = pow-succ' 10 (length bs) in
    let same : (10 * (n + 1)) * 10 ^ length bs ≡ (n + 1) * (10 * 10 ^ length bs) = grind arith in
    omega (arith, rest, more, same, ap (λ k. (n + 1) * k) power)

gives_test : {X : Type 0} (P : X → Type 0) (b : Bool) (x : X) → (b ≡ true → P x) → Gives P (cond b (Some x) None)
gives_test P true x h = h refl
gives_test P false x h = tt

number_gives : (w : List ℕ) → Gives (λ n. n < 10 ^ 10) (number_of w)
number_gives w =
    gives_test (λ n. n < 10 ^ 10) (nat_le 1 (length w) && (nat_le (length w) 10 && list_all is_digit w)) (value_from 0 w) (λ is. (
    let p = both (nat_le 1 (length w)) (nat_le (length w) 10 && list_all is_digit w) is in
    let q = both (nat_le (length w) 10) (list_all is_digit w) p.1 in
    let few : length w ≤ 10 = grind (arith, nat_tests, q.0) in
    let below : value_from 0 w + 1 ≤ (0 + 1) * 10 ^ length w = value_below 0 w q.1 in
    let most : 10 ^ length w ≤ 10 ^ 10 = pow-le-pow_right {n = 10} (omega arith) few in
    omega (arith, below, most)))

up_to_gives : (most : ℕ) (o : Option ℕ) → Gives (λ n. n ≤ most) (up_to most o)
up_to_gives most None = tt
up_to_gives most (Some n) = gives_test (λ k. k ≤ most) (nat_le n most) n (λ is. grind (arith, nat_tests, is))

-- ---- what holds of each command that a line spells

abbrev pub FitsPoint : Point → Type 0
FitsPoint Origin = Unit {0}
FitsPoint (Event e) = e ≤ 65_535

abbrev pub FitsWeight : ℤ → Type 0
FitsWeight (pos n) = n < 10 ^ 10
FitsWeight (negsuc n) = suc n < 10 ^ 10

abbrev pub FitsBound : Bound → Type 0
FitsBound b = FitsPoint b.from × FitsPoint b.to × FitsWeight b.w

abbrev pub FitsCommand : Command → Type 0
FitsCommand (Advance to) = to ≤ 4_294_967_295
FitsCommand (Add b) = FitsBound b
FitsCommand (Withdraw id) = id.0 ≤ 4_294_967_295
FitsCommand (Window e) = e ≤ 65_535
FitsCommand (Dispatch e) = e ≤ 65_535
FitsCommand (Happened e moment) = (e ≤ 65_535) × (moment ≤ 4_294_967_295)
FitsCommand Report = Unit {0}

event_gives : (w : List ℕ) → Gives (λ e. e ≤ 65_535) (event_of w)
event_gives w = up_to_gives 65_535 (number_of w)

moment_gives : (w : List ℕ) → Gives (λ n. n ≤ 4_294_967_295) (moment_of w)
moment_gives w = up_to_gives 4_294_967_295 (number_of w)

point_gives : (w : List ℕ) → Gives FitsPoint (point_of w)
point_gives w =
    gives_if FitsPoint (bytes_eq w (codes "o")) (Some Origin) (option_map (λ e. Event e) (event_of w)) tt
    (gives_map (λ e. e ≤ 65_535) FitsPoint (λ e. Event e) (event_of w) (event_gives w) (λ e h. h))

minus_is : (k : ℕ) → pos 0 -ℤ pos (suc k) ≡ negsuc k
minus_is k = omega (arith, ints)

minus_fits : (n : ℕ) → n < 10 ^ 10 → FitsWeight (pos 0 -ℤ pos n)
minus_fits zero h = h
minus_fits (suc n) h = subst FitsWeight (sym (minus_is n)) h

weight_gives : (w : List ℕ) → Gives FitsWeight (weight_of w)
weight_gives [] = tt
weight_gives (b ∷ bs) =
    gives_if FitsWeight (nat_eq b 45) (option_map (λ n. pos 0 -ℤ pos n) (number_of bs)) (option_map (λ n. pos n) (number_of (b ∷ bs)))
    (gives_map (λ n. n < 10 ^ 10) FitsWeight (λ n. pos 0 -ℤ pos n) (number_of bs) (number_gives bs) minus_fits)
    (gives_map (λ n. n < 10 ^ 10) FitsWeight (λ n. pos n) (number_of (b ∷ bs)) (number_gives (b ∷ bs)) (λ n h. h))

bound_gives : (ws : List (List ℕ)) → Gives FitsBound (bound_spelled ws)
bound_gives [] = tt
bound_gives (f ∷ []) = tt
bound_gives (f ∷ t ∷ []) = tt
bound_gives (f ∷ t ∷ w ∷ []) =
    gives_then FitsPoint FitsBound (λ from. option_and_then (λ to. option_map (λ weight. record { from = from; to = to; w = weight }) (weight_of w)) (point_of t)) (point_of f) (point_gives f)
    (λ from a. gives_then FitsPoint FitsBound (λ to. option_map (λ weight. record { from = from; to = to; w = weight }) (weight_of w)) (point_of t) (point_gives t)
    (λ to b. gives_map FitsWeight FitsBound (λ weight. record { from = from; to = to; w = weight }) (weight_of w) (weight_gives w) (λ weight c. (a, b, c))))
bound_gives (f ∷ t ∷ w ∷ v ∷ ws) = tt

abbrev FitsPair : ℕ × ℕ → Type 0
FitsPair p = (p.0 ≤ 65_535) × (p.1 ≤ 4_294_967_295)

pair_gives : (ws : List (List ℕ)) → Gives FitsPair (pair_spelled ws)
pair_gives [] = tt
pair_gives (e ∷ []) = tt
pair_gives (e ∷ m ∷ []) =
    gives_then (λ k. k ≤ 65_535) FitsPair (λ event. option_map (λ moment. (event, moment)) (moment_of m)) (event_of e) (event_gives e)
    (λ event a. gives_map (λ k. k ≤ 4_294_967_295) FitsPair (λ moment. (event, moment)) (moment_of m) (moment_gives m) (λ moment b. (a, b)))
pair_gives (e ∷ m ∷ w ∷ ws) = tt

only_gives : (P : ℕ → Type 0) (read : List ℕ → Option ℕ) → ((w : List ℕ) → Gives P (read w)) → (ws : List (List ℕ)) → Gives P (option_and_then read (the_only ws))
only_gives P read h [] = tt
only_gives P read h (w ∷ []) = h w
only_gives P read h (w ∷ v ∷ ws) = tt

report_gives : (ws : List (List ℕ)) → Gives FitsCommand (cond (list_is_empty ws) (Some Report) None)
report_gives [] = tt
report_gives (w ∷ ws) = tt

command_gives : (ws : List (List ℕ)) → Gives FitsCommand (command_from ws)
command_gives [] = tt
command_gives (name ∷ ws) =
    gives_if FitsCommand (bytes_eq name (codes "advance")) _ _ (gives_map (λ n. n ≤ 4_294_967_295) FitsCommand Advance (option_and_then moment_of (the_only ws)) (only_gives (λ n. n ≤ 4_294_967_295) moment_of moment_gives ws) (λ n h. h))
    (gives_if FitsCommand (bytes_eq name (codes "add")) _ _ (gives_map FitsBound FitsCommand Add (bound_spelled ws) (bound_gives ws) (λ b h. h))
    (gives_if FitsCommand (bytes_eq name (codes "withdraw")) _ _ (gives_map (λ n. n ≤ 4_294_967_295) FitsCommand (λ id. Withdraw (record { 0 = id })) (option_and_then moment_of (the_only ws)) (only_gives (λ n. n ≤ 4_294_967_295) moment_of moment_gives ws) (λ n h. h))
    (gives_if FitsCommand (bytes_eq name (codes "window")) _ _ (gives_map (λ n. n ≤ 65_535) FitsCommand Window (option_and_then event_of (the_only ws)) (only_gives (λ n. n ≤ 65_535) event_of event_gives ws) (λ n h. h))
    (gives_if FitsCommand (bytes_eq name (codes "dispatch")) _ _ (gives_map (λ n. n ≤ 65_535) FitsCommand Dispatch (option_and_then event_of (the_only ws)) (only_gives (λ n. n ≤ 65_535) event_of event_gives ws) (λ n h. h))
    (gives_if FitsCommand (bytes_eq name (codes "happened")) _ _ (gives_map FitsPair FitsCommand (λ p. Happened p.0 p.1) (pair_spelled ws) (pair_gives ws) (λ p h. h))
    (gives_if FitsCommand (bytes_eq name (codes "report")) _ _ (report_gives ws) tt))))))

pub fits_spelled : (line : List ℕ) (command : Command) → command_of line ≡ Some command → FitsCommand command
fits_spelled line command is = gives FitsCommand (command_of line) command (command_gives (words_of line)) is

-- ---- what is written is read

not_o : (n : ℕ) → n ≤ 65_535 → bytes_eq (decimal n) (codes "o") ≡ false
not_o n le = by_case (bytes_eq (decimal n) (codes "o")) refl
  where
    by_case : (b : Bool) → bytes_eq (decimal n) (codes "o") ≡ b → bytes_eq (decimal n) (codes "o") ≡ false
    by_case false is = is
    by_case true is =
        let same : decimal n ≡ codes "o" = (bytes_eq-Decides (decimal n) (codes "o")).0 is in
        let none : Some n ≡ None = sym (event_back n le) ∙ ap event_of same in
        absurd (let f : ⊥ = cc in f)

point_back : (p : Point) → FitsPoint p → point_of (point_text p) ≡ Some p
point_back Origin fit = refl
point_back (Event e) fit = rw (not_o e fit, event_back e fit) refl

positive : (w : List ℕ) (n : ℕ) → list_all is_digit w ≡ true → 0 < length w → number_of w ≡ Some n → weight_of w ≡ Some (pos n)
positive [] n digits some is = absurd (let f : ⊥ = omega arith in f)
positive (b ∷ bs) n digits some is =
    let p = both (is_digit b) (list_all is_digit bs) digits in
    let no_minus : nat_eq b 45 ≡ false = grind (arith, nat_tests, p.0) in
    ap (λ t. cond t (option_map (λ k. pos 0 -ℤ pos k) (number_of bs)) (option_map (λ k. pos k) (number_of (b ∷ bs)))) no_minus ∙ ap (option_map (λ k. pos k)) is

weight_back : (z : ℤ) → FitsWeight z → weight_of (signed_decimal z) ≡ Some z
weight_back (pos n) fit = let small : n < 2 ^ 64 = omega arith in positive (decimal n) n (decimal_digits n small) (decimal_nonempty n small) (number_back n fit)
weight_back (negsuc n) fit = ap (option_map (λ k. pos 0 -ℤ pos k)) (number_back (suc n) fit) ∙ ap Some (minus_is n)

point_solid : (p : Point) → FitsPoint p → (0 < length (point_text p)) × Solid (point_text p)
point_solid Origin fit = (omega arith, (refl, tt))
point_solid (Event e) fit = (decimal_nonempty e (omega arith), decimal_solid e (omega arith))

weight_solid : (z : ℤ) → FitsWeight z → (0 < length (signed_decimal z)) × Solid (signed_decimal z)
weight_solid (pos n) fit = (decimal_nonempty n (omega arith), decimal_solid n (omega arith))
weight_solid (negsuc n) fit = (omega arith, (refl, decimal_solid (suc n) (omega arith)))

-- a word at the end of a line
last_word : (w : List ℕ) → 0 < length w → Solid w → words_of w ≡ w ∷ []
last_word [] some solid = absurd (let f : ⊥ = omega arith in f)
last_word (b ∷ bs) some solid = ap words_of (sym (append-nil (b ∷ bs))) ∙ word_then b bs [] solid.0 solid.1 tt

number_words : (n : ℕ) → n < 2 ^ 64 → words_of (decimal n) ≡ decimal n ∷ []
number_words n small = last_word (decimal n) (decimal_nonempty n small) (decimal_solid n small)

bound_words : (b : Bound) → FitsBound b → words_of (bound_text b) ≡ point_text b.from ∷ point_text b.to ∷ signed_decimal b.w ∷ []
bound_words b fit =
    let f = point_solid b.from fit.0 in
    let t = point_solid b.to fit.1 in
    let w = weight_solid b.w fit.2 in
    let whole : point_text b.from ++ codes " " ++ point_text b.to ++ codes " " ++ signed_decimal b.w ≡ point_text b.from ++ (codes " " ++ (point_text b.to ++ (codes " " ++ signed_decimal b.w))) =
    append_assoc (point_text b.from ++ codes " " ++ point_text b.to) (codes " ") (signed_decimal b.w) ∙ (append_assoc (point_text b.from ++ codes " ") (point_text b.to) (codes " " ++ signed_decimal b.w) ∙ append_assoc (point_text b.from) (codes " ") (point_text b.to ++ (codes " " ++ signed_decimal b.w))) in
    ap words_of whole
    ∙ (solid_then (point_text b.from) (codes " " ++ (point_text b.to ++ (codes " " ++ signed_decimal b.w))) f.0 f.1 refl
    ∙ ap (λ (ws : List (List ℕ)). point_text b.from ∷ ws) (solid_then (point_text b.to) (codes " " ++ signed_decimal b.w) t.0 t.1 refl
    ∙ ap (λ (ws : List (List ℕ)). point_text b.to ∷ ws) (last_word (signed_decimal b.w) w.0 w.1)))

pair_words : (e moment : ℕ) → e < 2 ^ 64 → moment < 2 ^ 64 → words_of (decimal e ++ codes " " ++ decimal moment) ≡ decimal e ∷ decimal moment ∷ []
pair_words e moment a b =
    ap words_of (append_assoc (decimal e) (codes " ") (decimal moment))
    ∙ (decimal_then e (codes " " ++ decimal moment) a refl ∙ ap (λ (ws : List (List ℕ)). decimal e ∷ ws) (number_words moment b))

read_back : (command : Command) → FitsCommand command → command_of (command_text command) ≡ Some command
read_back (Advance to) fit =
    ap command_from (word_then 97 (codes "dvance") (32 ∷ decimal to) refl (refl, (refl, (refl, (refl, (refl, (refl, tt)))))) refl ∙ ap (λ (ws : List (List ℕ)). codes "advance" ∷ ws) (number_words to (omega arith)))
    ∙ ap (option_map Advance) (moment_back to fit)
read_back (Add b) fit =
    ap command_from (word_then 97 (codes "dd") (32 ∷ bound_text b) refl (refl, (refl, tt)) refl ∙ ap (λ (ws : List (List ℕ)). codes "add" ∷ ws) (bound_words b fit))
    ∙ ap (option_map Add) (bound_is (point_text b.from) (point_text b.to) (signed_decimal b.w) b.from b.to b.w (point_back b.from fit.0) (point_back b.to fit.1) (weight_back b.w fit.2))
read_back (Withdraw id) fit =
    ap command_from (word_then 119 (codes "ithdraw") (32 ∷ decimal id.0) refl (refl, (refl, (refl, (refl, (refl, (refl, (refl, tt))))))) refl ∙ ap (λ (ws : List (List ℕ)). codes "withdraw" ∷ ws) (number_words id.0 (omega arith)))
    ∙ ap (option_map (λ n. Withdraw (record { 0 = n }))) (moment_back id.0 fit)
read_back (Window e) fit =
    ap command_from (word_then 119 (codes "indow") (32 ∷ decimal e) refl (refl, (refl, (refl, (refl, (refl, tt))))) refl ∙ ap (λ (ws : List (List ℕ)). codes "window" ∷ ws) (number_words e (omega arith)))
    ∙ ap (option_map Window) (event_back e fit)
read_back (Dispatch e) fit =
    ap command_from (word_then 100 (codes "ispatch") (32 ∷ decimal e) refl (refl, (refl, (refl, (refl, (refl, (refl, (refl, tt))))))) refl ∙ ap (λ (ws : List (List ℕ)). codes "dispatch" ∷ ws) (number_words e (omega arith)))
    ∙ ap (option_map Dispatch) (event_back e fit)
read_back (Happened e moment) fit =
    ap command_from (word_then 104 (codes "appened") (32 ∷ (decimal e ++ codes " " ++ decimal moment)) refl (refl, (refl, (refl, (refl, (refl, (refl, (refl, tt))))))) refl ∙ ap (λ (ws : List (List ℕ)). codes "happened" ∷ ws) (pair_words e moment (omega arith) (omega arith)))
    ∙ ap (option_map (λ p. Happened p.0 p.1)) (pair_is (decimal e) (decimal moment) e moment (event_back e fit.0) (moment_back moment fit.1))
read_back Report fit = refl

pub read_again : (command : Command) → IsSpelled command → command_of (command_text command) ≡ Some command
read_again command spelled = read_back command (fits_spelled spelled.0 command spelled.1)
