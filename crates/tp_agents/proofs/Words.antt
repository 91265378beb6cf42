-- Words that are read one after another.
use Rattle.std.proofs.Common.{◌≡◌, ℕ, ◌+◌, ◌<◌, ◌==◌, Bool, true, false, cond, nat_le, List, [], ◌∷◌, ◌++◌, length, map, take, drop, get_or, slice_get, Option, Some, None, refl, sym, ap, subst, ◌∙◌, arith}
use Rattle.std.specs.List.{All, filter, slice_split}
use Rattle.std.specs.Str.Parse.{digits_value}
use Rattle.std.proofs.lemmas.Bool.Decides.{nat_tests}
use Rattle.std.specs.Iterator.{Yields}
use Rattle.std.proofs.lemmas.Iterator.{YieldsList}
use Rattle.std.proofs.lemmas.Iterator.Consumers.{YieldsList-so_far, YieldsList-turn}
use Rattle.std.proofs.lemmas.Option.{cond_some}
use Rattle.std.proofs.lemmas.List.{take-append-drop, drop_more, take_at, length-map, map_push, append-nil}
use Rattle.std.proofs.lemmas.List.Elements.{All-push, All-nil}
use Rattle.tp_agents.specs.declared.fault.SplitFault.{SplitFault}
use Rattle.tp_agents.specs.declared.fault.SplitFault.TheVariants.{Memory, Owner, Conflict}
use Rattle.tp_agents.specs.Texts.{is_blank, words_of, is_number, number_of, AreNumbers, TellsWord, IsUnread}

abbrev pub is_word : List ℕ → Bool
is_word w = nat_le 1 (length w)

-- those pieces that are words
abbrev pub words_in : List (List ℕ) → List (List ℕ)
words_in ps = filter (λ w. nat_le 1 (length w)) ps

-- the words of the pieces are numbers, and these are their values
pub record AreRead (ps : List (List ℕ)) (numbers : List ℕ) : Type 0 where
  pub all : All (λ w. is_number w ≡ true) (words_in ps)
  pub values : numbers ≡ map (digits_value 10) (words_in ps)

picked : {X : Type 0} (b : Bool) (x : X) (xs ys : List X) → cond b (x ∷ (xs ++ ys)) (xs ++ ys) ≡ cond b (x ∷ xs) xs ++ ys
picked true x xs ys = refl
picked false x xs ys = refl

words_both : (ps qs : List (List ℕ)) → words_in (ps ++ qs) ≡ words_in ps ++ words_in qs
words_both [] qs = refl
words_both (p ∷ ps) qs = ap (λ (r : List (List ℕ)). cond (is_word p) (p ∷ r) r) (words_both ps qs) ∙ picked (is_word p) p (words_in ps) (words_in qs)

one_word : (w : List ℕ) (rest : List (List ℕ)) → is_word w ≡ true → words_in (w ∷ rest) ≡ w ∷ words_in rest
one_word w rest is = ap (λ b. cond b (w ∷ words_in rest) (words_in rest)) is

no_word : (w : List ℕ) (rest : List (List ℕ)) → is_word w ≡ false → words_in (w ∷ rest) ≡ words_in rest
no_word w rest is = ap (λ b. cond b (w ∷ words_in rest) (words_in rest)) is

pub read_none : AreRead [] []
read_none = record { all = All-nil (λ w. is_number w ≡ true); values = refl }

pub read_blank : (ps : List (List ℕ)) (ns : List ℕ) (w : List ℕ) → is_word w ≡ false → AreRead ps ns → AreRead (ps ++ w ∷ []) ns
read_blank ps ns w is r =
    let same : words_in (ps ++ w ∷ []) ≡ words_in ps = words_both ps (w ∷ []) ∙ (ap (λ (l : List (List ℕ)). words_in ps ++ l) (no_word w [] is) ∙ append-nil (words_in ps)) in
    record {
      all = subst (All (λ w. is_number w ≡ true)) (sym same) r.all;
      values = r.values ∙ ap (map (digits_value 10)) (sym same);
    }

is_numbered : (w : List ℕ) (n : ℕ) → number_of w ≡ Some n → (is_number w ≡ true) × (digits_value 10 w ≡ n)
is_numbered w n h = cond_some (is_number w) (digits_value 10 w) n h

pub read_more : (ps : List (List ℕ)) (ns : List ℕ) (w : List ℕ) (n : ℕ) → is_word w ≡ true → number_of w ≡ Some n → AreRead ps ns → AreRead (ps ++ w ∷ []) (ns ++ n ∷ [])
read_more ps ns w n is gives r =
    let more : words_in (ps ++ w ∷ []) ≡ words_in ps ++ w ∷ [] = words_both ps (w ∷ []) ∙ ap (λ (l : List (List ℕ)). words_in ps ++ l) (one_word w [] is) in
    let k = is_numbered w n gives in
    record {
      all = subst (All (λ w. is_number w ≡ true)) (sym more) (All-push (λ w. is_number w ≡ true) (words_in ps) w r.all k.0);
      values =
          ap (λ (l : List ℕ). l ++ n ∷ []) r.values
          ∙ (ap (λ m. map (digits_value 10) (words_in ps) ++ m ∷ []) (sym k.1)
          ∙ (sym (map_push (digits_value 10) (words_in ps) w) ∙ ap (map (digits_value 10)) (sym more)));
    }

-- all pieces of a text are read
pub read_all : (bytes : List ℕ) (ps : List (List ℕ)) (ns : List ℕ) → ps ≡ slice_split is_blank bytes → AreRead ps ns → AreNumbers (words_of bytes) ns
read_all bytes ps ns is r =
    record {
      all = subst (λ (l : List (List ℕ)). All (λ w. is_number w ≡ true) (words_in l)) is r.all;
      values = r.values ∙ ap (λ (l : List (List ℕ)). map (digits_value 10) (words_in l)) is;
    }

no_number : (b : Bool) (n : ℕ) → cond b (Some n) None ≡ None → b ≡ false
no_number true n h = absurd (let f : ⊥ = cc in f)
no_number false n h = refl

slice_get_at : {X : Type 0} (xs ys : List X) (x : X) → slice_get (xs ++ x ∷ ys) (length xs) ≡ Some x
slice_get_at [] ys x = refl
slice_get_at (z ∷ zs) ys x = slice_get_at zs ys x

-- the first word that is no number
pub read_other : (all ps : List (List ℕ)) (ns : List ℕ) (w : List ℕ) → ps ≡ take (length ps) all → length ps < length all → w ≡ get_or all (length ps) w → is_word w ≡ true → number_of w ≡ None → AreRead ps ns → (f : SplitFault) → TellsWord (length ns) f → IsUnread (words_in all) f
read_other all ps ns w front lt here is none r Memory h = tt
read_other all ps ns w front lt here is none r (Conflict reason) h = absurd h
read_other all ps ns w front lt here is none r (Owner k) h =
    let rest : List (List ℕ) = drop (length ps + 1) all in
    let at : all ≡ ps ++ w ∷ rest =
    sym (take-append-drop (length ps) all)
    ∙ (ap (λ (l : List (List ℕ)). l ++ drop (length ps) all) (sym front)
    ∙ (ap (λ (l : List (List ℕ)). ps ++ l) (drop_more all (length ps) w lt)
    ∙ ap (λ (v : List ℕ). ps ++ v ∷ rest) (sym here))) in
    let split : words_in all ≡ words_in ps ++ w ∷ words_in rest = ap words_in at ∙ (words_both ps (w ∷ rest) ∙ ap (λ (l : List (List ℕ)). words_in ps ++ l) (one_word w rest is)) in
    let count : k ≡ length (words_in ps) = h ∙ (ap length r.values ∙ length-map (words_in ps) (digits_value 10)) in
    let before : take k (words_in all) ≡ words_in ps = ap (take k) split ∙ take_at (words_in ps) (w ∷ words_in rest) k (sym count) in
    record {
      before = subst (All (λ w. is_number w ≡ true)) (sym before) r.all;
      word = w;
      there = ap (slice_get (words_in all)) count ∙ (ap (λ (l : List (List ℕ)). slice_get l (length (words_in ps))) split ∙ slice_get_at (words_in ps) (words_in rest) w);
      other = no_number (is_number w) (digits_value 10 w) none;
    }

pub blank_word : (w : List ℕ) → (length w == 0) ≡ true → is_word w ≡ false
blank_word w h = grind (arith, nat_tests)

pub some_word : (w : List ℕ) → (length w == 0) ≡ false → is_word w ≡ true
some_word w h = grind (arith, nat_tests)

-- the pieces as references show them: one more is blank
pub blank_more : {X : Type 0} (v : X → List ℕ) (xs : List X) (x : X) (ns : List ℕ) → (length (v x) == 0) ≡ true → AreRead (map v xs) ns
    → AreRead (map v (xs ++ x ∷ [])) ns
blank_more v xs x ns is r =
    subst (λ ps. AreRead ps ns) (sym (map_push v xs x)) (read_blank (map v xs) ns (v x) (blank_word (v x) is) r)

-- one more is a number
pub number_more : {X : Type 0} (v : X → List ℕ) (xs : List X) (x : X) (ns : List ℕ) (n : ℕ)
    → (length (v x) == 0) ≡ false → number_of (v x) ≡ Some n → AreRead (map v xs) ns
    → AreRead (map v (xs ++ x ∷ [])) (ns ++ n ∷ [])
number_more v xs x ns n is gives r =
    subst (λ ps. AreRead ps (ns ++ n ∷ [])) (sym (map_push v xs x))
    (read_more (map v xs) ns (v x) n (some_word (v x) is) gives r)

-- the next is no number
pub other_next : {S A : Type 0} {steps : S → Option A → S → Type 0} {v : A → List ℕ} {s : S} {all : List (List ℕ)}
    (road : YieldsList steps v s all) (xs : List A) (t : S) (y : Yields steps s xs t) (r : Option A) (u : S) (x : A) → r ≡ Some x → steps t r u → (ns : List ℕ)
    → (length (v x) == 0) ≡ false → number_of (v x) ≡ None → AreRead (map v xs) ns
    → (f : SplitFault) → TellsWord (length ns) f → IsUnread (words_in all) f
other_next {v = v} {all = all} road xs t y r u x is step ns some none read f tells =
    let n : length (map v xs) ≡ length xs = length-map xs v in
    let turn = YieldsList-turn road xs t y r u x is step in
    read_other all (map v xs) ns (v x) (YieldsList-so_far road xs t y ∙ ap (λ k. take k all) (sym n))
    (subst (λ k. k < length all) (sym n) turn.0) (turn.1 ∙ ap (λ k. get_or all k (v x)) (sym n))
    (some_word (v x) some) none read f tells
