-- Names and variables that were read are spelled by themselves.
use Rattle.std.proofs.Common.{◌≡◌, ℕ, List, [], ◌∷◌, Bool, true, false, cond, ◌&&◌, Option, Some, None, option_map, unwrap_or, refl, sym, ap, ◌∙◌, subst, eqb, leb, not, arith}
use Rattle.std.specs.List.{list_all, AllByRecursion}
use Rattle.std.specs.Char.{is_ascii_alphabetic, to_ascii_lowercase}
use Rattle.std.proofs.lemmas.Bool.{and_parts, and_from, and_left, leb-true, eqb-false, not-true}
use Rattle.std.proofs.lemmas.Bool.Decides.{nat_tests}
use Rattle.std.proofs.lemmas.Str.Ascii.{lowercase-lowercase}
use Rattle.tp_text.specs.Shapes.{Shape, leaf, node, Shapes, no_shapes, shape}
use Rattle.tp_text.specs.Texts.{IsWord, HasWords, AllHaveWords}
use Rattle.tp_text.proofs.OnWords.{IsWordByte, bytes_word}
use Rattle.tp_syntax_ast.specs.Gives.{◌>>=◌, provided}
use Rattle.tp_syntax_ast.specs.Words.{lower, is_word}
use Rattle.tp_syntax_ast.specs.Terms.{Argument, object, variable, is_name, is_inner, is_variable, name_of, variable_of, term_of, term_at, terms_of}
use Rattle.tp_syntax_print.specs.Printing.{argument_shape, argument_shapes}

-- ---- what a reading that went well says of its steps

none_is_not : {A : Type 0} (x : A) → None ≡ Some x → ⊥
none_is_not x h = cc

pub some_is : {A : Type 0} (x y : A) → Some x ≡ Some y → x ≡ y
some_is x y h = ap (λ o. unwrap_or o x) h

pub bind_some : {A B : Type 0} (o : Option A) (f : A → Option B) (y : B) → (o >>= f) ≡ Some y → (x : A) × (o ≡ Some x) × (f x ≡ Some y)
bind_some (Some x) f y h = (x, refl, h)
bind_some None f y h = absurd (none_is_not y h)

pub map_some : {A B : Type 0} (f : A → B) (o : Option A) (y : B) → option_map f o ≡ Some y → (x : A) × (o ≡ Some x) × (f x ≡ y)
map_some f (Some x) y h = (x, refl, some_is (f x) y h)
map_some f None y h = absurd (none_is_not y h)

pub provided_some : {A : Type 0} (b : Bool) (x y : A) → provided b x ≡ Some y → (b ≡ true) × (x ≡ y)
provided_some true x y h = (refl, some_is x y h)
provided_some false x y h = absurd (none_is_not y h)

pub no_some : {A B : Type 0} {x : A} → None ≡ Some x → B
no_some {A} {B} {x} h = absurd (none_is_not x h)

pub cond_some : {A : Type 0} (b : Bool) (o : Option A) (y : A) → cond b o None ≡ Some y → (b ≡ true) × (o ≡ Some y)
cond_some true o y h = (refl, h)
cond_some false o y h = absurd (none_is_not y h)

-- ---- words in lower case

pub lower_lower : (w : List ℕ) → lower (lower w) ≡ lower w
lower_lower [] = refl
lower_lower (b ∷ w) = ap (λ (c : ℕ). c ∷ lower (lower w)) (lowercase-lowercase b) ∙ ap (λ (v : List ℕ). to_ascii_lowercase b ∷ v) (lower_lower w)

lower_letter : (b : ℕ) → is_ascii_alphabetic b ≡ true → is_ascii_alphabetic (to_ascii_lowercase b) ≡ true
lower_letter b h = grind (arith, nat_tests)

lower_inner : (b : ℕ) → is_inner b ≡ true → is_inner (to_ascii_lowercase b) ≡ true
lower_inner b h = grind (arith, nat_tests)

lower_all_inner : (w : List ℕ) → list_all is_inner w ≡ true → list_all is_inner (lower w) ≡ true
lower_all_inner [] h = refl
lower_all_inner (b ∷ w) h =
    let p = and_parts (is_inner b) (list_all is_inner w) h in
    and_from (is_inner (to_ascii_lowercase b)) (list_all is_inner (lower w)) (lower_inner b p.0) (lower_all_inner w p.1)

pub lower_name : (w : List ℕ) → is_name w ≡ true → is_name (lower w) ≡ true
lower_name [] h = h
lower_name (b ∷ w) h =
    let p = and_parts (is_ascii_alphabetic b) (list_all is_inner w) h in
    and_from (is_ascii_alphabetic (to_ascii_lowercase b)) (list_all is_inner (lower w)) (lower_letter b p.0) (lower_all_inner w p.1)

lower_mark : (b : ℕ) → eqb b 63 ≡ true → eqb (to_ascii_lowercase b) 63 ≡ true
lower_mark b h = grind (arith, nat_tests)

pub lower_variable : (w : List ℕ) → is_variable w ≡ true → is_variable (lower w) ≡ true
lower_variable [] h = h
lower_variable (b ∷ w) h =
    let p = and_parts (eqb b 63) (is_name w) h in
    and_from (eqb (to_ascii_lowercase b) 63) (is_name (lower w)) (lower_mark b p.0) (lower_name w p.1)

-- ---- names are words

letter_byte : (b : ℕ) → is_ascii_alphabetic b ≡ true → IsWordByte b
letter_byte b h = (
  grind (arith, nat_tests),
  grind (arith, nat_tests),
  λ e. let f : is_ascii_alphabetic 40 ≡ true = ap is_ascii_alphabetic (sym e) ∙ h in cc,
  λ e. let f : is_ascii_alphabetic 41 ≡ true = ap is_ascii_alphabetic (sym e) ∙ h in cc,
  λ e. let f : is_ascii_alphabetic 59 ≡ true = ap is_ascii_alphabetic (sym e) ∙ h in cc,
)

inner_byte : (b : ℕ) → is_inner b ≡ true → IsWordByte b
inner_byte b h = (
  grind (arith, nat_tests),
  grind (arith, nat_tests),
  λ e. let f : is_inner 40 ≡ true = ap is_inner (sym e) ∙ h in cc,
  λ e. let f : is_inner 41 ≡ true = ap is_inner (sym e) ∙ h in cc,
  λ e. let f : is_inner 59 ≡ true = ap is_inner (sym e) ∙ h in cc,
)

mark_byte : (b : ℕ) → eqb b 63 ≡ true → IsWordByte b
mark_byte b h = (
  grind (arith, nat_tests),
  grind (arith, nat_tests),
  λ e. let f : eqb 40 63 ≡ true = ap (λ (c : ℕ). eqb c 63) (sym e) ∙ h in cc,
  λ e. let f : eqb 41 63 ≡ true = ap (λ (c : ℕ). eqb c 63) (sym e) ∙ h in cc,
  λ e. let f : eqb 59 63 ≡ true = ap (λ (c : ℕ). eqb c 63) (sym e) ∙ h in cc,
)

all_bytes : (w : List ℕ) → list_all is_inner w ≡ true → AllByRecursion IsWordByte w
all_bytes [] h = tt
all_bytes (b ∷ w) h =
    let p = and_parts (is_inner b) (list_all is_inner w) h in
    (inner_byte b p.0, all_bytes w p.1)

name_bytes : (w : List ℕ) → is_name w ≡ true → AllByRecursion IsWordByte w
name_bytes [] h = tt
name_bytes (b ∷ w) h =
    let p = and_parts (is_ascii_alphabetic b) (list_all is_inner w) h in
    (letter_byte b p.0, all_bytes w p.1)

pub name_word : (w : List ℕ) → is_name w ≡ true → IsWord w
name_word [] h = absurd (let f : false ≡ true = h in cc)
name_word (b ∷ w) h = bytes_word b w (name_bytes (b ∷ w) h)

pub variable_word : (w : List ℕ) → is_variable w ≡ true → IsWord w
variable_word [] h = absurd (let f : false ≡ true = h in cc)
variable_word (b ∷ w) h =
    let p = and_parts (eqb b 63) (is_name w) h in
    bytes_word b w (mark_byte b p.0, name_bytes w p.1)

-- ---- names and variables again

-- a name in lower case, as it was read
pub record IsName (n : List ℕ) : Type 0 where
  pub signature : is_name n ≡ true
  pub is_lower : lower n ≡ n

pub record IsVariable (n : List ℕ) : Type 0 where
  pub signature : is_variable n ≡ true
  pub is_lower : lower n ≡ n

pub name_read : (w n : List ℕ) → name_of w ≡ Some n → (n ≡ lower w) × IsName n
unfolding name_of
name_read w n h =
    let p = provided_some (is_name w) (lower w) n h in
    (sym p.1, subst IsName p.1 (record { signature = lower_name w p.0; is_lower = lower_lower w }))

pub name_again : (n : List ℕ) → IsName n → name_of n ≡ Some n
unfolding name_of
name_again n is = ap (λ (b : Bool). cond b (Some (lower n)) None) is.signature ∙ ap Some is.is_lower

pub variable_read : (w n : List ℕ) → variable_of w ≡ Some n → (n ≡ lower w) × IsVariable n
unfolding variable_of
variable_read w n h =
    let p = provided_some (is_variable w) (lower w) n h in
    (sym p.1, subst IsVariable p.1 (record { signature = lower_variable w p.0; is_lower = lower_lower w }))

pub variable_again : (n : List ℕ) → IsVariable n → variable_of n ≡ Some n
unfolding variable_of
variable_again n is = ap (λ (b : Bool). cond b (Some (lower n)) None) is.signature ∙ ap Some is.is_lower

not_mark : (b : ℕ) → is_ascii_alphabetic b ≡ true → eqb b 63 ≡ false
not_mark b h = grind (arith, nat_tests)

-- a name begins with a letter, and so is no variable
pub no_variable : (n : List ℕ) → is_name n ≡ true → is_variable n ≡ false
no_variable [] h = refl
no_variable (b ∷ bs) h =
    let p = and_parts (is_ascii_alphabetic b) (list_all is_inner bs) h in
    and_left (eqb b 63) (is_name bs) (not_mark b p.0)

-- ---- terms again

unfoldable pub IsTerm : Argument → Type 0
IsTerm (object n) = IsName n
IsTerm (variable n) = IsVariable n

read_term : (b : Bool) (w : List ℕ) (t : Argument) → is_variable w ≡ b → cond b (Some (variable (lower w))) (option_map object (name_of w)) ≡ Some t → IsTerm t
unfolding IsTerm
read_term true w t is h = subst IsTerm (some_is (variable (lower w)) t h) (record { signature = lower_variable w is; is_lower = lower_lower w })
read_term false w t is h =
    let m = map_some object (name_of w) t h in
    subst IsTerm m.2 (name_read w m.0 m.1).1

pub term_read : (s : Shape) (t : Argument) → term_at s ≡ Some t → IsTerm t
unfolding term_at term_of
term_read (leaf w) t h = read_term (is_variable w) w t refl h
term_read (node ss) t h = no_some h

pub term_again : (t : Argument) → IsTerm t → term_at (argument_shape t) ≡ Some t
unfolding term_at term_of IsTerm
term_again (object n) is = ap (λ (b : Bool). cond b (Some (variable (lower n))) (option_map object (name_of n))) (no_variable n is.signature) ∙ ap (option_map object) (name_again n is)
term_again (variable n) is = ap (λ (b : Bool). cond b (Some (variable (lower n))) (option_map object (name_of n))) is.signature ∙ ap (λ (m : List ℕ). Some (variable m)) is.is_lower

pub term_words : (t : Argument) → IsTerm t → HasWords (argument_shape t)
unfolding IsTerm
term_words (object n) is = name_word n is.signature
term_words (variable n) is = variable_word n is.signature

pub terms_read : (ss : Shapes) (ts : List Argument) → terms_of ss ≡ Some ts → AllByRecursion IsTerm ts
unfolding terms_of
terms_read no_shapes ts h = subst (AllByRecursion IsTerm) (some_is [] ts h) tt
terms_read (shape s ss) ts h =
    let b = bind_some (term_at s) (λ t. option_map (λ us. t ∷ us) (terms_of ss)) ts h in
    let m = map_some (λ us. b.0 ∷ us) (terms_of ss) ts b.2 in
    subst (AllByRecursion IsTerm) m.2 (term_read s b.0 b.1, terms_read ss m.0 m.1)

pub terms_again : (ss : Shapes) (ts : List Argument) → terms_of ss ≡ Some ts → (terms_of (argument_shapes ts) ≡ Some ts) × AllHaveWords (argument_shapes ts)
unfolding terms_of
terms_again no_shapes ts h =
    let P : List Argument → Type 0 = λ us. (terms_of (argument_shapes us) ≡ Some us) × AllHaveWords (argument_shapes us) in
    subst P (some_is [] ts h) (refl, tt)
terms_again (shape s ss) ts h =
    let P : List Argument → Type 0 = λ us. (terms_of (argument_shapes us) ≡ Some us) × AllHaveWords (argument_shapes us) in
    let b = bind_some (term_at s) (λ t. option_map (λ us. t ∷ us) (terms_of ss)) ts h in
    let m = map_some (λ us. b.0 ∷ us) (terms_of ss) ts b.2 in
    let is = term_read s b.0 b.1 in
    let rest = terms_again ss m.0 m.1 in
    subst P m.2 (
      ap (λ o. o >>= λ u. option_map (λ us. u ∷ us) (terms_of (argument_shapes m.0))) (term_again b.0 is) ∙ ap (option_map (λ us. b.0 ∷ us)) rest.0,
      (term_words b.0 is, rest.1),
    )

-- ---- keywords

abbrev word_byte : ℕ → Bool
word_byte b = (leb 33 b && leb b 126) && (not (eqb b 40) && (not (eqb b 41) && not (eqb b 59)))

byte_of : (b : ℕ) → word_byte b ≡ true → IsWordByte b
byte_of b h =
    let p = and_parts (leb 33 b && leb b 126) (not (eqb b 40) && (not (eqb b 41) && not (eqb b 59))) h in
    let q = and_parts (leb 33 b) (leb b 126) p.0 in
    let r = and_parts (not (eqb b 40)) (not (eqb b 41) && not (eqb b 59)) p.1 in
    let s = and_parts (not (eqb b 41)) (not (eqb b 59)) r.1 in
    (leb-true 33 b q.0, leb-true b 126 q.1, eqb-false b 40 (not-true (eqb b 40) r.0), eqb-false b 41 (not-true (eqb b 41) s.0), eqb-false b 59 (not-true (eqb b 59) s.1))

bytes_of : (w : List ℕ) → list_all word_byte w ≡ true → AllByRecursion IsWordByte w
bytes_of [] h = tt
bytes_of (b ∷ w) h =
    let p = and_parts (word_byte b) (list_all word_byte w) h in
    (byte_of b p.0, bytes_of w p.1)

abbrev pub is_plain_word : List ℕ → Bool
is_plain_word [] = false
is_plain_word (b ∷ w) = list_all word_byte (b ∷ w)

pub keyword : (w : List ℕ) → is_plain_word w ≡ true → IsWord w
keyword [] h = absurd (let f : false ≡ true = h in cc)
keyword (b ∷ w) h = bytes_word b w (bytes_of (b ∷ w) h)

pub word_again : (name w : List ℕ) → is_word name (lower w) ≡ is_word name w
unfolding is_word
word_again name w = rw (lower_lower w) refl
