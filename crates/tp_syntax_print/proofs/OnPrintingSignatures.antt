-- Requirements, predicates and functions that were read are read again from what is printed.
use Rattle.std.proofs.Common.{◌≡◌, ℕ, List, [], ◌∷◌, map, Bool, true, false, ◌&&◌, not, eqb, Option, Some, None, option_map, refl, sym, ap, ◌∙◌, subst, arith, ◌⊎◌, inl, inr}
use Rattle.std.specs.List.{AllByRecursion}
use Rattle.std.specs.Char.{to_ascii_lowercase}
use Rattle.std.proofs.lemmas.Bool.{cases_lt, eqb-true}
use Rattle.std.proofs.lemmas.Str.Ascii.{lowercase_is}
use Rattle.tp_text.specs.Shapes.{Shape, leaf, node, Shapes, no_shapes, shape}
use Rattle.tp_text.specs.Texts.{IsWord, HasWords, AllHaveWords}
use Rattle.tp_text.proofs.OnWords.{IsWordByte, bytes_word, word_bytes}
use Rattle.tp_syntax_ast.specs.Gives.{◌>>=◌, provided}
use Rattle.tp_syntax_ast.specs.Words.{lower}
use Rattle.tp_syntax_ast.specs.Terms.{name_of}
use Rattle.tp_syntax_ast.specs.Symbols.{Name, Declared, Parent, SignatureView}
use Rattle.tp_syntax_ast.specs.TypedLists.{is_dash, parameters_of, has_twice}
use Rattle.tp_syntax_ast.specs.Domains.{requirement_at, requirements_in, signature_at, signatures_of, is_number, numeric_signatures, after_number, named_once}
use Rattle.tp_syntax_print.specs.Printing.{name_shapes, typed_shapes, signature_shape, signature_shapes}
use Rattle.tp_syntax_print.proofs.OnPrintingWords.{some_is, bind_some, map_some, provided_some, no_some, lower_lower, name_read, name_again, name_word}
use Rattle.tp_syntax_print.proofs.OnPrintingLists.{parameters_again}

-- ---- requirements

lower_byte : (b : ℕ) → IsWordByte b → IsWordByte (to_ascii_lowercase b)
lower_byte b h =
    elim (cases_lt b 65) [
      | inl below ↦ subst IsWordByte (sym ((lowercase_is b).1 below)) h
      | inr least ↦
          elim (cases_lt 90 b) [
            | inl above ↦ subst IsWordByte (sym ((lowercase_is b).2 above)) h
            | inr most ↦ subst IsWordByte (sym ((lowercase_is b).0 (least, most))) (omega arith, omega arith, λ e. omega (arith, e), λ e. omega (arith, e), λ e. omega (arith, e))
          ]
    ]

lower_bytes : (w : List ℕ) → AllByRecursion IsWordByte w → AllByRecursion IsWordByte (lower w)
lower_bytes [] h = tt
lower_bytes (b ∷ w) h = (lower_byte b h.0, lower_bytes w h.1)

record IsRequirement (n : Name) : Type 0 where
  behind : List ℕ
  is : n ≡ 58 ∷ behind
  is_lower : lower n ≡ n
  word : IsWord n

requirement : (b : ℕ) (w : List ℕ) → eqb b 58 ≡ true → IsWord (b ∷ w) → IsRequirement (lower (b ∷ w))
requirement b w mark word = record {
  behind = lower w;
  is = ap (λ (c : ℕ). to_ascii_lowercase c ∷ lower w) (eqb-true b 58 mark);
  is_lower = lower_lower (b ∷ w);
  word = bytes_word (to_ascii_lowercase b) (lower w) (lower_bytes (b ∷ w) (word_bytes (b ∷ w) word));
}

requirement_read : (s : Shape) (n : Name) → HasWords s → requirement_at s ≡ Some n → IsRequirement n
unfolding requirement_at
requirement_read (node ss) n words h = no_some h
requirement_read (leaf []) n words h = no_some h
requirement_read (leaf (b ∷ w)) n words h =
    let p = provided_some (eqb b 58) (lower (b ∷ w)) n h in
    subst IsRequirement p.1 (requirement b w p.0 words)

requirements_read : (ss : Shapes) (ns : List Name) → AllHaveWords ss → requirements_in ss ≡ Some ns → AllByRecursion IsRequirement ns
unfolding requirements_in
requirements_read no_shapes ns words h = subst (AllByRecursion IsRequirement) (some_is [] ns h) tt
requirements_read (shape s rest) ns words h =
    let b = bind_some (requirement_at s) (λ n. option_map (λ ms. n ∷ ms) (requirements_in rest)) ns h in
    let m = map_some (λ ms. b.0 ∷ ms) (requirements_in rest) ns b.2 in
    subst (AllByRecursion IsRequirement) m.2 (requirement_read s b.0 words.0 b.1, requirements_read rest m.0 words.1 m.1)

requirement_again : (n : Name) → IsRequirement n → requirement_at (leaf n) ≡ Some n
unfolding requirement_at
requirement_again n r = subst (λ (m : Name). requirement_at (leaf m) ≡ Some (lower m)) (sym r.is) refl ∙ ap (λ (m : Name). Some m) r.is_lower

requirement_first : (n : Name) (rest : Shapes) → IsRequirement n → requirements_in (shape (leaf n) rest) ≡ option_map (λ ns. n ∷ ns) (requirements_in rest)
unfolding requirements_in
requirement_first n rest r = ap (λ o. o >>= λ m. option_map (λ ns. m ∷ ns) (requirements_in rest)) (requirement_again n r)

no_requirements : requirements_in no_shapes ≡ Some []
unfolding requirements_in
no_requirements = refl

all_requirements : (ns : List Name) → AllByRecursion IsRequirement ns → requirements_in (name_shapes ns) ≡ Some ns
all_requirements [] h = no_requirements
all_requirements (n ∷ ns) h = requirement_first n (name_shapes ns) h.0 ∙ ap (option_map (λ ms. n ∷ ms)) (all_requirements ns h.1)

requirement_words : (ns : List Name) → AllByRecursion IsRequirement ns → AllHaveWords (name_shapes ns)
requirement_words [] h = tt
requirement_words (n ∷ ns) h = (h.0.word, requirement_words ns h.1)

pub requirements_again : (ss : Shapes) (ns : List Name) → AllHaveWords ss → requirements_in ss ≡ Some ns → (requirements_in (name_shapes ns) ≡ Some ns) × AllHaveWords (name_shapes ns)
requirements_again ss ns words h =
    let r = requirements_read ss ns words h in
    (all_requirements ns r, requirement_words ns r)

-- ---- predicates and functions

module _ (types : List Parent) where
  record SignatureAgain (f : SignatureView) : Type 0 where
    again : signature_at types (signature_shape f) ≡ Some f
    words : HasWords (signature_shape f)

  signature_made : Name → List Declared → SignatureView
  signature_made n vs = record { name = n; parameters = vs }

  signature_read : (s : Shape) (f : SignatureView) → signature_at types s ≡ Some f → SignatureAgain f
  unfolding signature_at signature_made
  signature_read (leaf w) f h = no_some h
  signature_read (node no_shapes) f h = no_some h
  signature_read (node (shape (node ss) vars)) f h = no_some h
  signature_read (node (shape (leaf w) vars)) f h =
      let b = bind_some (name_of w) (λ n. option_map (signature_made n) (parameters_of types vars)) f h in
      let m = map_some (signature_made b.0) (parameters_of types vars) f b.2 in
      let name = name_read w b.0 b.1 in
      let v = parameters_again types vars m.0 m.1 in
      subst SignatureAgain m.2 (record {
        again = ap (λ o. o >>= λ n. option_map (signature_made n) (parameters_of types (typed_shapes m.0))) (name_again b.0 name.1) ∙ ap (option_map (signature_made b.0)) v.0;
        words = (name_word b.0 name.1.signature, v.1);
      })

  signature_words : (fs : List SignatureView) → AllByRecursion SignatureAgain fs → AllHaveWords (signature_shapes fs)
  signature_words [] h = tt
  signature_words (f ∷ fs) h = (h.0.words, signature_words fs h.1)

  signatures_read : (ss : Shapes) (fs : List SignatureView) → signatures_of types ss ≡ Some fs → AllByRecursion SignatureAgain fs
  unfolding signatures_of
  signatures_read no_shapes fs h = subst (AllByRecursion SignatureAgain) (some_is [] fs h) tt
  signatures_read (shape s ss) fs h =
      let b = bind_some (signature_at types s) (λ f. option_map (λ gs. f ∷ gs) (signatures_of types ss)) fs h in
      let m = map_some (λ gs. b.0 ∷ gs) (signatures_of types ss) fs b.2 in
      subst (AllByRecursion SignatureAgain) m.2 (signature_read s b.0 b.1, signatures_read ss m.0 m.1)

  signatures_reads : (fs : List SignatureView) → AllByRecursion SignatureAgain fs → signatures_of types (signature_shapes fs) ≡ Some fs
  unfolding signatures_of
  signatures_reads [] h = refl
  signatures_reads (f ∷ fs) h = ap (λ o. o >>= λ g. option_map (λ gs. g ∷ gs) (signatures_of types (signature_shapes fs))) h.0.again ∙ ap (option_map (λ gs. f ∷ gs)) (signatures_reads fs h.1)

  -- ---- those of functions may end in '- number'

  by_end : (b : Bool) (o p : Option (List SignatureView)) (fs : List SignatureView) → elim b as (λ v. Option (List SignatureView)) [ true ↦ o | false ↦ p ] ≡ Some fs → (o ≡ Some fs) ⊎ (p ≡ Some fs)
  by_end true o p fs h = inl h
  by_end false o p fs h = inr h

  if_number : (b : Bool) (o : Option (List SignatureView)) (fs : List SignatureView) → elim b as (λ v. Option (List SignatureView)) [ true ↦ o | false ↦ None ] ≡ Some fs → o ≡ Some fs
  if_number true o fs h = h
  if_number false o fs h = no_some h

  mutual
    unfolding numeric_signatures

    numeric_read : (t : Bool) (ss : Shapes) (fs : List SignatureView) → numeric_signatures types t ss ≡ Some fs → AllByRecursion SignatureAgain fs
    numeric_read t no_shapes fs h = subst (AllByRecursion SignatureAgain) (some_is [] fs h) tt
    numeric_read t (shape s ss) fs h =
        elim (by_end (t && is_dash s) (after_number types ss) (signature_at types s >>= λ f. option_map (λ gs. f ∷ gs) (numeric_signatures types true ss)) fs h) [
          | inl n ↦ number_read ss fs n
          | inr f ↦
              let b = bind_some (signature_at types s) (λ f. option_map (λ gs. f ∷ gs) (numeric_signatures types true ss)) fs f in
              let m = map_some (λ gs. b.0 ∷ gs) (numeric_signatures types true ss) fs b.2 in
              subst (AllByRecursion SignatureAgain) m.2 (signature_read s b.0 b.1, numeric_read true ss m.0 m.1)
        ]

    number_read : (ss : Shapes) (fs : List SignatureView) → after_number types ss ≡ Some fs → AllByRecursion SignatureAgain fs
    number_read no_shapes fs h = no_some h
    number_read (shape s ss) fs h = numeric_read false ss fs (if_number (is_number s) (numeric_signatures types false ss) fs h)

  never_end : (t : Bool) (f : SignatureView) → (t && is_dash (signature_shape f)) ≡ false
  unfolding is_dash
  never_end true f = refl
  never_end false f = refl

  at_signature : (t : Bool) (f : SignatureView) (ss : Shapes) → numeric_signatures types t (shape (signature_shape f) ss) ≡ (signature_at types (signature_shape f) >>= λ g. option_map (λ gs. g ∷ gs) (numeric_signatures types true ss))
  unfolding numeric_signatures
  at_signature t f ss = ap (λ (b : Bool). elim b as (λ v. Option (List SignatureView)) [ true ↦ after_number types ss | false ↦ signature_at types (signature_shape f) >>= λ g. option_map (λ gs. g ∷ gs) (numeric_signatures types true ss) ]) (never_end t f)

  no_signatures : (t : Bool) → numeric_signatures types t no_shapes ≡ Some []
  unfolding numeric_signatures
  no_signatures t = refl

  numeric_reads : (t : Bool) (fs : List SignatureView) → AllByRecursion SignatureAgain fs → numeric_signatures types t (signature_shapes fs) ≡ Some fs
  numeric_reads t [] h = no_signatures t
  numeric_reads t (f ∷ fs) h = at_signature t f (signature_shapes fs) ∙ ap (λ o. o >>= λ g. option_map (λ gs. g ∷ gs) (numeric_signatures types true (signature_shapes fs))) h.0.again ∙ ap (option_map (λ gs. f ∷ gs)) (numeric_reads true fs h.1)

  -- ---- each once

  abbrev once : List SignatureView → Bool
  once fs = not (has_twice (map (λ f. f.name) fs))

  named : (o : Option (List SignatureView)) (fs : List SignatureView) → (o >>= named_once) ≡ Some fs → (once fs ≡ true) × (o ≡ Some fs)
  named o fs h =
      let b = bind_some o named_once fs h in
      let p = provided_some (once b.0) b.0 fs b.2 in
      (ap once (sym p.1) ∙ p.0, b.1 ∙ ap (λ (gs : List SignatureView). Some gs) p.1)

  pub predicates_again : (ss : Shapes) (fs : List SignatureView) → (signatures_of types ss >>= named_once) ≡ Some fs → ((signatures_of types (signature_shapes fs) >>= named_once) ≡ Some fs) × AllHaveWords (signature_shapes fs)
  predicates_again ss fs h =
      let n = named (signatures_of types ss) fs h in
      let all = signatures_read ss fs n.1 in
      (ap (λ o. o >>= named_once) (signatures_reads fs all) ∙ ap (λ (b : Bool). provided b fs) n.0, signature_words fs all)

  pub functions_again : (ss : Shapes) (fs : List SignatureView) → (numeric_signatures types false ss >>= named_once) ≡ Some fs → ((numeric_signatures types false (signature_shapes fs) >>= named_once) ≡ Some fs) × AllHaveWords (signature_shapes fs)
  functions_again ss fs h =
      let n = named (numeric_signatures types false ss) fs h in
      let all = numeric_read false ss fs n.1 in
      (ap (λ o. o >>= named_once) (numeric_reads false fs all) ∙ ap (λ (b : Bool). provided b fs) n.0, signature_words fs all)
