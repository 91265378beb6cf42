-- Atoms and expressions that were read are read again from what is printed.
use Rattle.std.proofs.Common.{◌≡◌, ℕ, List, [], ◌∷◌, Bool, true, false, cond, ◌&&◌, ◌||◌, Option, Some, option_map, codes, refl, sym, ap, ◌∙◌, subst, ◌⊎◌, inl, inr}
use Rattle.std.specs.List.{AllByRecursion}
use Rattle.std.proofs.lemmas.Bool.{and_parts}
use lib.IntN.{ℤ}
use Rattle.tp_text.specs.Shapes.{Shape, leaf, node, Shapes, no_shapes, shape}
use Rattle.tp_text.specs.Texts.{IsWord, HasWords, AllHaveWords}
use Rattle.tp_text.specs.Numbers.{whole_of}
use Rattle.std.specs.Fmt.{signed_decimal}
use Rattle.tp_syntax_ast.specs.Gives.{◌>>=◌, provided}
use Rattle.tp_syntax_ast.specs.Words.{lower, is_word, operator_of}
use Rattle.tp_syntax_ast.specs.Terms.{Argument, Fact, is_name, name_of, terms_of}
use Rattle.tp_syntax_ast.specs.Symbols.{Declared, SignatureView, Symbols, signature_of, arguments_fit, atom_in}
use Rattle.tp_syntax_ast.specs.Expressions.{Expression, number, fluent, sum, negative, difference, product, the_duration, Terms, terms_for, word_expression, is_operator, summed, multiplied, subtracted, computed, expression_of, expressions_of}
use Rattle.tp_syntax_ast.specs.Conditions.{is_term}
use Rattle.tp_syntax_print.specs.Printing.{one_shape, two_shapes, argument_shapes, expression_shape}
use Rattle.tp_syntax_ast.specs.declared.words.Operator.{Operator}
use Rattle.tp_syntax_ast.specs.declared.words.Operator.TheVariants.{Plus, Minus, Times, Divide, Other}
use Rattle.tp_syntax_ast.proofs.OnExpressions.{at_operator, at_fluent}
use Rattle.tp_syntax_print.proofs.OnPrintingWords.{some_is, bind_some, map_some, provided_some, no_some, name_read, name_again, name_word, terms_again, keyword, lower_lower}
use Rattle.tp_syntax_print.proofs.OnPrintingNumbers.{IsNumber, number_read}

-- ---- atoms

pub record AtomAgain (σ : Symbols) (signatures : List SignatureView) (scope : List Declared) (w : List ℕ) (f : Fact) : Type 0 where
  pub name : f.name ≡ lower w
  pub again : atom_in σ signatures scope f.name (argument_shapes f.arguments) ≡ Some f
  pub word : IsWord f.name
  pub words : AllHaveWords (argument_shapes f.arguments)

pub atom_again : (σ : Symbols) (signatures : List SignatureView) (scope : List Declared) (w : List ℕ) (rest : Shapes) (f : Fact) → atom_in σ signatures scope w rest ≡ Some f → AtomAgain σ signatures scope w f
unfolding atom_in
atom_again σ signatures scope w rest f h =
    let made : List ℕ → List Argument → Fact = λ n ts. record { name = n; arguments = ts } in
    let fits : SignatureView → List Argument → Bool = λ signature ts. arguments_fit σ.types σ.objects scope ts signature.parameters in
    let a = bind_some (name_of w) (λ n. signature_of n signatures >>= λ signature. terms_of rest >>= λ ts. provided (fits signature ts) (made n ts)) f h in
    let b = bind_some (signature_of a.0 signatures) (λ signature. terms_of rest >>= λ ts. provided (fits signature ts) (made a.0 ts)) f a.2 in
    let t = bind_some (terms_of rest) (λ ts. provided (fits b.0 ts) (made a.0 ts)) f b.2 in
    let p = provided_some (fits b.0 t.0) (made a.0 t.0) f t.2 in
    let name = name_read w a.0 a.1 in
    let terms = terms_again rest t.0 t.1 in
    subst (AtomAgain σ signatures scope w) p.1 (record {
      name = name.0;
      again =
          ap (λ o. o >>= λ n. signature_of n signatures >>= λ signature. terms_of (argument_shapes t.0) >>= λ ts. provided (fits signature ts) (made n ts)) (name_again a.0 name.1)
          ∙ ap (λ o. o >>= λ signature. terms_of (argument_shapes t.0) >>= λ ts. provided (fits signature ts) (made a.0 ts)) b.1
          ∙ ap (λ o. o >>= λ ts. provided (fits b.0 ts) (made a.0 ts)) terms.0
          ∙ ap (λ (c : Bool). provided c (made a.0 t.0)) p.0;
      word = name_word a.0 name.1.signature;
      words = terms.1;
    })

-- ---- words of operators

operator_again : (w : List ℕ) → operator_of (lower w) ≡ operator_of w
unfolding operator_of is_word
operator_again w = rw (lower_lower w) refl

plus : Plus ≡ operator_of (codes "+")
unfolding operator_of is_word
plus = refl

minus : Minus ≡ operator_of (codes "-")
unfolding operator_of is_word
minus = refl

times : Times ≡ operator_of (codes "*")
unfolding operator_of is_word
times = refl

-- ---- expressions

module _ (σ : Symbols) (may : Terms) where
  pub record Again (x : Expression) : Type 0 where
    pub again : expression_of σ may (expression_shape x) ≡ Some x
    pub words : HasWords (expression_shape x)

  leaf_is : (w : List ℕ) → expression_of σ may (leaf w) ≡ word_expression may.duration w
  unfolding expression_of
  leaf_is w = refl

  duration_again : may.duration ≡ true → Again the_duration
  unfolding word_expression is_word
  duration_again on = record {
    again = leaf_is (codes "?duration") ∙ ap (λ (b : Bool). cond (b && true) (Some the_duration) (option_map number (whole_of (codes "?duration")))) on;
    words = keyword (codes "?duration") refl;
  }

  never_both : (b c : Bool) → c ≡ false → (b && c) ≡ false
  never_both true c e = e
  never_both false c e = refl

  number_again : (n : ℤ) → IsNumber n → Again (number n)
  unfolding word_expression
  number_again n is = record {
    again =
        leaf_is (signed_decimal n)
        ∙ ap (λ (b : Bool). cond b (Some the_duration) (option_map number (whole_of (signed_decimal n)))) (never_both may.duration (is_word (codes "?duration") (signed_decimal n)) is.no_duration)
        ∙ ap (option_map number) is.again;
    words = is.words;
  }

  leaf_again : (b : Bool) (w : List ℕ) (x : Expression) → (may.duration && is_word (codes "?duration") w) ≡ b → cond b (Some the_duration) (option_map number (whole_of w)) ≡ Some x → Again x
  leaf_again true w x is h = subst Again (some_is the_duration x h) (duration_again (and_parts may.duration (is_word (codes "?duration") w) is).0)
  leaf_again false w x is h =
      let m = map_some number (whole_of w) x h in
      subst Again m.2 (number_again m.0 (number_read w m.0 m.1))

  word_again : (w : List ℕ) (x : Expression) → expression_of σ may (leaf w) ≡ Some x → Again x
  unfolding word_expression
  word_again w x h = leaf_again (may.duration && is_word (codes "?duration") w) w x refl (sym (leaf_is w) ∙ h)

  fluent_again : (w : List ℕ) (rest : Shapes) (x : Expression) → is_operator (operator_of w) ≡ false → option_map fluent (atom_in σ σ.functions may.scope w rest) ≡ Some x → Again x
  fluent_again w rest x is h =
      let m = map_some fluent (atom_in σ σ.functions may.scope w rest) x h in
      let a = atom_again σ σ.functions may.scope w rest m.0 m.1 in
      let same : operator_of m.0.name ≡ operator_of w = ap operator_of a.name ∙ operator_again w in
      subst Again m.2 (record {
        again = at_fluent σ may m.0.name (argument_shapes m.0.arguments) (operator_of m.0.name) refl (ap is_operator same ∙ is) ∙ ap (option_map fluent) a.again;
        words = (a.word, a.words);
      })

  none : expressions_of σ may no_shapes ≡ Some []
  unfolding expression_of
  none = refl

  more : (s : Shape) (ss : Shapes) (x : Expression) (xs : List Expression) → expression_of σ may s ≡ Some x → expressions_of σ may ss ≡ Some xs → expressions_of σ may (shape s ss) ≡ Some (x ∷ xs)
  unfolding expression_of
  more s ss x xs is are = ap (λ o. o >>= λ y. option_map (λ ys. y ∷ ys) (expressions_of σ may ss)) is ∙ ap (option_map (λ ys. x ∷ ys)) are

  pub one_again : (x : Expression) → Again x → expressions_of σ may (one_shape (expression_shape x)) ≡ Some (x ∷ [])
  one_again x a = more (expression_shape x) no_shapes x [] a.again none

  pub two_again : (x y : Expression) → Again x → Again y → expressions_of σ may (two_shapes (expression_shape x) (expression_shape y)) ≡ Some (x ∷ y ∷ [])
  two_again x y a b = more (expression_shape x) (one_shape (expression_shape y)) x (y ∷ []) a.again (one_again y b)

  sum_again : (x y : Expression) → Again x → Again y → Again (sum x y)
  unfolding computed
  sum_again x y a b = record {
    again = at_operator σ may (codes "+") (two_shapes (expression_shape x) (expression_shape y)) Plus plus refl ∙ ap (λ o. o >>= computed Plus) (two_again x y a b);
    words = (keyword (codes "+") refl, (a.words, (b.words, tt)));
  }

  product_again : (x y : Expression) → Again x → Again y → Again (product x y)
  unfolding computed
  product_again x y a b = record {
    again = at_operator σ may (codes "*") (two_shapes (expression_shape x) (expression_shape y)) Times times refl ∙ ap (λ o. o >>= computed Times) (two_again x y a b);
    words = (keyword (codes "*") refl, (a.words, (b.words, tt)));
  }

  difference_again : (x y : Expression) → Again x → Again y → Again (difference x y)
  unfolding computed
  difference_again x y a b = record {
    again = at_operator σ may (codes "-") (two_shapes (expression_shape x) (expression_shape y)) Minus minus refl ∙ ap (λ o. o >>= computed Minus) (two_again x y a b);
    words = (keyword (codes "-") refl, (a.words, (b.words, tt)));
  }

  negative_again : (x : Expression) → Again x → Again (negative x)
  unfolding computed
  negative_again x a = record {
    again = at_operator σ may (codes "-") (one_shape (expression_shape x)) Minus minus refl ∙ ap (λ o. o >>= computed Minus) (one_again x a);
    words = (keyword (codes "-") refl, (a.words, tt));
  }

  summed_again : (xs : List Expression) (x : Expression) → AllByRecursion Again xs → summed xs ≡ Some x → Again x
  summed_again [] x are h = no_some h
  summed_again (a ∷ []) x are h = no_some h
  summed_again (a ∷ b ∷ []) x are h = subst Again (some_is (sum a b) x h) (sum_again a b are.0 are.1.0)
  summed_again (a ∷ b ∷ c ∷ xs) x are h = no_some h

  multiplied_again : (xs : List Expression) (x : Expression) → AllByRecursion Again xs → multiplied xs ≡ Some x → Again x
  multiplied_again [] x are h = no_some h
  multiplied_again (a ∷ []) x are h = no_some h
  multiplied_again (a ∷ b ∷ []) x are h = subst Again (some_is (product a b) x h) (product_again a b are.0 are.1.0)
  multiplied_again (a ∷ b ∷ c ∷ xs) x are h = no_some h

  subtracted_again : (xs : List Expression) (x : Expression) → AllByRecursion Again xs → subtracted xs ≡ Some x → Again x
  subtracted_again [] x are h = no_some h
  subtracted_again (a ∷ []) x are h = subst Again (some_is (negative a) x h) (negative_again a are.0)
  subtracted_again (a ∷ b ∷ []) x are h = subst Again (some_is (difference a b) x h) (difference_again a b are.0 are.1.0)
  subtracted_again (a ∷ b ∷ c ∷ xs) x are h = no_some h

  computed_again : (o : Operator) (xs : List Expression) (x : Expression) → AllByRecursion Again xs → computed o xs ≡ Some x → Again x
  unfolding computed
  computed_again Plus xs x are h = summed_again xs x are h
  computed_again Minus xs x are h = subtracted_again xs x are h
  computed_again Times xs x are h = multiplied_again xs x are h
  computed_again Divide xs x are h = no_some h
  computed_again Other xs x are h = no_some h

  by_operator : (b : Bool) (w : List ℕ) (o p : Option Expression) (x : Expression) → is_operator (operator_of w) ≡ b → elim b as (λ v. Option Expression) [ true ↦ o | false ↦ p ] ≡ Some x → (o ≡ Some x) ⊎ ((is_operator (operator_of w) ≡ false) × (p ≡ Some x))
  by_operator true w o p x is h = inl h
  by_operator false w o p x is h = inr (is, h)

  mutual
    unfolding expression_of

    pub expression_again : (s : Shape) (x : Expression) → expression_of σ may s ≡ Some x → Again x
    expression_again (leaf w) x h = word_again w x h
    expression_again (node no_shapes) x h = no_some h
    expression_again (node (shape (node ss) rest)) x h = no_some h
    expression_again (node (shape (leaf w) rest)) x h =
        elim (by_operator (is_operator (operator_of w)) w (expressions_of σ may rest >>= computed (operator_of w)) (option_map fluent (atom_in σ σ.functions may.scope w rest)) x refl h) [
          | inl o ↦
              let b = bind_some (expressions_of σ may rest) (computed (operator_of w)) x o in
              computed_again (operator_of w) b.0 x (expressions_again rest b.0 b.1) b.2
          | inr f ↦ fluent_again w rest x f.0 f.1
        ]

    pub expressions_again : (ss : Shapes) (xs : List Expression) → expressions_of σ may ss ≡ Some xs → AllByRecursion Again xs
    expressions_again no_shapes xs h = subst (AllByRecursion Again) (some_is [] xs h) tt
    expressions_again (shape s ss) xs h =
        let b = bind_some (expression_of σ may s) (λ x. option_map (λ ys. x ∷ ys) (expressions_of σ may ss)) xs h in
        let m = map_some (λ ys. b.0 ∷ ys) (expressions_of σ may ss) xs b.2 in
        subst (AllByRecursion Again) m.2 (expression_again s b.0 b.1, expressions_again ss m.0 m.1)

-- ---- no expression is a term, where the duration may not be named

abbrev NoTerm : Expression → Type 0
NoTerm x = is_term (expression_shape x) ≡ false

number_no_term : (n : ℤ) → IsNumber n → NoTerm (number n)
unfolding is_term
number_no_term n is = ap (λ (b : Bool). b || is_name (signed_decimal n)) is.no_variable ∙ is.no_name

pub no_term : (σ : Symbols) (scope : List Declared) (x : Expression) → Again σ (terms_for scope false) x → NoTerm x
unfolding is_term word_expression
no_term σ scope (number n) a =
    let m = map_some number (whole_of (signed_decimal n)) (number n) (sym (leaf_is σ (terms_for scope false) (signed_decimal n)) ∙ a.again) in
    subst NoTerm m.2 (number_no_term m.0 (number_read (signed_decimal n) m.0 m.1))
no_term σ scope (fluent f) a = refl
no_term σ scope (sum x y) a = refl
no_term σ scope (negative x) a = refl
no_term σ scope (difference x y) a = refl
no_term σ scope (product x y) a = refl
no_term σ scope the_duration a =
    let m = map_some number (whole_of (codes "?duration")) the_duration (sym (leaf_is σ (terms_for scope false) (codes "?duration")) ∙ a.again) in
    cc
