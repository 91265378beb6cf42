-- Duration constraints that were read are read again from what is printed.
use Rattle.std.proofs.Common.{◌≡◌, ℕ, List, [], ◌∷◌, Bool, true, false, Option, Some, None, option_map, codes, refl, sym, ap, ◌∙◌, subst, ◌⊎◌, inl, inr}
use Rattle.std.specs.List.{AllByRecursion}
use Rattle.tp_text.specs.Shapes.{Shape, leaf, node, Shapes, no_shapes, shape}
use Rattle.tp_text.specs.Texts.{HasWords, AllHaveWords}
use Rattle.tp_syntax_ast.specs.Gives.{◌>>=◌, provided}
use Rattle.tp_syntax_ast.specs.Words.{is_word, cond_word_of, constraint_form_of, duration_comparison}
use Rattle.tp_syntax_ast.specs.Lists.{only, both}
use Rattle.tp_syntax_ast.specs.Symbols.{Declared, Symbols}
use Rattle.tp_syntax_ast.specs.Expressions.{Expression, terms_for, expression_of}
use Rattle.tp_syntax_ast.specs.Effects.{Constraint, all_constraints, constraint, no_constraints, constraints_in, is_duration, limited, is_start, constraint_of, start_constraint, only_constraint, constraints_of}
use Rattle.tp_syntax_print.specs.Printing.{two_shapes, expression_shape, constraint_shape, constraint_shapes}
use Rattle.tp_syntax_print.specs.Words.{comparison_word}
use Rattle.tp_syntax_ast.specs.declared.words.Comparison.{Comparison}
use Rattle.tp_syntax_ast.specs.declared.words.Comparison.TheVariants as comparisons
use Rattle.tp_syntax_ast.specs.declared.words.CondWord.{CondWord}
use Rattle.tp_syntax_ast.specs.declared.words.CondWord.TheVariants as cond_words
use Rattle.tp_syntax_ast.specs.declared.words.ConstraintForm.{ConstraintForm}
use Rattle.tp_syntax_ast.specs.declared.words.ConstraintForm.TheVariants.{And, At, Limit}
use Rattle.tp_syntax_print.proofs.OnPrintingWords.{some_is, bind_some, map_some, no_some, keyword}
use Rattle.tp_syntax_print.proofs.OnPrintingExprs.{Again, expression_again}
use Rattle.tp_syntax_print.proofs.OnPrintingConds.{comparison_word_of, head_compared, compared_word}

form_and : constraint_form_of (codes "and") ≡ And
unfolding constraint_form_of is_word
form_and = refl

form_limit : (op : Comparison) → constraint_form_of (comparison_word op) ≡ Limit
unfolding constraint_form_of is_word
form_limit comparisons.Less = refl
form_limit comparisons.AtMost = refl
form_limit comparisons.Equal = refl
form_limit comparisons.AtLeast = refl
form_limit comparisons.Greater = refl

-- a comparison that a duration constraint may have
abbrev IsLimit : Comparison → Type 0
IsLimit op = duration_comparison (comparison_word_of op) ≡ Some op

limit_again : (k : CondWord) (op : Comparison) → duration_comparison k ≡ Some op → IsLimit op
limit_again cond_words.AtMost op h = subst IsLimit (some_is comparisons.AtMost op h) refl
limit_again cond_words.Equal op h = subst IsLimit (some_is comparisons.Equal op h) refl
limit_again cond_words.AtLeast op h = subst IsLimit (some_is comparisons.AtLeast op h) refl
limit_again cond_words.And op h = no_some h
limit_again cond_words.Or op h = no_some h
limit_again cond_words.Not op h = no_some h
limit_again cond_words.Imply op h = no_some h
limit_again cond_words.Forall op h = no_some h
limit_again cond_words.Exists op h = no_some h
limit_again cond_words.Less op h = no_some h
limit_again cond_words.Greater op h = no_some h
limit_again cond_words.Preference op h = no_some h
limit_again cond_words.Other op h = no_some h

module _ (σ : Symbols) (scope : List Declared) where
  pub record ConstraintAgain (r : Constraint) : Type 0 where
    pub again : constraint_of σ scope (constraint_shape r) ≡ Some r
    pub words : HasWords (constraint_shape r)

  by_form : (w : List ℕ) (rest : Shapes) (k : ConstraintForm) → constraint_form_of w ≡ k → constraint_of σ scope (node (shape (leaf w) rest)) ≡ elim k as (λ v. Option Constraint) [ And ↦ option_map (λ rs. all_constraints (constraints_in rs)) (constraints_of σ scope rest) | At ↦ start_constraint σ scope rest | Limit ↦ limited σ scope w rest ]
  unfolding constraint_of
  by_form w rest k e = ap (λ (v : ConstraintForm). elim v as (λ u. Option Constraint) [ And ↦ option_map (λ rs. all_constraints (constraints_in rs)) (constraints_of σ scope rest) | At ↦ start_constraint σ scope rest | Limit ↦ limited σ scope w rest ]) e

  none : constraints_of σ scope no_shapes ≡ Some []
  unfolding constraint_of
  none = refl

  more : (s : Shape) (ss : Shapes) (r : Constraint) (rs : List Constraint) → constraint_of σ scope s ≡ Some r → constraints_of σ scope ss ≡ Some rs → constraints_of σ scope (shape s ss) ≡ Some (r ∷ rs)
  unfolding constraint_of
  more s ss r rs is are = ap (λ o. o >>= λ q. option_map (λ qs. q ∷ qs) (constraints_of σ scope ss)) is ∙ ap (option_map (λ qs. r ∷ qs)) are

  list_again : (rs : List Constraint) → AllByRecursion ConstraintAgain rs → constraints_of σ scope (constraint_shapes (constraints_in rs)) ≡ Some rs
  list_again [] h = none
  list_again (r ∷ rs) h = more (constraint_shape r) (constraint_shapes (constraints_in rs)) r rs h.0.again (list_again rs h.1)

  list_words : (rs : List Constraint) → AllByRecursion ConstraintAgain rs → AllHaveWords (constraint_shapes (constraints_in rs))
  list_words [] h = tt
  list_words (r ∷ rs) h = (h.0.words, list_words rs h.1)

  all_again : (rs : List Constraint) → AllByRecursion ConstraintAgain rs → ConstraintAgain (all_constraints (constraints_in rs))
  all_again rs h = record {
    again = by_form (codes "and") (constraint_shapes (constraints_in rs)) And form_and ∙ ap (option_map (λ qs. all_constraints (constraints_in qs))) (list_again rs h);
    words = (keyword (codes "and") refl, list_words rs h);
  }

  limit_reads : (op : Comparison) (x : Expression) → IsLimit op → Again σ (terms_for scope false) x → limited σ scope (comparison_word op) (two_shapes (leaf (codes "?duration")) (expression_shape x)) ≡ Some (constraint op x)
  unfolding limited both only is_duration is_word
  limit_reads op x is a =
      ap (λ (k : CondWord). duration_comparison k >>= λ p. option_map (constraint p) (expression_of σ (terms_for scope false) (expression_shape x))) (sym (head_compared op))
      ∙ ap (λ o. o >>= λ p. option_map (constraint p) (expression_of σ (terms_for scope false) (expression_shape x))) is
      ∙ ap (option_map (constraint op)) a.again

  limited_again : (w : List ℕ) (rest : Shapes) (r : Constraint) → limited σ scope w rest ≡ Some r → ConstraintAgain r
  unfolding limited
  limited_again w rest r h =
      let o = bind_some (duration_comparison (cond_word_of w)) (λ op. both rest >>= λ p. provided (is_duration p.0) p.1 >>= λ x. option_map (constraint op) (expression_of σ (terms_for scope false) x)) r h in
      let p = bind_some (both rest) (λ q. provided (is_duration q.0) q.1 >>= λ x. option_map (constraint o.0) (expression_of σ (terms_for scope false) x)) r o.2 in
      let s = bind_some (provided (is_duration p.0.0) p.0.1) (λ x. option_map (constraint o.0) (expression_of σ (terms_for scope false) x)) r p.2 in
      let m = map_some (constraint o.0) (expression_of σ (terms_for scope false) s.0) r s.2 in
      let a = expression_again σ (terms_for scope false) s.0 m.0 m.1 in
      let args = two_shapes (leaf (codes "?duration")) (expression_shape m.0) in
      subst ConstraintAgain m.2 (record {
        again = by_form (comparison_word o.0) args Limit (form_limit o.0) ∙ limit_reads o.0 m.0 (limit_again (cond_word_of w) o.0 o.1) a;
        words = (compared_word o.0, (keyword (codes "?duration") refl, (a.words, tt)));
      })

  by_cases : (k : ConstraintForm) (o p q : Option Constraint) (r : Constraint) → elim k as (λ v. Option Constraint) [ And ↦ o | At ↦ p | Limit ↦ q ] ≡ Some r → (o ≡ Some r) ⊎ ((p ≡ Some r) ⊎ (q ≡ Some r))
  by_cases And o p q r h = inl h
  by_cases At o p q r h = inr (inl h)
  by_cases Limit o p q r h = inr (inr h)

  if_start : (b : Bool) (o : Option Constraint) (r : Constraint) → elim b as (λ v. Option Constraint) [ true ↦ o | false ↦ None ] ≡ Some r → o ≡ Some r
  if_start true o r h = h
  if_start false o r h = no_some h

  mutual
    unfolding constraint_of

    pub constraint_again : (s : Shape) (r : Constraint) → constraint_of σ scope s ≡ Some r → ConstraintAgain r
    constraint_again (leaf w) r h = no_some h
    constraint_again (node no_shapes) r h = subst ConstraintAgain (some_is (all_constraints no_constraints) r h) (all_again [] tt)
    constraint_again (node (shape (node ss) rest)) r h = no_some h
    constraint_again (node (shape (leaf w) rest)) r h =
        elim (by_cases (constraint_form_of w) (option_map (λ rs. all_constraints (constraints_in rs)) (constraints_of σ scope rest)) (start_constraint σ scope rest) (limited σ scope w rest) r h) [
          | inl a ↦
              let m = map_some (λ rs. all_constraints (constraints_in rs)) (constraints_of σ scope rest) r a in
              subst ConstraintAgain m.2 (all_again m.0 (constraints_again rest m.0 m.1))
          | inr (inl b) ↦ start_again rest r b
          | inr (inr q) ↦ limited_again w rest r q
        ]

    start_again : (ss : Shapes) (r : Constraint) → start_constraint σ scope ss ≡ Some r → ConstraintAgain r
    start_again no_shapes r h = no_some h
    start_again (shape s rest) r h = only_again rest r (if_start (is_start s) (only_constraint σ scope rest) r h)

    only_again : (ss : Shapes) (r : Constraint) → only_constraint σ scope ss ≡ Some r → ConstraintAgain r
    only_again no_shapes r h = no_some h
    only_again (shape s no_shapes) r h = constraint_again s r h
    only_again (shape s (shape t ss)) r h = no_some h

    constraints_again : (ss : Shapes) (rs : List Constraint) → constraints_of σ scope ss ≡ Some rs → AllByRecursion ConstraintAgain rs
    constraints_again no_shapes rs h = subst (AllByRecursion ConstraintAgain) (some_is [] rs h) tt
    constraints_again (shape s ss) rs h =
        let b = bind_some (constraint_of σ scope s) (λ r. option_map (λ qs. r ∷ qs) (constraints_of σ scope ss)) rs h in
        let m = map_some (λ qs. b.0 ∷ qs) (constraints_of σ scope ss) rs b.2 in
        subst (AllByRecursion ConstraintAgain) m.2 (constraint_again s b.0 b.1, constraints_again ss m.0 m.1)
