-- Conditions that were read are read again from what is printed.
use Rattle.std.proofs.Common.{◌≡◌, ℕ, List, [], ◌∷◌, ◌++◌, Bool, true, false, cond, ◌&&◌, ◌||◌, Option, Some, option_map, codes, refl, sym, ap, ◌∙◌, subst, ◌⊎◌, inl, inr}
use Rattle.std.specs.Option.{is_some}
use Rattle.std.specs.List.{AllByRecursion}
use Rattle.std.proofs.lemmas.Bool.{and_from, and_left}
use Rattle.tp_text.specs.Shapes.{Shape, leaf, node, Shapes, no_shapes, shape}
use Rattle.tp_text.specs.Texts.{IsWord, HasWords, AllHaveWords}
use Rattle.tp_syntax_ast.specs.Gives.{◌>>=◌, provided}
use Rattle.tp_syntax_ast.specs.Words.{lower, is_word, cond_word_of, comparison}
use Rattle.tp_syntax_ast.specs.Terms.{Argument, object, variable, is_name, terms_of}
use Rattle.tp_syntax_ast.specs.Symbols.{Declared, argument_types, Symbols, atom_in}
use Rattle.tp_syntax_ast.specs.TypedLists.{parameters_at}
use Rattle.tp_syntax_ast.specs.Expressions.{Expression, terms_for, expressions_of}
use Rattle.tp_syntax_ast.specs.Conditions.{Condition, all_of, any_of, negation, implies, for_all, for_some, fact, same, compared, no_conditions, conditions, kind_of, negated, implied, combined, bound, is_term, are_terms, equated, related, equality, relation, simple, condition_of, bound_condition, only_condition, conditions_of}
use Rattle.tp_syntax_print.specs.Printing.{two_shapes, argument_shape, argument_shapes, typed_shapes, expression_shape, condition_shape, condition_shapes}
use Rattle.tp_syntax_print.specs.Words.{comparison_word}
use Rattle.tp_syntax_ast.specs.declared.words.Comparison.{Comparison}
use Rattle.tp_syntax_ast.specs.declared.words.Comparison.TheVariants as comparisons
use Rattle.tp_syntax_ast.specs.declared.words.CondKind.{CondKind}
use Rattle.tp_syntax_ast.specs.declared.words.CondKind.TheVariants.{Joined, Bound, Simple}
use Rattle.tp_syntax_ast.specs.declared.words.CondWord.{CondWord}
use Rattle.tp_syntax_ast.specs.declared.words.CondWord.TheVariants.{And, Or, Not, Imply, Forall, Exists, Equal, Less, AtMost, AtLeast, Greater, Preference, Other}
use Rattle.tp_syntax_ast.proofs.OnConds.{at_joined, at_bound, at_simple}
use Rattle.tp_syntax_print.proofs.OnPrintingWords.{some_is, bind_some, map_some, provided_some, no_some, lower_lower, keyword, IsTerm, terms_read, terms_again, no_variable}
use Rattle.tp_syntax_print.proofs.OnPrintingLists.{variables_again}
use Rattle.tp_syntax_print.proofs.OnPrintingExprs.{Again, atom_again, expressions_again, two_again, no_term}

head_again : (w : List ℕ) → cond_word_of (lower w) ≡ cond_word_of w
unfolding cond_word_of is_word
head_again w = rw (lower_lower w) refl

head_and : And ≡ cond_word_of (codes "and")
unfolding cond_word_of is_word
head_and = refl

head_or : Or ≡ cond_word_of (codes "or")
unfolding cond_word_of is_word
head_or = refl

head_not : Not ≡ cond_word_of (codes "not")
unfolding cond_word_of is_word
head_not = refl

head_imply : Imply ≡ cond_word_of (codes "imply")
unfolding cond_word_of is_word
head_imply = refl

head_forall : Forall ≡ cond_word_of (codes "forall")
unfolding cond_word_of is_word
head_forall = refl

head_exists : Exists ≡ cond_word_of (codes "exists")
unfolding cond_word_of is_word
head_exists = refl

abbrev pub comparison_word_of : Comparison → CondWord
comparison_word_of comparisons.Less = Less
comparison_word_of comparisons.AtMost = AtMost
comparison_word_of comparisons.Equal = Equal
comparison_word_of comparisons.AtLeast = AtLeast
comparison_word_of comparisons.Greater = Greater

pub head_compared : (op : Comparison) → comparison_word_of op ≡ cond_word_of (comparison_word op)
unfolding cond_word_of is_word
head_compared comparisons.Less = refl
head_compared comparisons.AtMost = refl
head_compared comparisons.Equal = refl
head_compared comparisons.AtLeast = refl
head_compared comparisons.Greater = refl

kind_compared : (op : Comparison) → Simple ≡ kind_of (comparison_word_of op)
kind_compared comparisons.Less = refl
kind_compared comparisons.AtMost = refl
kind_compared comparisons.Equal = refl
kind_compared comparisons.AtLeast = refl
kind_compared comparisons.Greater = refl

head_equal : Equal ≡ cond_word_of (codes "=")
unfolding cond_word_of is_word
head_equal = refl

pub compared_word : (op : Comparison) → IsWord (comparison_word op)
compared_word comparisons.Less = keyword (codes "<") refl
compared_word comparisons.AtMost = keyword (codes "<=") refl
compared_word comparisons.Equal = keyword (codes "=") refl
compared_word comparisons.AtLeast = keyword (codes ">=") refl
compared_word comparisons.Greater = keyword (codes ">") refl

argument_is_term : (a : Argument) → IsTerm a → is_term (argument_shape a) ≡ true
unfolding IsTerm is_term
argument_is_term (object n) is = ap (λ (b : Bool). b || is_name n) (no_variable n is.signature) ∙ is.signature
argument_is_term (variable n) is = ap (λ (b : Bool). b || is_name n) is.signature

module _ (σ : Symbols) where
  pub record CondAgain (scope : List Declared) (c : Condition) : Type 0 where
    pub again : condition_of σ scope (condition_shape c) ≡ Some c
    pub words : HasWords (condition_shape c)

  module _ (scope : List Declared) where
    none : conditions_of σ scope no_shapes ≡ Some []
    unfolding condition_of
    none = refl

    more : (s : Shape) (ss : Shapes) (c : Condition) (cs : List Condition) → condition_of σ scope s ≡ Some c → conditions_of σ scope ss ≡ Some cs → conditions_of σ scope (shape s ss) ≡ Some (c ∷ cs)
    unfolding condition_of
    more s ss c cs is are = ap (λ o. o >>= λ d. option_map (λ ds. d ∷ ds) (conditions_of σ scope ss)) is ∙ ap (option_map (λ ds. c ∷ ds)) are

    list_again : (cs : List Condition) → AllByRecursion (CondAgain scope) cs → conditions_of σ scope (condition_shapes (conditions cs)) ≡ Some cs
    list_again [] h = none
    list_again (c ∷ cs) h = more (condition_shape c) (condition_shapes (conditions cs)) c cs h.0.again (list_again cs h.1)

    list_words : (cs : List Condition) → AllByRecursion (CondAgain scope) cs → AllHaveWords (condition_shapes (conditions cs))
    list_words [] h = tt
    list_words (c ∷ cs) h = (h.0.words, list_words cs h.1)

    all_again : (cs : List Condition) → AllByRecursion (CondAgain scope) cs → CondAgain scope (all_of (conditions cs))
    unfolding combined
    all_again cs h = record {
      again = at_joined σ scope (codes "and") (condition_shapes (conditions cs)) And Joined head_and refl refl ∙ ap (λ o. o >>= combined And) (list_again cs h);
      words = (keyword (codes "and") refl, list_words cs h);
    }

    pub nothing_holds : CondAgain scope (all_of no_conditions)
    nothing_holds = all_again [] tt

    any_again : (cs : List Condition) → AllByRecursion (CondAgain scope) cs → CondAgain scope (any_of (conditions cs))
    unfolding combined
    any_again cs h = record {
      again = at_joined σ scope (codes "or") (condition_shapes (conditions cs)) Or Joined head_or refl refl ∙ ap (λ o. o >>= combined Or) (list_again cs h);
      words = (keyword (codes "or") refl, list_words cs h);
    }

    negated_again : (cs : List Condition) (c : Condition) → AllByRecursion (CondAgain scope) cs → negated cs ≡ Some c → CondAgain scope c
    unfolding combined
    negated_again [] c are h = no_some h
    negated_again (d ∷ []) c are h = subst (CondAgain scope) (some_is (negation d) c h) (record {
      again = at_joined σ scope (codes "not") (condition_shapes (conditions (d ∷ []))) Not Joined head_not refl refl ∙ ap (λ o. o >>= combined Not) (list_again (d ∷ []) are);
      words = (keyword (codes "not") refl, list_words (d ∷ []) are);
    })
    negated_again (d ∷ e ∷ cs) c are h = no_some h

    implied_again : (cs : List Condition) (c : Condition) → AllByRecursion (CondAgain scope) cs → implied cs ≡ Some c → CondAgain scope c
    unfolding combined
    implied_again [] c are h = no_some h
    implied_again (d ∷ []) c are h = no_some h
    implied_again (d ∷ e ∷ []) c are h = subst (CondAgain scope) (some_is (implies d e) c h) (record {
      again = at_joined σ scope (codes "imply") (condition_shapes (conditions (d ∷ e ∷ []))) Imply Joined head_imply refl refl ∙ ap (λ o. o >>= combined Imply) (list_again (d ∷ e ∷ []) are);
      words = (keyword (codes "imply") refl, list_words (d ∷ e ∷ []) are);
    })
    implied_again (d ∷ e ∷ f ∷ cs) c are h = no_some h

    combined_again : (k : CondWord) (cs : List Condition) (c : Condition) → AllByRecursion (CondAgain scope) cs → combined k cs ≡ Some c → CondAgain scope c
    unfolding combined
    combined_again And cs c are h = subst (CondAgain scope) (some_is (all_of (conditions cs)) c h) (all_again cs are)
    combined_again Or cs c are h = subst (CondAgain scope) (some_is (any_of (conditions cs)) c h) (any_again cs are)
    combined_again Not cs c are h = negated_again cs c are h
    combined_again Imply cs c are h = implied_again cs c are h
    combined_again Forall cs c are h = no_some h
    combined_again Exists cs c are h = no_some h
    combined_again Equal cs c are h = no_some h
    combined_again Less cs c are h = no_some h
    combined_again AtMost cs c are h = no_some h
    combined_again AtLeast cs c are h = no_some h
    combined_again Greater cs c are h = no_some h
    combined_again Preference cs c are h = no_some h
    combined_again Other cs c are h = no_some h

    -- ---- quantifiers

    abbrev VariablesAgain : List Declared → Type 0
    VariablesAgain vs = (parameters_at σ.types (node (typed_shapes vs)) ≡ Some vs) × AllHaveWords (typed_shapes vs)

    for_all_again : (vs : List Declared) (c : Condition) → VariablesAgain vs → CondAgain (vs ++ scope) c → CondAgain scope (for_all vs c)
    unfolding condition_of
    for_all_again vs c v a = record {
      again =
          at_bound σ scope (codes "forall") (two_shapes (node (typed_shapes vs)) (condition_shape c)) Forall Bound head_forall refl refl
          ∙ ap (λ o. o >>= λ us. option_map (bound Forall us) (condition_of σ (us ++ scope) (condition_shape c))) v.0
          ∙ ap (option_map (bound Forall vs)) a.again;
      words = (keyword (codes "forall") refl, (v.1, (a.words, tt)));
    }

    for_some_again : (vs : List Declared) (c : Condition) → VariablesAgain vs → CondAgain (vs ++ scope) c → CondAgain scope (for_some vs c)
    unfolding condition_of
    for_some_again vs c v a = record {
      again =
          at_bound σ scope (codes "exists") (two_shapes (node (typed_shapes vs)) (condition_shape c)) Exists Bound head_exists refl refl
          ∙ ap (λ o. o >>= λ us. option_map (bound Exists us) (condition_of σ (us ++ scope) (condition_shape c))) v.0
          ∙ ap (option_map (bound Exists vs)) a.again;
      words = (keyword (codes "exists") refl, (v.1, (a.words, tt)));
    }

    bound_made : (k : CondWord) (vs : List Declared) (c : Condition) → VariablesAgain vs → CondAgain (vs ++ scope) c → CondAgain scope (bound k vs c)
    bound_made And vs c v a = for_all_again vs c v a
    bound_made Or vs c v a = for_all_again vs c v a
    bound_made Not vs c v a = for_all_again vs c v a
    bound_made Imply vs c v a = for_all_again vs c v a
    bound_made Forall vs c v a = for_all_again vs c v a
    bound_made Exists vs c v a = for_some_again vs c v a
    bound_made Equal vs c v a = for_all_again vs c v a
    bound_made Less vs c v a = for_all_again vs c v a
    bound_made AtMost vs c v a = for_all_again vs c v a
    bound_made AtLeast vs c v a = for_all_again vs c v a
    bound_made Greater vs c v a = for_all_again vs c v a
    bound_made Preference vs c v a = for_all_again vs c v a
    bound_made Other vs c v a = for_all_again vs c v a

    -- ---- conditions with none inside

    fact_again : (w : List ℕ) (rest : Shapes) (c : Condition) → cond_word_of w ≡ Other → option_map fact (atom_in σ σ.predicates scope w rest) ≡ Some c → CondAgain scope c
    unfolding simple
    fact_again w rest c is h =
        let m = map_some fact (atom_in σ σ.predicates scope w rest) c h in
        let a = atom_again σ σ.predicates scope w rest m.0 m.1 in
        let head : cond_word_of m.0.name ≡ Other = ap cond_word_of a.name ∙ head_again w ∙ is in
        subst (CondAgain scope) m.2 (record {
          again = at_simple σ scope m.0.name (argument_shapes m.0.arguments) Other Simple (sym head) refl refl ∙ ap (option_map fact) a.again;
          words = (a.word, a.words);
        })

    abbrev Known : Argument → Argument → Bool
    Known a b = is_some (argument_types σ.objects scope a) && is_some (argument_types σ.objects scope b)

    same_again : (a b : Argument) → AllByRecursion IsTerm (a ∷ b ∷ []) → terms_of (argument_shapes (a ∷ b ∷ [])) ≡ Some (a ∷ b ∷ []) → AllHaveWords (argument_shapes (a ∷ b ∷ [])) → Known a b ≡ true → CondAgain scope (same a b)
    unfolding simple
    same_again a b are terms words known = record {
      again =
          at_simple σ scope (codes "=") (argument_shapes (a ∷ b ∷ [])) Equal Simple head_equal refl refl
          ∙ ap (λ (t : Bool). cond t (equality σ scope (argument_shapes (a ∷ b ∷ []))) (relation σ scope Equal (argument_shapes (a ∷ b ∷ [])))) (and_from (is_term (argument_shape a)) (is_term (argument_shape b) && true) (argument_is_term a are.0) (and_from (is_term (argument_shape b)) true (argument_is_term b are.1.0) refl))
          ∙ ap (λ o. o >>= equated σ scope) terms
          ∙ ap (λ (t : Bool). provided t (same a b)) known;
      words = (keyword (codes "=") refl, words);
    }

    equated_again : (ts : List Argument) (c : Condition) → AllByRecursion IsTerm ts → terms_of (argument_shapes ts) ≡ Some ts → AllHaveWords (argument_shapes ts) → equated σ scope ts ≡ Some c → CondAgain scope c
    equated_again [] c are terms words h = no_some h
    equated_again (a ∷ []) c are terms words h = no_some h
    equated_again (a ∷ b ∷ []) c are terms words h =
        let p = provided_some (Known a b) (same a b) c h in
        subst (CondAgain scope) p.1 (same_again a b are terms words p.0)
    equated_again (a ∷ b ∷ d ∷ ts) c are terms words h = no_some h

    equality_again : (rest : Shapes) (c : Condition) → equality σ scope rest ≡ Some c → CondAgain scope c
    equality_again rest c h =
        let b = bind_some (terms_of rest) (equated σ scope) c h in
        let t = terms_again rest b.0 b.1 in
        equated_again b.0 c (terms_read rest b.0 b.1) t.0 t.1 b.2

    abbrev Value : Expression → Type 0
    Value x = Again σ (terms_for scope false) x

    compared_reads : (op : Comparison) (x y : Expression) → Value x → Value y → simple σ scope (comparison_word_of op) (comparison_word op) (two_shapes (expression_shape x) (expression_shape y)) ≡ Some (compared op x y)
    unfolding simple
    compared_reads comparisons.Less x y a b = ap (λ o. o >>= related Less) (two_again σ (terms_for scope false) x y a b)
    compared_reads comparisons.AtMost x y a b = ap (λ o. o >>= related AtMost) (two_again σ (terms_for scope false) x y a b)
    compared_reads comparisons.Equal x y a b =
        ap (λ (t : Bool). cond t (equality σ scope (two_shapes (expression_shape x) (expression_shape y))) (relation σ scope Equal (two_shapes (expression_shape x) (expression_shape y)))) (and_left (is_term (expression_shape x)) (is_term (expression_shape y) && true) (no_term σ scope x a))
        ∙ ap (λ o. o >>= related Equal) (two_again σ (terms_for scope false) x y a b)
    compared_reads comparisons.AtLeast x y a b = ap (λ o. o >>= related AtLeast) (two_again σ (terms_for scope false) x y a b)
    compared_reads comparisons.Greater x y a b = ap (λ o. o >>= related Greater) (two_again σ (terms_for scope false) x y a b)

    compared_again : (op : Comparison) (x y : Expression) → Value x → Value y → CondAgain scope (compared op x y)
    compared_again op x y a b = record {
      again = at_simple σ scope (comparison_word op) (two_shapes (expression_shape x) (expression_shape y)) (comparison_word_of op) Simple (head_compared op) (kind_compared op) refl ∙ compared_reads op x y a b;
      words = (compared_word op, (a.words, (b.words, tt)));
    }

    related_again : (k : CondWord) (xs : List Expression) (c : Condition) → AllByRecursion (Again σ (terms_for scope false)) xs → related k xs ≡ Some c → CondAgain scope c
    related_again k [] c are h = no_some h
    related_again k (x ∷ []) c are h = no_some h
    related_again k (x ∷ y ∷ []) c are h =
        let m = map_some (λ op. compared op x y) (comparison k) c h in
        subst (CondAgain scope) m.2 (compared_again m.0 x y are.0 are.1.0)
    related_again k (x ∷ y ∷ z ∷ xs) c are h = no_some h

    relation_again : (k : CondWord) (rest : Shapes) (c : Condition) → relation σ scope k rest ≡ Some c → CondAgain scope c
    relation_again k rest c h =
        let b = bind_some (expressions_of σ (terms_for scope false) rest) (related k) c h in
        related_again k b.0 c (expressions_again σ (terms_for scope false) rest b.0 b.1) b.2

    equal_again : (t : Bool) (rest : Shapes) (c : Condition) → cond t (equality σ scope rest) (relation σ scope Equal rest) ≡ Some c → CondAgain scope c
    equal_again true rest c h = equality_again rest c h
    equal_again false rest c h = relation_again Equal rest c h

    simple_again : (k : CondWord) (w : List ℕ) (rest : Shapes) (c : Condition) → cond_word_of w ≡ k → simple σ scope k w rest ≡ Some c → CondAgain scope c
    unfolding simple
    simple_again And w rest c is h = no_some h
    simple_again Or w rest c is h = no_some h
    simple_again Not w rest c is h = no_some h
    simple_again Imply w rest c is h = no_some h
    simple_again Forall w rest c is h = no_some h
    simple_again Exists w rest c is h = no_some h
    simple_again Equal w rest c is h = equal_again (are_terms rest) rest c h
    simple_again Less w rest c is h = relation_again Less rest c h
    simple_again AtMost w rest c is h = relation_again AtMost rest c h
    simple_again AtLeast w rest c is h = relation_again AtLeast rest c h
    simple_again Greater w rest c is h = relation_again Greater rest c h
    simple_again Preference w rest c is h = no_some h
    simple_again Other w rest c is h = fact_again w rest c is h

  -- ---- conditions

  by_kind : (k : CondKind) (o p q : Option Condition) (c : Condition) → elim k as (λ v. Option Condition) [ Joined ↦ o | Bound ↦ p | Simple ↦ q ] ≡ Some c → (o ≡ Some c) ⊎ ((p ≡ Some c) ⊎ (q ≡ Some c))
  by_kind Joined o p q c h = inl h
  by_kind Bound o p q c h = inr (inl h)
  by_kind Simple o p q c h = inr (inr h)

  mutual
    unfolding condition_of

    pub condition_again : (scope : List Declared) (s : Shape) (c : Condition) → condition_of σ scope s ≡ Some c → CondAgain scope c
    condition_again scope (leaf w) c h = no_some h
    condition_again scope (node no_shapes) c h = subst (CondAgain scope) (some_is (all_of no_conditions) c h) (all_again scope [] tt)
    condition_again scope (node (shape (node ss) rest)) c h = no_some h
    condition_again scope (node (shape (leaf w) rest)) c h =
        elim (by_kind (kind_of (cond_word_of w)) (conditions_of σ scope rest >>= combined (cond_word_of w)) (bound_condition σ scope (cond_word_of w) rest) (simple σ scope (cond_word_of w) w rest) c h) [
          | inl j ↦
              let b = bind_some (conditions_of σ scope rest) (combined (cond_word_of w)) c j in
              combined_again scope (cond_word_of w) b.0 c (conditions_again scope rest b.0 b.1) b.2
          | inr (inl q) ↦ bound_again scope (cond_word_of w) rest c q
          | inr (inr q) ↦ simple_again scope (cond_word_of w) w rest c refl q
        ]

    bound_again : (scope : List Declared) (k : CondWord) (ss : Shapes) (c : Condition) → bound_condition σ scope k ss ≡ Some c → CondAgain scope c
    bound_again scope k no_shapes c h = no_some h
    bound_again scope k (shape vars rest) c h =
        let b = bind_some (parameters_at σ.types vars) (λ vs. option_map (bound k vs) (only_condition σ (vs ++ scope) rest)) c h in
        let m = map_some (bound k b.0) (only_condition σ (b.0 ++ scope) rest) c b.2 in
        subst (CondAgain scope) m.2 (bound_made scope k b.0 m.0 (variables_again σ.types vars b.0 b.1) (only_again (b.0 ++ scope) rest m.0 m.1))

    only_again : (scope : List Declared) (ss : Shapes) (c : Condition) → only_condition σ scope ss ≡ Some c → CondAgain scope c
    only_again scope no_shapes c h = no_some h
    only_again scope (shape s no_shapes) c h = condition_again scope s c h
    only_again scope (shape s (shape t ss)) c h = no_some h

    conditions_again : (scope : List Declared) (ss : Shapes) (cs : List Condition) → conditions_of σ scope ss ≡ Some cs → AllByRecursion (CondAgain scope) cs
    conditions_again scope no_shapes cs h = subst (AllByRecursion (CondAgain scope)) (some_is [] cs h) tt
    conditions_again scope (shape s ss) cs h =
        let b = bind_some (condition_of σ scope s) (λ c. option_map (λ ds. c ∷ ds) (conditions_of σ scope ss)) cs h in
        let m = map_some (λ ds. b.0 ∷ ds) (conditions_of σ scope ss) cs b.2 in
        subst (AllByRecursion (CondAgain scope)) m.2 (condition_again scope s b.0 b.1, conditions_again scope ss m.0 m.1)
