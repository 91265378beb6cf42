-- What is joined by 'and' and 'forall' is read again from what is printed, where its parts are.
use Rattle.std.proofs.Common.{◌≡◌, ℕ, List, [], ◌∷◌, ◌++◌, Option, Some, option_map, codes, refl, ap, ◌∙◌, subst, ◌⊎◌, inl, inr}
use Rattle.std.specs.List.{AllByRecursion}
use Rattle.tp_text.specs.Shapes.{Shape, leaf, node, Shapes, no_shapes, shape}
use Rattle.tp_text.specs.Texts.{HasWords, AllHaveWords}
use Rattle.tp_syntax_ast.specs.Gives.{◌>>=◌}
use Rattle.tp_syntax_ast.specs.Words.{lower, is_word, joint_of}
use Rattle.tp_syntax_ast.specs.Symbols.{Parent, Declared}
use Rattle.tp_syntax_ast.specs.TypedLists.{parameters_at}
use Rattle.tp_syntax_ast.specs.Parts.{Joined, Reader, all_parts, for_each, one, no_parts, parts, joined_of, parts_of, bound_parts, only_part}
use Rattle.tp_syntax_print.specs.Printing.{headed, two_shapes, typed_shapes, joined_shape, part_shapes}
use Rattle.tp_syntax_ast.specs.declared.words.Joint.{Joint}
use Rattle.tp_syntax_ast.specs.declared.words.Joint.TheVariants.{And, Forall, One}
use Rattle.tp_syntax_ast.proofs.OnParts.{by_joint}
use Rattle.tp_syntax_print.proofs.OnPrintingWords.{some_is, bind_some, map_some, no_some, lower_lower, keyword}
use Rattle.tp_syntax_print.proofs.OnPrintingLists.{variables_again}

pub joint_again : (w : List ℕ) → joint_of (lower w) ≡ joint_of w
unfolding joint_of is_word
joint_again w = rw (lower_lower w) refl

joint_and : And ≡ joint_of (codes "and")
unfolding joint_of is_word
joint_and = refl

joint_forall : Forall ≡ joint_of (codes "forall")
unfolding joint_of is_word
joint_forall = refl

module _ {A : Type 0} (types : List Parent) (read : Reader A) (tree : A → Shape) where
  pub record JoinedAgain (scope : List Declared) (j : Joined A) : Type 0 where
    pub again : joined_of types read scope (joined_shape tree j) ≡ Some j
    pub words : HasWords (joined_shape tree j)

  -- a list that begins with another word than 'and' and 'forall'
  pub at_one : (scope : List Declared) (w : List ℕ) (rest : Shapes) (x : A) → joint_of w ≡ One → read scope w rest ≡ Some x → joined_of types read scope (headed w rest) ≡ Some (one x)
  at_one scope w rest x is h = by_joint types read scope w rest (joint_of w) One refl is ∙ ap (option_map one) h

  none : (scope : List Declared) → parts_of types read scope no_shapes ≡ Some []
  unfolding joined_of
  none scope = refl

  more : (scope : List Declared) (s : Shape) (ss : Shapes) (j : Joined A) (js : List (Joined A)) → joined_of types read scope s ≡ Some j → parts_of types read scope ss ≡ Some js → parts_of types read scope (shape s ss) ≡ Some (j ∷ js)
  unfolding joined_of
  more scope s ss j js is are = ap (λ o. o >>= λ p. option_map (λ ps. p ∷ ps) (parts_of types read scope ss)) is ∙ ap (option_map (λ ps. j ∷ ps)) are

  list_again : (scope : List Declared) (js : List (Joined A)) → AllByRecursion (JoinedAgain scope) js → parts_of types read scope (part_shapes tree (parts js)) ≡ Some js
  list_again scope [] h = none scope
  list_again scope (j ∷ js) h = more scope (joined_shape tree j) (part_shapes tree (parts js)) j js h.0.again (list_again scope js h.1)

  list_words : (scope : List Declared) (js : List (Joined A)) → AllByRecursion (JoinedAgain scope) js → AllHaveWords (part_shapes tree (parts js))
  list_words scope [] h = tt
  list_words scope (j ∷ js) h = (h.0.words, list_words scope js h.1)

  all_again : (scope : List Declared) (js : List (Joined A)) → AllByRecursion (JoinedAgain scope) js → JoinedAgain scope (all_parts (parts js))
  all_again scope js h = record {
    again = by_joint types read scope (codes "and") (part_shapes tree (parts js)) And And joint_and refl ∙ ap (option_map (λ ps. all_parts (parts ps))) (list_again scope js h);
    words = (keyword (codes "and") refl, list_words scope js h);
  }

  pub nothing_again : (scope : List Declared) → JoinedAgain scope (all_parts no_parts)
  nothing_again scope = all_again scope [] tt

  each_again : (scope : List Declared) (vs : List Declared) (j : Joined A) → (parameters_at types (node (typed_shapes vs)) ≡ Some vs) × AllHaveWords (typed_shapes vs) → JoinedAgain (vs ++ scope) j → JoinedAgain scope (for_each vs j)
  unfolding joined_of
  each_again scope vs j v a = record {
    again =
        by_joint types read scope (codes "forall") (two_shapes (node (typed_shapes vs)) (joined_shape tree j)) Forall Forall joint_forall refl
        ∙ ap (λ o. o >>= λ us. option_map (for_each us) (joined_of types read (us ++ scope) (joined_shape tree j))) v.0
        ∙ ap (option_map (for_each vs)) a.again;
    words = (keyword (codes "forall") refl, (v.1, (a.words, tt)));
  }

  by_cases : (k : Joint) (w : List ℕ) (o p q : Option (Joined A)) (j : Joined A) → joint_of w ≡ k → elim k as (λ v. Option (Joined A)) [ And ↦ o | Forall ↦ p | One ↦ q ] ≡ Some j → (o ≡ Some j) ⊎ ((p ≡ Some j) ⊎ ((joint_of w ≡ One) × (q ≡ Some j)))
  by_cases And w o p q j is h = inl h
  by_cases Forall w o p q j is h = inr (inl h)
  by_cases One w o p q j is h = inr (inr (is, h))

  module _ (one_again : (scope : List Declared) (w : List ℕ) (rest : Shapes) (x : A) → joint_of w ≡ One → read scope w rest ≡ Some x → JoinedAgain scope (one x)) where
    mutual
      unfolding joined_of

      pub joined_again : (scope : List Declared) (s : Shape) (j : Joined A) → joined_of types read scope s ≡ Some j → JoinedAgain scope j
      joined_again scope (leaf w) j h = no_some h
      joined_again scope (node no_shapes) j h = subst (JoinedAgain scope) (some_is (all_parts no_parts) j h) (nothing_again scope)
      joined_again scope (node (shape (node ss) rest)) j h = no_some h
      joined_again scope (node (shape (leaf w) rest)) j h =
          elim (by_cases (joint_of w) w (option_map (λ ps. all_parts (parts ps)) (parts_of types read scope rest)) (bound_parts types read scope rest) (option_map one (read scope w rest)) j refl h) [
            | inl a ↦
                let m = map_some (λ ps. all_parts (parts ps)) (parts_of types read scope rest) j a in
                subst (JoinedAgain scope) m.2 (all_again scope m.0 (parts_again scope rest m.0 m.1))
            | inr (inl b) ↦ bound_again scope rest j b
            | inr (inr o) ↦
                let m = map_some one (read scope w rest) j o.1 in
                subst (JoinedAgain scope) m.2 (one_again scope w rest m.0 o.0 m.1)
          ]

      bound_again : (scope : List Declared) (ss : Shapes) (j : Joined A) → bound_parts types read scope ss ≡ Some j → JoinedAgain scope j
      bound_again scope no_shapes j h = no_some h
      bound_again scope (shape vars rest) j h =
          let b = bind_some (parameters_at types vars) (λ vs. option_map (for_each vs) (only_part types read (vs ++ scope) rest)) j h in
          let m = map_some (for_each b.0) (only_part types read (b.0 ++ scope) rest) j b.2 in
          subst (JoinedAgain scope) m.2 (each_again scope b.0 m.0 (variables_again types vars b.0 b.1) (only_again (b.0 ++ scope) rest m.0 m.1))

      only_again : (scope : List Declared) (ss : Shapes) (j : Joined A) → only_part types read scope ss ≡ Some j → JoinedAgain scope j
      only_again scope no_shapes j h = no_some h
      only_again scope (shape s no_shapes) j h = joined_again scope s j h
      only_again scope (shape s (shape t ss)) j h = no_some h

      parts_again : (scope : List Declared) (ss : Shapes) (js : List (Joined A)) → parts_of types read scope ss ≡ Some js → AllByRecursion (JoinedAgain scope) js
      parts_again scope no_shapes js h = subst (AllByRecursion (JoinedAgain scope)) (some_is [] js h) tt
      parts_again scope (shape s ss) js h =
          let b = bind_some (joined_of types read scope s) (λ p. option_map (λ ps. p ∷ ps) (parts_of types read scope ss)) js h in
          let m = map_some (λ ps. b.0 ∷ ps) (parts_of types read scope ss) js b.2 in
          subst (AllByRecursion (JoinedAgain scope)) m.2 (joined_again scope s b.0 b.1, parts_again scope ss m.0 m.1)
