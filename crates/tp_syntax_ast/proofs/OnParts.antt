use Rattle.std.proofs.Common.{◌≡◌, ℕ, ◌<◌, ◌≤◌, ◌-◌, List, [], ◌∷◌, ◌++◌, length, take, drop, get_or, map, Option, Some, None, option_map, Vec, Box, Global, refl, sym, ap, ◌∙◌, rules, arith}
use Rattle.std.proofs.lemmas.List.{take_rest}
use Rattle.tp_text.specs.Shapes.{leaf, node, Shapes, no_shapes, shape}
use Rattle.tp_text.specs.Trees.{shape_of}
use Rattle.tp_text.specs.declared.tree.Tree.{Tree}
use Rattle.tp_syntax_ast.specs.Gives.{◌>>=◌}
use Rattle.tp_syntax_ast.specs.Terms.{shapes}
use Rattle.tp_syntax_ast.specs.Symbols.{Parent, Declared, typed_view}
use Rattle.tp_syntax_ast.specs.Words.{joint_of}
use Rattle.tp_syntax_ast.specs.TypedLists.{parameters_at}
use Rattle.tp_syntax_ast.specs.Parts.{Joined, Reader, all_parts, for_each, one, no_parts, parts, joined_of, parts_of, bound_parts, only_part}
use Rattle.tp_syntax_ast.specs.PartViews.{joined_view}
use Rattle.tp_syntax_ast.specs.declared.joined.Joined as the_joined
use Rattle.tp_syntax_ast.specs.declared.joined.Joined.{the_lemmas}
use Rattle.tp_syntax_ast.specs.declared.symbols.Typed.{Typed}
use Rattle.tp_syntax_ast.specs.declared.words.Joint.{Joint}
use Rattle.tp_syntax_ast.specs.declared.words.Joint.TheVariants.{And, Forall, One}
use Rattle.tp_syntax_ast.proofs.Loops.{IsEach}
use Rattle.tp_syntax_ast.proofs.OnLists.{peel}

module _ {A B : Type 0} (f : A → B) where
  pub and_view : (v : Vec (the_joined.Joined A) Global) → joined_view f (the_joined.And v) ≡ all_parts (parts (map (joined_view f) v.items))
  and_view v = search (rules, the_lemmas)

  pub and_none : (v : Vec (the_joined.Joined A) Global) → v.items ≡ [] → all_parts no_parts ≡ joined_view f (the_joined.And v)
  and_none v none = sym (and_view v ∙ ap (λ (js : List (the_joined.Joined A)). all_parts (parts (map (joined_view f) js))) none)

  pub forall_view : (vs : Vec Typed Global) (b : Box (the_joined.Joined A) Global) → joined_view f (the_joined.Forall vs b) ≡ for_each (map typed_view vs.items) (joined_view f b.value)
  forall_view vs b = search (rules, the_lemmas)

  pub one_view : (a : A) → joined_view f (the_joined.One a) ≡ one (f a)
  one_view a = search (rules, the_lemmas)

module _ {A : Type 0} (types : List Parent) (read : Reader A) (scope : List Declared) where
  pub each_part : IsEach (λ (t : Tree). joined_of types read scope (shape_of t)) (λ ts. parts_of types read scope (shapes ts))
  unfolding joined_of
  each_part = record { none = refl; more = λ x xs. refl }

  pub at_word : (w : List ℕ) → joined_of types read scope (leaf w) ≡ None
  unfolding joined_of
  at_word w = refl

  pub at_nothing : joined_of types read scope (node no_shapes) ≡ Some (all_parts no_parts)
  unfolding joined_of
  at_nothing = refl

  pub at_list : (ss rest : Shapes) → joined_of types read scope (node (shape (node ss) rest)) ≡ None
  unfolding joined_of
  at_list ss rest = refl

  pub by_joint : (w : List ℕ) (rest : Shapes) (j k : Joint) → j ≡ joint_of w → j ≡ k → joined_of types read scope (node (shape (leaf w) rest)) ≡ elim k as (λ v. Option (Joined A)) [ And ↦ option_map (λ ps. all_parts (parts ps)) (parts_of types read scope rest) | Forall ↦ bound_parts types read scope rest | One ↦ option_map one (read scope w rest) ]
  unfolding joined_of
  by_joint w rest j k is e = ap (λ (v : Joint). elim v as (λ u. Option (Joined A)) [ And ↦ option_map (λ ps. all_parts (parts ps)) (parts_of types read scope rest) | Forall ↦ bound_parts types read scope rest | One ↦ option_map one (read scope w rest) ]) (sym is ∙ e)

  pub bound_none : (xs : List Tree) → length xs < 1 → bound_parts types read scope (shapes xs) ≡ None
  unfolding joined_of
  bound_none [] lt = refl
  bound_none (x ∷ xs) lt = absurd (omega arith)

  pub bound_first : (xs : List Tree) (list : Tree) → 1 ≤ length xs → list ≡ get_or xs 0 list → bound_parts types read scope (shapes xs) ≡ (parameters_at types (shape_of list) >>= λ vs. option_map (for_each vs) (only_part types read (vs ++ scope) (shapes (take (length xs - 1) (drop 1 xs)))))
  unfolding joined_of
  bound_first xs list le is = ap (bound_parts types read scope) (peel xs list le is)

  pub only_none : (ys : List Tree) → length ys < 1 → only_part types read scope (shapes ys) ≡ None
  unfolding joined_of
  only_none [] lt = refl
  only_none (y ∷ ys) lt = absurd (omega arith)

  pub only_one : (ys : List Tree) (tree : Tree) → 1 ≤ length ys → tree ≡ get_or ys 0 tree → length (take (length ys - 1) (drop 1 ys)) ≡ 0 → only_part types read scope (shapes ys) ≡ joined_of types read scope (shape_of tree)
  unfolding joined_of
  only_one [] tree le is none = absurd (omega arith)
  only_one (y ∷ []) tree le is none = ap (λ (t : Tree). joined_of types read scope (shape_of t)) (sym is)
  only_one (y ∷ z ∷ zs) tree le is none = absurd (no_more z zs none) where
    no_more : (z : Tree) (zs : List Tree) → length (take (length (y ∷ z ∷ zs) - 1) (z ∷ zs)) ≡ 0 → ⊥
    no_more z zs e = omega (arith, e, ap length (take_rest (y ∷ z ∷ zs) 1))

  pub only_many : (ys : List Tree) → (length (take (length ys - 1) (drop 1 ys)) ≡ 0 → ⊥) → only_part types read scope (shapes ys) ≡ None
  unfolding joined_of
  only_many [] more = refl
  only_many (y ∷ []) more = absurd (more refl)
  only_many (y ∷ z ∷ zs) more = refl
