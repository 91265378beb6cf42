-- What is joined by 'and' and 'forall': effects, timed conditions and timed effects.
use Rattle.std.specs.Prelude.{ℕ, List, [], ◌∷◌, ◌++◌, Option, Some, None, option_map}
use Rattle.tp_text.specs.Shapes.{Shape, leaf, node, Shapes, no_shapes, shape}
use Rattle.tp_syntax_ast.specs.Gives.{◌>>=◌}
use Rattle.tp_syntax_ast.specs.Symbols.{Declared, Parent}
use Rattle.tp_syntax_ast.specs.Words.{joint_of}
use Rattle.tp_syntax_ast.specs.TypedLists.{parameters_at}
use Rattle.tp_syntax_ast.specs.declared.words.Joint.TheVariants.{And, Forall, One}

mutual
  pub data Joined (A : Type 0) : Type 0 where
    all_parts : Parts A → Joined A
    for_each : List Declared → Joined A → Joined A
    one : A → Joined A

  pub data Parts (A : Type 0) : Type 0 where
    no_parts : Parts A
    part : Joined A → Parts A → Parts A

abbrev pub parts : {A : Type 0} → List (Joined A) → Parts A
parts [] = no_parts
parts (p ∷ ps) = part p (parts ps)

-- Reads a list that begins with a word, in a scope.
abbrev pub Reader : Type 0 → Type 0
Reader A = List Declared → List ℕ → Shapes → Option A

unfoldable mutual
  pub joined_of : {A : Type 0} → List Parent → Reader A → List Declared → Shape → Option (Joined A)
  joined_of types read scope (leaf w) = None
  joined_of types read scope (node ss) = list_joined types read scope ss

  pub list_joined :
      {A : Type 0} → List Parent → Reader A → List Declared → Shapes → Option (Joined A)
  list_joined types read scope no_shapes = Some (all_parts no_parts)
  list_joined types read scope (shape (node ss) rest) = None
  list_joined types read scope (shape (leaf w) rest) = elim (joint_of w) [
    | And ↦ option_map (λ ps. all_parts (parts ps)) (parts_of types read scope rest)
    | Forall ↦ bound_parts types read scope rest
    | One ↦ option_map one (read scope w rest)
  ]

  -- (VARS), and one more
  pub bound_parts :
      {A : Type 0} → List Parent → Reader A → List Declared → Shapes → Option (Joined A)
  bound_parts types read scope no_shapes = None
  bound_parts types read scope (shape vars rest) =
      parameters_at types vars >>= λ vs.
      option_map (for_each vs) (only_part types read (vs ++ scope) rest)

  pub only_part : {A : Type 0} → List Parent → Reader A → List Declared → Shapes → Option (Joined A)
  only_part types read scope no_shapes = None
  only_part types read scope (shape s no_shapes) = joined_of types read scope s
  only_part types read scope (shape s (shape t ss)) = None

  pub parts_of :
      {A : Type 0} → List Parent → Reader A → List Declared → Shapes → Option (List (Joined A))
  parts_of types read scope no_shapes = Some []
  parts_of types read scope (shape s ss) =
      joined_of types read scope s >>= λ p. option_map (λ ps. p ∷ ps) (parts_of types read scope ss)
