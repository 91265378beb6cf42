use Rattle.std.proofs.Common.{◌≡◌, ℕ, List, None, refl}
use Rattle.tp_text.specs.Shapes.{leaf, node, Shapes, no_shapes, shape}
use Rattle.tp_syntax_ast.specs.Symbols.{Declared, SignatureView, Symbols, atom_in}
use Rattle.tp_syntax_ast.specs.Effects.{atom_at}

-- an atom's tree, by what the tree is
module _ (σ : Symbols) (signatures : List SignatureView) (scope : List Declared) where
  pub at_word : (w : List ℕ) → atom_at σ signatures scope (leaf w) ≡ None
  unfolding atom_at
  at_word w = refl

  pub at_nothing : atom_at σ signatures scope (node no_shapes) ≡ None
  unfolding atom_at
  at_nothing = refl

  pub at_list : (ss rest : Shapes) → atom_at σ signatures scope (node (shape (node ss) rest)) ≡ None
  unfolding atom_at
  at_list ss rest = refl

  pub at_name : (w : List ℕ) (rest : Shapes) → atom_at σ signatures scope (node (shape (leaf w) rest)) ≡ atom_in σ signatures scope w rest
  unfolding atom_at
  at_name w rest = refl
