-- Atoms and expressions, and what spells them.
use Rattle.std.specs.Prelude.{ℕ, List, [], ◌∷◌, Bool, true, false, ◌&&◌, codes, if◌then◌else◌, Option, Some, None, option_map}
use lib.IntN.{ℤ}
use Rattle.tp_text.specs.Shapes.{Shape, leaf, node, Shapes, no_shapes, shape}
use Rattle.tp_text.specs.Numbers.{whole_of}
use Rattle.tp_syntax_ast.specs.Gives.{◌>>=◌}
use Rattle.tp_syntax_ast.specs.Words.{is_word, operator_of}
use Rattle.tp_syntax_ast.specs.Terms.{Fact}
use Rattle.tp_syntax_ast.specs.Symbols.{Declared, Symbols, atom_in}
use Rattle.tp_syntax_ast.specs.declared.words.Operator.{Operator}
use Rattle.tp_syntax_ast.specs.declared.words.Operator.TheVariants.{Plus, Minus, Times, Other}

pub data Expression : Type 0 where
  number : ℤ → Expression
  fluent : Fact → Expression
  sum : Expression → Expression → Expression
  negative : Expression → Expression
  difference : Expression → Expression → Expression
  product : Expression → Expression → Expression
  the_duration : Expression

-- what an expression may name: the variables in scope, and '?duration' or not
pub record Terms : Type 0 where
  pub scope : List Declared
  pub duration : Bool

abbrev pub terms_for : List Declared → Bool → Terms
terms_for scope duration = record { scope = scope; duration = duration }

unfoldable pub word_expression : Bool → List ℕ → Option Expression
word_expression duration w =
    if duration && is_word (codes "?duration") w then Some the_duration
    else option_map number (whole_of w)

abbrev pub is_operator : Operator → Bool
is_operator Other = false
is_operator _ = true

-- as many operands as the table has
abbrev pub summed : List Expression → Option Expression
summed [] = None
summed (x ∷ []) = None
summed (x ∷ y ∷ []) = Some (sum x y)
summed (x ∷ y ∷ z ∷ xs) = None

abbrev pub multiplied : List Expression → Option Expression
multiplied [] = None
multiplied (x ∷ []) = None
multiplied (x ∷ y ∷ []) = Some (product x y)
multiplied (x ∷ y ∷ z ∷ xs) = None

abbrev pub subtracted : List Expression → Option Expression
subtracted [] = None
subtracted (x ∷ []) = Some (negative x)
subtracted (x ∷ y ∷ []) = Some (difference x y)
subtracted (x ∷ y ∷ z ∷ xs) = None

unfoldable pub computed : Operator → List Expression → Option Expression
computed Plus xs = summed xs
computed Minus xs = subtracted xs
computed Times xs = multiplied xs
computed _ xs = None

unfoldable mutual
  pub expression_of : Symbols → Terms → Shape → Option Expression
  expression_of σ may (leaf w) = word_expression may.duration w
  expression_of σ may (node ss) = list_expression σ may ss

  pub list_expression : Symbols → Terms → Shapes → Option Expression
  list_expression σ may no_shapes = None
  list_expression σ may (shape (node ss) rest) = None
  list_expression σ may (shape (leaf w) rest) = elim (is_operator (operator_of w)) [
    | true ↦ expressions_of σ may rest >>= computed (operator_of w)
    | false ↦ option_map fluent (atom_in σ σ.functions may.scope w rest)
  ]

  pub expressions_of : Symbols → Terms → Shapes → Option (List Expression)
  expressions_of σ may no_shapes = Some []
  expressions_of σ may (shape s ss) =
      expression_of σ may s >>= λ x. option_map (λ xs. x ∷ xs) (expressions_of σ may ss)
