-- Conditions, and what spells them.
use Rattle.std.specs.Prelude.{ℕ, List, [], ◌∷◌, ◌++◌, Bool, true, false, ◌&&◌, ◌||◌, if◌then◌else◌, Option, Some, None, option_map}
use Rattle.std.specs.Option.{is_some}
use Rattle.tp_text.specs.Shapes.{Shape, leaf, node, Shapes, no_shapes, shape}
use Rattle.tp_syntax_ast.specs.Gives.{◌>>=◌, provided}
use Rattle.tp_syntax_ast.specs.Terms.{Argument, Fact, is_name, is_variable, terms_of}
use Rattle.tp_syntax_ast.specs.Symbols.{Declared, argument_types, Symbols, atom_in}
use Rattle.tp_syntax_ast.specs.Words.{cond_word_of, comparison}
use Rattle.tp_syntax_ast.specs.Expressions.{Expression, expressions_of}
use Rattle.tp_syntax_ast.specs.TypedLists.{parameters_at}
use Rattle.tp_syntax_ast.specs.declared.words.Comparison.{Comparison}
use Rattle.tp_syntax_ast.specs.declared.words.CondKind.{CondKind}
use Rattle.tp_syntax_ast.specs.declared.words.CondKind.TheVariants.{Joined, Bound, Simple}
use Rattle.tp_syntax_ast.specs.declared.words.CondWord.{CondWord}
use Rattle.tp_syntax_ast.specs.declared.words.CondWord.TheVariants.{And, Or, Not, Imply, Forall, Exists, Equal, Less, AtMost, AtLeast, Greater, Other}

mutual
  pub data Condition : Type 0 where
    all_of : Conditions → Condition
    any_of : Conditions → Condition
    negation : Condition → Condition
    implies : Condition → Condition → Condition
    for_all : List Declared → Condition → Condition
    for_some : List Declared → Condition → Condition
    fact : Fact → Condition
    same : Argument → Argument → Condition
    compared : Comparison → Expression → Expression → Condition

  pub data Conditions : Type 0 where
    no_conditions : Conditions
    condition : Condition → Conditions → Conditions

abbrev pub conditions : List Condition → Conditions
conditions [] = no_conditions
conditions (c ∷ cs) = condition c (conditions cs)

-- what stands after the word: conditions, variables and a condition, or neither
abbrev pub kind_of : CondWord → CondKind
kind_of And = Joined
kind_of Or = Joined
kind_of Not = Joined
kind_of Imply = Joined
kind_of Forall = Bound
kind_of Exists = Bound
kind_of _ = Simple

abbrev pub pair_of : {A : Type 0} → List A → Option (A × A)
pair_of [] = None
pair_of (x ∷ []) = None
pair_of (x ∷ y ∷ []) = Some (x, y)
pair_of (x ∷ y ∷ z ∷ zs) = None

abbrev pub negated : List Condition → Option Condition
negated [] = None
negated (c ∷ []) = Some (negation c)
negated (c ∷ d ∷ cs) = None

abbrev pub implied : List Condition → Option Condition
implied [] = None
implied (c ∷ []) = None
implied (c ∷ d ∷ []) = Some (implies c d)
implied (c ∷ d ∷ e ∷ cs) = None

unfoldable pub combined : CondWord → List Condition → Option Condition
combined And cs = Some (all_of (conditions cs))
combined Or cs = Some (any_of (conditions cs))
combined Not cs = negated cs
combined Imply cs = implied cs
combined _ cs = None

abbrev pub bound : CondWord → List Declared → Condition → Condition
bound Exists vs c = for_some vs c
bound _ vs c = for_all vs c

-- a name or a variable
unfoldable pub is_term : Shape → Bool
is_term (leaf w) = is_variable w || is_name w
is_term (node ss) = false

abbrev pub are_terms : Shapes → Bool
are_terms no_shapes = true
are_terms (shape s ss) = is_term s && are_terms ss

abbrev pub equated : Symbols → List Declared → List Argument → Option Condition
equated σ scope (a ∷ b ∷ []) =
    provided (is_some (argument_types σ.objects scope a)
    && is_some (argument_types σ.objects scope b)) (same a b)
equated σ scope _ = None

abbrev pub related : CondWord → List Expression → Option Condition
related h (x ∷ y ∷ []) = option_map (λ op. compared op x y) (comparison h)
related h _ = None

abbrev pub equality : Symbols → List Declared → Shapes → Option Condition
equality σ scope rest = terms_of rest >>= equated σ scope

abbrev pub relation : Symbols → List Declared → CondWord → Shapes → Option Condition
relation σ scope h rest =
    expressions_of σ (record { scope = scope; duration = false }) rest >>= related h

-- a condition that has none inside
unfoldable pub simple : Symbols → List Declared → CondWord → List ℕ → Shapes → Option Condition
simple σ scope Equal w rest =
    if are_terms rest then equality σ scope rest else relation σ scope Equal rest
simple σ scope Less w rest = relation σ scope Less rest
simple σ scope AtMost w rest = relation σ scope AtMost rest
simple σ scope AtLeast w rest = relation σ scope AtLeast rest
simple σ scope Greater w rest = relation σ scope Greater rest
simple σ scope Other w rest = option_map fact (atom_in σ σ.predicates scope w rest)
simple σ scope _ w rest = None

-- the condition that a tree spells
unfoldable mutual
  pub condition_of : Symbols → List Declared → Shape → Option Condition
  condition_of σ scope (leaf w) = None
  condition_of σ scope (node ss) = list_condition σ scope ss

  pub list_condition : Symbols → List Declared → Shapes → Option Condition
  list_condition σ scope no_shapes = Some (all_of no_conditions)
  list_condition σ scope (shape (node ss) rest) = None
  list_condition σ scope (shape (leaf w) rest) = elim (kind_of (cond_word_of w)) [
    | Joined ↦ conditions_of σ scope rest >>= combined (cond_word_of w)
    | Bound ↦ bound_condition σ scope (cond_word_of w) rest
    | Simple ↦ simple σ scope (cond_word_of w) w rest
  ]

  -- (VARS) C
  pub bound_condition : Symbols → List Declared → CondWord → Shapes → Option Condition
  bound_condition σ scope h no_shapes = None
  bound_condition σ scope h (shape vars rest) =
      parameters_at σ.types vars >>= λ vs.
      option_map (bound h vs) (only_condition σ (vs ++ scope) rest)

  pub only_condition : Symbols → List Declared → Shapes → Option Condition
  only_condition σ scope no_shapes = None
  only_condition σ scope (shape s no_shapes) = condition_of σ scope s
  only_condition σ scope (shape s (shape t ss)) = None

  pub conditions_of : Symbols → List Declared → Shapes → Option (List Condition)
  conditions_of σ scope no_shapes = Some []
  conditions_of σ scope (shape s ss) =
      condition_of σ scope s >>= λ c. option_map (λ cs. c ∷ cs) (conditions_of σ scope ss)
