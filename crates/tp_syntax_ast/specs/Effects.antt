-- Effects, timed conditions and effects, and duration constraints.
use Rattle.std.specs.Prelude.{ℕ, List, [], ◌∷◌, Bool, true, false, codes, Option, Some, None, option_map}
use Rattle.tp_text.specs.Shapes.{Shape, leaf, node, Shapes, no_shapes, shape}
use Rattle.tp_syntax_ast.specs.Gives.{◌>>=◌, provided}
use Rattle.tp_syntax_ast.specs.Words.{is_word, effect_word_of, specifier_of, cond_word_of, constraint_form_of, duration_comparison}
use Rattle.tp_syntax_ast.specs.Lists.{only, both}
use Rattle.tp_syntax_ast.specs.Terms.{Fact}
use Rattle.tp_syntax_ast.specs.Symbols.{Declared, SignatureView, Symbols, atom_in}
use Rattle.tp_syntax_ast.specs.Expressions.{Expression, Terms, terms_for, expression_of}
use Rattle.tp_syntax_ast.specs.Conditions.{Condition, condition_of}
use Rattle.tp_syntax_ast.specs.Parts.{Joined, joined_of}
use Rattle.tp_syntax_ast.specs.declared.words.Comparison.{Comparison}
use Rattle.tp_syntax_ast.specs.declared.words.Writing.{Writing}
use Rattle.tp_syntax_ast.specs.declared.words.Writing.TheVariants as writings
use Rattle.tp_syntax_ast.specs.declared.words.TimeSpecifier.{TimeSpecifier}
use Rattle.tp_syntax_ast.specs.declared.words.TimeSpecifier.TheVariants.{AtStart, OverAll, AtEnd}
use Rattle.tp_syntax_ast.specs.declared.words.ConstraintForm.TheVariants.{And, At, Limit}
use Rattle.tp_syntax_ast.specs.declared.words.EffectWord.{EffectWord}
use Rattle.tp_syntax_ast.specs.declared.words.EffectWord.TheVariants.{Not, Assign, Increase, Decrease, ScaleUp, ScaleDown, When, Other}

pub data SimpleEffect : Type 0 where
  adds : Fact → SimpleEffect
  deletes : Fact → SimpleEffect
  writes : Writing → Fact → Expression → SimpleEffect

-- (NAME TERM ..) as a tree
unfoldable pub atom_at : Symbols → List SignatureView → List Declared → Shape → Option Fact
atom_at σ forms scope (leaf w) = None
atom_at σ forms scope (node no_shapes) = None
atom_at σ forms scope (node (shape (node ss) rest)) = None
atom_at σ forms scope (node (shape (leaf w) rest)) = atom_in σ forms scope w rest

-- (not ATOM)
unfoldable pub deleted : Symbols → List Declared → Shapes → Option SimpleEffect
deleted σ scope rest = only rest >>= λ s. option_map deletes (atom_at σ σ.predicates scope s)

-- (OP F X)
unfoldable pub written : Symbols → Terms → Writing → Shapes → Option SimpleEffect
written σ may op rest =
    both rest >>= λ p.
    atom_at σ σ.functions may.scope p.0 >>= λ a. option_map (writes op a) (expression_of σ may p.1)

-- what stands behind the word
unfoldable pub changed : EffectWord → Symbols → Bool → List Declared → List ℕ → Shapes → Option SimpleEffect
changed Other σ duration scope w rest = option_map adds (atom_in σ σ.predicates scope w rest)
changed Not σ duration scope w rest = deleted σ scope rest
changed Assign σ duration scope w rest = written σ (terms_for scope duration) writings.Assign rest
changed Increase σ duration scope w rest =
    written σ (terms_for scope duration) writings.Increase rest
changed Decrease σ duration scope w rest =
    written σ (terms_for scope duration) writings.Decrease rest
changed ScaleUp σ duration scope w rest = written σ (terms_for scope duration) writings.ScaleUp rest
changed ScaleDown σ duration scope w rest = None
changed When σ duration scope w rest = None

unfoldable pub simple_effect_of : Symbols → Bool → List Declared → List ℕ → Shapes → Option SimpleEffect
simple_effect_of σ duration scope w rest = changed (effect_word_of w) σ duration scope w rest

abbrev pub Effect : Type 0
Effect = Joined SimpleEffect

-- E, in which '?duration' may stand or not
abbrev pub effect_of : Symbols → Bool → List Declared → Shape → Option Effect
effect_of σ duration scope s = joined_of σ.types (simple_effect_of σ duration) scope s

-- something with its time specifier
pub record Timed (A : Type 0) : Type 0 where
  pub specifier : TimeSpecifier
  pub what : A

-- the word after 'at' or 'over'
unfoldable pub specifier_at : List ℕ → Shape → Option TimeSpecifier
specifier_at w (leaf v) = specifier_of w v
specifier_at w (node ss) = None

unfoldable pub specified_tree : List ℕ → Shapes → Option (TimeSpecifier × Shape)
specified_tree w rest = both rest >>= λ p. option_map (λ m. (m, p.1)) (specifier_at w p.0)

unfoldable pub specified :
    {A : Type 0} → (TimeSpecifier → Shape → Option A) → List ℕ → Shapes → Option (Timed A)
specified read w rest =
    specified_tree w rest >>= λ p. option_map (λ x. record { specifier = p.0; what = x }) (read p.0 p.1)

-- TC
abbrev pub timed_condition_of : Symbols → List Declared → Shape → Option (Joined (Timed Condition))
timed_condition_of σ scope s =
    joined_of σ.types (λ within. specified (λ m. condition_of σ within)) scope s

-- an effect has a start and an end alone
abbrev pub effect_at : Symbols → List Declared → TimeSpecifier → Shape → Option Effect
effect_at σ scope OverAll s = None
effect_at σ scope AtStart s = effect_of σ true scope s
effect_at σ scope AtEnd s = effect_of σ true scope s

-- TE
abbrev pub timed_effect_of : Symbols → List Declared → Shape → Option (Joined (Timed Effect))
timed_effect_of σ scope s = joined_of σ.types (λ within. specified (effect_at σ within)) scope s

mutual
  pub data Constraint : Type 0 where
    all_constraints : Constraints → Constraint
    constraint : Comparison → Expression → Constraint

  pub data Constraints : Type 0 where
    no_constraints : Constraints
    more_constraints : Constraint → Constraints → Constraints

abbrev pub constraints_in : List Constraint → Constraints
constraints_in [] = no_constraints
constraints_in (r ∷ rs) = more_constraints r (constraints_in rs)

unfoldable pub is_duration : Shape → Bool
is_duration (leaf d) = is_word (codes "?duration") d
is_duration (node ss) = false

-- ?duration X
unfoldable pub limited : Symbols → List Declared → List ℕ → Shapes → Option Constraint
limited σ scope w rest =
    duration_comparison (cond_word_of w) >>= λ op.
    both rest >>= λ p. provided (is_duration p.0) p.1 >>= λ x.
    option_map (constraint op) (expression_of σ (terms_for scope false) x)

unfoldable pub is_start : Shape → Bool
is_start (leaf v) = is_word (codes "start") v
is_start (node ss) = false

-- R
unfoldable mutual
  pub constraint_of : Symbols → List Declared → Shape → Option Constraint
  constraint_of σ scope (leaf w) = None
  constraint_of σ scope (node ss) = list_constraint σ scope ss

  pub list_constraint : Symbols → List Declared → Shapes → Option Constraint
  list_constraint σ scope no_shapes = Some (all_constraints no_constraints)
  list_constraint σ scope (shape (node ss) rest) = None
  list_constraint σ scope (shape (leaf w) rest) = elim (constraint_form_of w) [
    | And ↦ option_map (λ rs. all_constraints (constraints_in rs)) (constraints_of σ scope rest)
    | At ↦ start_constraint σ scope rest
    | Limit ↦ limited σ scope w rest
  ]

  -- 'at start' is not kept
  pub start_constraint : Symbols → List Declared → Shapes → Option Constraint
  start_constraint σ scope no_shapes = None
  start_constraint σ scope (shape s rest) =
      elim (is_start s) [ true ↦ only_constraint σ scope rest | false ↦ None ]

  pub only_constraint : Symbols → List Declared → Shapes → Option Constraint
  only_constraint σ scope no_shapes = None
  only_constraint σ scope (shape s no_shapes) = constraint_of σ scope s
  only_constraint σ scope (shape s (shape t ss)) = None

  pub constraints_of : Symbols → List Declared → Shapes → Option (List Constraint)
  constraints_of σ scope no_shapes = Some []
  constraints_of σ scope (shape s ss) =
      constraint_of σ scope s >>= λ r. option_map (λ rs. r ∷ rs) (constraints_of σ scope ss)
