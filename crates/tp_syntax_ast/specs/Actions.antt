-- Actions: fields in any order, each at most once.
use Rattle.std.specs.Prelude.{ℕ, List, [], ◌∷◌, Bool, true, false, ◌&&◌, ◌==◌, not, if◌then◌else◌, Option, Some, None, option_map}
use Rattle.std.specs.List.{list_all}
use Rattle.std.specs.Option.{is_some}
use Rattle.tp_text.specs.Shapes.{Shape, leaf, node, Shapes, no_shapes, shape}
use Rattle.tp_syntax_ast.specs.Gives.{◌>>=◌, provided}
use Rattle.tp_syntax_ast.specs.Terms.{name_of}
use Rattle.tp_syntax_ast.specs.Symbols.{Name, Declared, Symbols}
use Rattle.tp_syntax_ast.specs.Words.{key_of}
use Rattle.tp_syntax_ast.specs.TypedLists.{parameters_at}
use Rattle.tp_syntax_ast.specs.Conditions.{Condition, all_of, no_conditions, condition_of}
use Rattle.tp_syntax_ast.specs.Parts.{Joined, all_parts, no_parts}
use Rattle.tp_syntax_ast.specs.Effects.{Effect, effect_of, Timed, timed_condition_of, timed_effect_of, Constraint, constraint_of}
use Rattle.tp_syntax_ast.specs.declared.words.Key.{Key}
use Rattle.tp_syntax_ast.specs.declared.words.Key.TheVariants.{Parameters, Precondition, Duration}
use Rattle.tp_syntax_ast.specs.declared.words.Key.TheVariants as keys

pub record Field : Type 0 where
  pub key : Key
  pub value : Shape

-- a field's word and its value, one after another
unfoldable pub fields_of : Shapes → Option (List Field)
fields_of no_shapes = Some []
fields_of (shape (node ss) rest) = None
fields_of (shape (leaf w) no_shapes) = None
fields_of (shape (leaf w) (shape s rest)) =
    key_of w >>= λ k. option_map (λ fs. record { key = k; value = s } ∷ fs) (fields_of rest)

abbrev pub key_number : Key → ℕ
key_number Parameters = 0
key_number Precondition = 1
key_number Duration = 2
key_number keys.Condition = 3
key_number keys.Effect = 4

abbrev pub field : Key → List Field → Option Shape
field k [] = None
field k (f ∷ fs) = if key_number f.key == key_number k then Some f.value else field k fs

abbrev pub each_once : List Field → Bool
each_once [] = true
each_once (f ∷ fs) = not (is_some (field f.key fs)) && each_once fs

-- the fields of an action, or of a durative one
abbrev pub is_field_of : Bool → Key → Bool
is_field_of true Precondition = false
is_field_of false Duration = false
is_field_of false keys.Condition = false
is_field_of _ _ = true

-- a field that may be missing
abbrev pub or_missing : {A : Type 0} → A → (Shape → Option A) → Option Shape → Option A
or_missing missing read None = Some missing
or_missing missing read (Some s) = read s

pub data Body : Type 0 where
  instant : Condition → Effect → Body
  durative : Constraint → Joined (Timed Condition) → Joined (Timed Effect) → Body

pub record Action : Type 0 where
  pub name : Name
  pub parameters : List Declared
  pub body : Body

unfoldable pub body_of : Symbols → Bool → List Declared → List Field → Option Body
body_of σ false vs fs =
    or_missing (all_of no_conditions) (condition_of σ vs) (field Precondition fs) >>= λ c.
    or_missing (all_parts no_parts) (effect_of σ false vs) (field keys.Effect fs) >>= λ e.
    Some (instant c e)
body_of σ true vs fs =
    (field Duration fs >>= constraint_of σ vs) >>= λ r.
    or_missing (all_parts no_parts) (timed_condition_of σ vs) (field keys.Condition fs) >>= λ c.
    or_missing (all_parts no_parts) (timed_effect_of σ vs) (field keys.Effect fs) >>= λ e.
    Some (durative r c e)

-- NAME FIELDS
unfoldable pub action_of : Symbols → Bool → Shapes → Option Action
action_of σ lasts (shape (leaf w) rest) =
    name_of w >>= λ n. fields_of rest >>= λ fs.
    provided (each_once fs && list_all (λ f. is_field_of lasts f.key) fs) fs >>= λ gs.
    or_missing [] (parameters_at σ.types) (field Parameters gs) >>= λ vs.
    option_map (λ b. record { name = n; parameters = vs; body = b }) (body_of σ lasts vs gs)
action_of σ lasts _ = None
