-- The one spelling of a domain: the tree that it is printed as.
use Rattle.std.specs.Prelude.{ℕ, List, [], ◌∷◌, codes}
use Rattle.std.specs.Fmt.{signed_decimal}
use Rattle.tp_text.specs.Shapes.{Shape, leaf, node, Shapes, no_shapes, shape}
use Rattle.tp_syntax_ast.specs.Terms.{Argument, object, variable, Fact}
use Rattle.tp_syntax_ast.specs.Symbols.{Name, Declared, Parent, SignatureView}
use Rattle.tp_syntax_ast.specs.Expressions.{Expression, number, fluent, sum, negative, difference, product, the_duration}
use Rattle.tp_syntax_ast.specs.Conditions.{Condition, Conditions, all_of, any_of, negation, implies, for_all, for_some, fact, same, compared, no_conditions, condition}
use Rattle.tp_syntax_ast.specs.Parts.{Joined, Parts, all_parts, for_each, one, no_parts, part}
use Rattle.tp_syntax_ast.specs.Effects.{SimpleEffect, adds, deletes, writes, Effect, Timed, Constraint, Constraints, all_constraints, constraint, no_constraints, more_constraints}
use Rattle.tp_syntax_ast.specs.Actions.{Action, Body, instant, durative}
use Rattle.tp_syntax_ast.specs.Domains.{Domain}
use Rattle.tp_syntax_print.specs.Words.{comparison_word, writing_word}
use Rattle.tp_syntax_ast.specs.declared.words.TimeSpecifier.{TimeSpecifier}
use Rattle.tp_syntax_ast.specs.declared.words.TimeSpecifier.TheVariants.{AtStart, OverAll, AtEnd}

-- a list that begins with a word
abbrev pub headed : List ℕ → Shapes → Shape
headed w ss = node (shape (leaf w) ss)

abbrev pub one_shape : Shape → Shapes
one_shape s = shape s no_shapes

abbrev pub two_shapes : Shape → Shape → Shapes
two_shapes s t = shape s (shape t no_shapes)

abbrev pub argument_shape : Argument → Shape
argument_shape (object n) = leaf n
argument_shape (variable n) = leaf n

abbrev pub argument_shapes : List Argument → Shapes
argument_shapes [] = no_shapes
argument_shapes (a ∷ more) = shape (argument_shape a) (argument_shapes more)

abbrev pub fact_shape : Fact → Shape
fact_shape f = headed f.name (argument_shapes f.arguments)

abbrev pub name_shapes : List Name → Shapes
name_shapes [] = no_shapes
name_shapes (n ∷ ns) = shape (leaf n) (name_shapes ns)

-- one type, or a choice
abbrev pub types_shape : List Name → Shape
types_shape [] = headed (codes "either") no_shapes
types_shape (t ∷ []) = leaf t
types_shape (t ∷ u ∷ ts) = headed (codes "either") (name_shapes (t ∷ u ∷ ts))

-- each item carries its own '- T'
abbrev pub typed_shapes : List Declared → Shapes
typed_shapes [] = no_shapes
typed_shapes (d ∷ ds) =
    shape (leaf d.name) (shape (leaf (codes "-")) (shape (types_shape d.types) (typed_shapes ds)))

abbrev pub expression_shape : Expression → Shape
expression_shape (number n) = leaf (signed_decimal n)
expression_shape (fluent f) = fact_shape f
expression_shape (sum x y) =
    headed (codes "+") (two_shapes (expression_shape x) (expression_shape y))
expression_shape (negative x) = headed (codes "-") (one_shape (expression_shape x))
expression_shape (difference x y) =
    headed (codes "-") (two_shapes (expression_shape x) (expression_shape y))
expression_shape (product x y) =
    headed (codes "*") (two_shapes (expression_shape x) (expression_shape y))
expression_shape the_duration = leaf (codes "?duration")

abbrev mutual
  pub condition_shape : Condition → Shape
  condition_shape (all_of cs) = headed (codes "and") (condition_shapes cs)
  condition_shape (any_of cs) = headed (codes "or") (condition_shapes cs)
  condition_shape (negation c) = headed (codes "not") (one_shape (condition_shape c))
  condition_shape (implies c d) =
      headed (codes "imply") (two_shapes (condition_shape c) (condition_shape d))
  condition_shape (for_all vs c) =
      headed (codes "forall") (two_shapes (node (typed_shapes vs)) (condition_shape c))
  condition_shape (for_some vs c) =
      headed (codes "exists") (two_shapes (node (typed_shapes vs)) (condition_shape c))
  condition_shape (fact f) = fact_shape f
  condition_shape (same a b) = headed (codes "=") (two_shapes (argument_shape a) (argument_shape b))
  condition_shape (compared op x y) =
      headed (comparison_word op) (two_shapes (expression_shape x) (expression_shape y))

  pub condition_shapes : Conditions → Shapes
  condition_shapes no_conditions = no_shapes
  condition_shapes (condition c cs) = shape (condition_shape c) (condition_shapes cs)

abbrev mutual
  pub joined_shape : {A : Type 0} → (A → Shape) → Joined A → Shape
  joined_shape f (all_parts ps) = headed (codes "and") (part_shapes f ps)
  joined_shape f (for_each vs j) =
      headed (codes "forall") (two_shapes (node (typed_shapes vs)) (joined_shape f j))
  joined_shape f (one x) = f x

  pub part_shapes : {A : Type 0} → (A → Shape) → Parts A → Shapes
  part_shapes f no_parts = no_shapes
  part_shapes f (part j ps) = shape (joined_shape f j) (part_shapes f ps)

abbrev pub simple_effect_shape : SimpleEffect → Shape
simple_effect_shape (adds f) = fact_shape f
simple_effect_shape (deletes f) = headed (codes "not") (one_shape (fact_shape f))
simple_effect_shape (writes op f x) =
    headed (writing_word op) (two_shapes (fact_shape f) (expression_shape x))

abbrev pub effect_shape : Effect → Shape
effect_shape e = joined_shape simple_effect_shape e

abbrev pub specifier_word : TimeSpecifier → List ℕ
specifier_word AtStart = codes "at"
specifier_word OverAll = codes "over"
specifier_word AtEnd = codes "at"

abbrev pub specifier_place : TimeSpecifier → List ℕ
specifier_place AtStart = codes "start"
specifier_place OverAll = codes "all"
specifier_place AtEnd = codes "end"

abbrev pub timed_shape : {A : Type 0} → (A → Shape) → Timed A → Shape
timed_shape f t = headed (specifier_word t.specifier) (two_shapes (leaf (specifier_place t.specifier)) (f t.what))

abbrev mutual
  pub constraint_shape : Constraint → Shape
  constraint_shape (all_constraints rs) = headed (codes "and") (constraint_shapes rs)
  constraint_shape (constraint op x) =
      headed (comparison_word op) (two_shapes (leaf (codes "?duration")) (expression_shape x))

  pub constraint_shapes : Constraints → Shapes
  constraint_shapes no_constraints = no_shapes
  constraint_shapes (more_constraints r rs) = shape (constraint_shape r) (constraint_shapes rs)

-- a field's word and its value before the rest
abbrev pub field_before : List ℕ → Shape → Shapes → Shapes
field_before w s rest = shape (leaf w) (shape s rest)

abbrev pub timed_shapes : Joined (Timed Condition) → Joined (Timed Effect) → Shapes
timed_shapes c e =
    field_before (codes ":condition") (joined_shape (timed_shape condition_shape) c)
    (field_before (codes ":effect") (joined_shape (timed_shape effect_shape) e) no_shapes)

abbrev pub body_shapes : Body → Shapes
body_shapes (instant c e) =
    field_before (codes ":precondition")
    (condition_shape c) (field_before (codes ":effect") (effect_shape e) no_shapes)
body_shapes (durative r c e) = field_before (codes ":duration") (constraint_shape r) (timed_shapes c e)

abbrev pub body_word : Body → List ℕ
body_word (instant c e) = codes ":action"
body_word (durative r c e) = codes ":durative-action"

abbrev pub field_shapes : Action → Shapes
field_shapes a =
    field_before (codes ":parameters") (node (typed_shapes a.parameters)) (body_shapes a.body)

abbrev pub action_shape : Action → Shape
action_shape a = headed (body_word a.body) (shape (leaf a.name) (field_shapes a))

abbrev pub action_shapes : List Action → Shapes
action_shapes [] = no_shapes
action_shapes (a ∷ more) = shape (action_shape a) (action_shapes more)

abbrev pub type_shapes : List Parent → Shapes
type_shapes [] = no_shapes
type_shapes (t ∷ ts) =
    shape (leaf t.name) (shape (leaf (codes "-")) (shape (leaf t.parent) (type_shapes ts)))

-- of predicates and functions: functions carry no type
abbrev pub signature_shape : SignatureView → Shape
signature_shape f = headed f.name (typed_shapes f.parameters)

abbrev pub signature_shapes : List SignatureView → Shapes
signature_shapes [] = no_shapes
signature_shapes (f ∷ fs) = shape (signature_shape f) (signature_shapes fs)

-- a section before the rest, left out where it is empty
abbrev pub section_before : List ℕ → Shapes → Shapes → Shapes
section_before w no_shapes rest = rest
section_before w (shape s ss) rest = shape (headed w (shape s ss)) rest

abbrev pub section_shapes : Domain → Shapes
section_shapes d =
    section_before (codes ":requirements") (name_shapes d.requirements)
    (section_before (codes ":types") (type_shapes d.types)
    (section_before (codes ":constants") (typed_shapes d.constants)
    (section_before (codes ":predicates") (signature_shapes d.predicates)
    (section_before (codes ":functions") (signature_shapes d.functions) (action_shapes d.actions)))))

abbrev pub name_shape : Domain → Shape
name_shape d = headed (codes "domain") (one_shape (leaf d.name))

abbrev pub domain_shape : Domain → Shape
domain_shape d = headed (codes "define") (shape (name_shape d) (section_shapes d))
