-- States, values of expressions, and what holds in a state.
use Rattle.std.specs.Prelude.{ℕ, ◌/◌, ◌%◌, Bool, true, false, ◌==◌, not, ◌&&◌, ◌||◌, if◌then◌else◌, List, [], ◌∷◌, ◌++◌, Option, Some, None, ℤ, pos, ◌+ℤ◌, ◌-ℤ◌, ◌*ℤ◌, neg_ℤ, is_some, int_lt, int_le}
use Rattle.std.specs.Ordering.{int_eq}
use Rattle.tp_task.specs.declared.events.Comparison.{Comparison}
use Rattle.tp_task.specs.declared.events.Comparison.TheVariants.{Less, AtMost, Equal, AtLeast, Greater}
use Rattle.tp_task.specs.declared.events.Expr.{Expr}
use Rattle.tp_task.specs.declared.events.Expr.TheVariants.{Number, Fluent, Duration, Negated', Sum', Difference', Product'}
use Rattle.tp_task.specs.declared.events.Cond.{Cond, Row_of-Cond, end_of-Cond, more_of-Cond}
use Rattle.tp_task.specs.declared.events.Cond.TheVariants.{Atom, Compare, Not', And', Or'}

-- Which atoms are true, and the number of each fluent that has one.
pub record State : Type 0 where
  pub atom : ℕ → Bool
  pub number : ℕ → Option ℤ

-- an operation on two values, where both are there
abbrev pub both : (ℤ → ℤ → ℤ) → Option ℤ → Option ℤ → Option ℤ
both op (Some x) (Some y) = Some (op x y)
both op (Some x) None = None
both op None y = None

abbrev pub negated : Option ℤ → Option ℤ
negated (Some x) = Some (neg_ℤ x)
negated None = None

-- The duration in units: ticks that are no multiple of the scale have none.
abbrev pub units : ℕ → ℕ → Option ℤ
units scale ticks = if ticks % scale == 0 then Some (pos (ticks / scale)) else None

-- The value of an expression, where each fluent that it mentions has one.
abbrev pub value : State → Option ℤ → Expr → Option ℤ
value s duration (Number n) = Some n
value s duration (Fluent f) = s.number f
value s duration Duration = duration
value s duration (Negated' p x) = negated (value s duration x)
value s duration (Sum' p x q y) = both ◌+ℤ◌ (value s duration x) (value s duration y)
value s duration (Difference' p x q y) = both ◌-ℤ◌ (value s duration x) (value s duration y)
value s duration (Product' p x q y) = both ◌*ℤ◌ (value s duration x) (value s duration y)

-- how two numbers compare
abbrev pub compares : Comparison → ℤ → ℤ → Bool
compares Less x y = int_lt x y
compares AtMost x y = int_le x y
compares Equal x y = int_eq x y
compares AtLeast x y = int_le y x
compares Greater x y = int_lt y x

-- the same of two values, false where one is missing
abbrev pub compares_values : Comparison → Option ℤ → Option ℤ → Bool
compares_values how (Some x) (Some y) = compares how x y
compares_values how (Some x) None = false
compares_values how None y = false

-- The fluents that an expression mentions, and the atoms and fluents that a condition mentions.
abbrev pub fluents_of : Expr → List ℕ
fluents_of (Number n) = []
fluents_of (Fluent f) = f ∷ []
fluents_of Duration = []
fluents_of (Negated' p x) = fluents_of x
fluents_of (Sum' p x q y) = fluents_of x ++ fluents_of y
fluents_of (Difference' p x q y) = fluents_of x ++ fluents_of y
fluents_of (Product' p x q y) = fluents_of x ++ fluents_of y

-- an expression mentions the duration
abbrev pub mentions_duration : Expr → Bool
mentions_duration (Number n) = false
mentions_duration (Fluent f) = false
mentions_duration Duration = true
mentions_duration (Negated' p x) = mentions_duration x
mentions_duration (Sum' p x q y) = mentions_duration x || mentions_duration y
mentions_duration (Difference' p x q y) = mentions_duration x || mentions_duration y
mentions_duration (Product' p x q y) = mentions_duration x || mentions_duration y

abbrev mutual
  pub atoms_in : Cond → List ℕ
  atoms_in (Atom a) = a ∷ []
  atoms_in (Compare how x y) = []
  atoms_in (Not' p c) = atoms_in c
  atoms_in (And' shape cs) = atoms_in_row cs
  atoms_in (Or' shape cs) = atoms_in_row cs

  pub atoms_in_row : {m : _} → Row_of-Cond m → List ℕ
  atoms_in_row end_of-Cond = []
  atoms_in_row (more_of-Cond c cs) = atoms_in c ++ atoms_in_row cs

abbrev mutual
  pub fluents_in : Cond → List ℕ
  fluents_in (Atom a) = []
  fluents_in (Compare how x y) = fluents_of x.value ++ fluents_of y.value
  fluents_in (Not' p c) = fluents_in c
  fluents_in (And' shape cs) = fluents_in_row cs
  fluents_in (Or' shape cs) = fluents_in_row cs

  pub fluents_in_row : {m : _} → Row_of-Cond m → List ℕ
  fluents_in_row end_of-Cond = []
  fluents_in_row (more_of-Cond c cs) = fluents_in c ++ fluents_in_row cs

-- The truth of a condition, by cases.
abbrev mutual
  pub truth : State → Cond → Bool
  truth s (Atom a) = s.atom a
  truth s (Compare how x y) = compares_values how (value s None x.value) (value s None y.value)
  truth s (Not' p c) = not (truth s c)
  truth s (And' shape cs) = all_true s cs
  truth s (Or' shape cs) = some_true s cs

  pub all_true : {m : _} → State → Row_of-Cond m → Bool
  all_true s end_of-Cond = true
  all_true s (more_of-Cond c cs) = truth s c && all_true s cs

  pub some_true : {m : _} → State → Row_of-Cond m → Bool
  some_true s end_of-Cond = false
  some_true s (more_of-Cond c cs) = truth s c || some_true s cs

-- Each expression of a condition has a value: each fluent that it mentions has one.
abbrev mutual
  pub has_values : State → Cond → Bool
  has_values s (Atom a) = true
  has_values s (Compare how x y) = is_some (value s None x.value) && is_some (value s None y.value)
  has_values s (Not' p c) = has_values s c
  has_values s (And' shape cs) = have_values s cs
  has_values s (Or' shape cs) = have_values s cs

  pub have_values : {m : _} → State → Row_of-Cond m → Bool
  have_values s end_of-Cond = true
  have_values s (more_of-Cond c cs) = has_values s c && have_values s cs

-- A condition holds if each of its expressions has a value and it is true.
abbrev pub holds : State → Cond → Bool
holds s c = has_values s c && truth s c
