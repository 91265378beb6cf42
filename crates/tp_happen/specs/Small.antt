-- Numbers that the machine works with: none passes 10^15 in absolute value.
use Rattle.std.specs.Prelude.{Bool, true, ◌&&◌, Option, Some, None, ℤ, unsigned_abs, nat_le}
use Rattle.tp_task.specs.declared.events.Expr.{Expr}
use Rattle.tp_task.specs.declared.events.Expr.TheVariants.{Number, Fluent, Duration, Negated', Sum', Difference', Product'}
use Rattle.tp_task.specs.declared.events.Cond.{Cond, Row_of-Cond, end_of-Cond, more_of-Cond}
use Rattle.tp_task.specs.declared.events.Cond.TheVariants.{Atom, Compare, Not', And', Or'}
use Rattle.tp_task.specs.State.{State, value}

abbrev pub is_small : Option ℤ → Bool
is_small (Some x) = nat_le (unsigned_abs x) 1000000000000000
is_small None = true

-- the value of an expression and of each of its parts is small
abbrev pub values_small : State → Option ℤ → Expr → Bool
values_small s d (Number n) = is_small (Some n)
values_small s d (Fluent f) = is_small (s.number f)
values_small s d Duration = is_small d
values_small s d (Negated' p x) = values_small s d x
values_small s d (Sum' p x q y) =
    values_small s d x && (values_small s d y && is_small (value s d (Sum' p x q y)))
values_small s d (Difference' p x q y) =
    values_small s d x && (values_small s d y && is_small (value s d (Difference' p x q y)))
values_small s d (Product' p x q y) =
    values_small s d x && (values_small s d y && is_small (value s d (Product' p x q y)))

-- the same of the expressions of a condition
abbrev mutual
  pub all_small : State → Cond → Bool
  all_small s (Atom a) = true
  all_small s (Compare how x y) = values_small s None x.value && values_small s None y.value
  all_small s (Not' p c) = all_small s c
  all_small s (And' shape cs) = rows_small s cs
  all_small s (Or' shape cs) = rows_small s cs

  pub rows_small : {m : _} → State → Row_of-Cond m → Bool
  rows_small s end_of-Cond = true
  rows_small s (more_of-Cond c cs) = all_small s c && rows_small s cs
