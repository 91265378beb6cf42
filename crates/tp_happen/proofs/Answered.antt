-- Clauses on one kind of answer.
use Rattle.std.proofs.Common.{◌≡◌, Option, None, subst}
use Rattle.std.specs.Option.{IfNone}
use Rattle.tp_happen.specs.declared.happening.ApplyFault.{ApplyFault}
use Rattle.tp_happen.specs.declared.happening.ApplyFault.TheVariants.{Memory, Range}
use Rattle.tp_happen.specs.Fault.{OnRange}

pub on_range : (e : ApplyFault) (P : Type 0) → P → OnRange e P
on_range Memory P h = tt
on_range Range P h = h

pub on_range_weaker : (e : ApplyFault) (P Q : Type 0) → (P → Q) → OnRange e P → OnRange e Q
on_range_weaker Memory P Q f h = tt
on_range_weaker Range P Q f h = f h

pub if_none : {X : Type 0} (r : Option X) (P : Type 0) → r ≡ None → IfNone r P → P
if_none r P e h = subst (λ x. IfNone x P) e h
