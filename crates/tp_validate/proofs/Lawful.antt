-- The ticks that a duration constraint leaves are the lawful durations.
use Rattle.std.proofs.Common.{◌≡◌, ℕ, ◌≤◌, Bool, true, false, not, ◌&&◌, nat_le, List, [], ◌∷◌, Option, Some, None, is_some, ℤ, pos, ◌*ℤ◌, ◌≤ℤ◌, int_le, refl, ap, ◌∙◌, arith}
use Rattle.std.specs.List.{list_all}
use Rattle.std.proofs.lemmas.Int.{ints, clamps}
use Rattle.std.proofs.lemmas.Bool.Decides.{nat_tests}
use Rattle.tp_task.specs.declared.events.GroundEvent.{GroundEvent}
use Rattle.tp_task.specs.declared.events.Comparison.{Comparison}
use Rattle.tp_task.specs.declared.events.Comparison.TheVariants.{Less, AtMost, Equal, AtLeast, Greater}
use Rattle.tp_task.specs.declared.events.Limit.{Limit}
use Rattle.tp_task.specs.declared.events.Cond.{Cond}
use Rattle.tp_task.specs.declared.events.Body.TheVariants.{Durative}
use Rattle.tp_task.specs.State.{State, both, value, compares, compares_values}
use Rattle.tp_task.specs.Verdict.{is_unlawful}
use Rattle.tp_validate.specs.declared.durations.Ticks.{Ticks}
use Rattle.tp_validate.specs.Constraints.{limit_holds, is_among, narrowed, narrowed_by, narrowed_all, lawful_ticks}

and_assoc : (a b c : Bool) → ((a && b) && c) ≡ (a && (b && c))
and_assoc true b c = refl
and_assoc false b c = refl

and_true : (a : Bool) → a ≡ (a && true)
and_true true = refl
and_true false = refl

-- one comparison
narrowed_is : (s : Ticks) (how : Comparison) (x : ℤ) (n : ℕ) → is_among (narrowed s how x) n ≡ (is_among s n && compares how (pos n) x)
narrowed_is s Less x n = grind (arith, ints, clamps)
narrowed_is s AtMost x n = grind (arith, ints, clamps)
narrowed_is s Equal x n = grind (arith, ints, clamps)
narrowed_is s AtLeast x n = grind (arith, ints, clamps)
narrowed_is s Greater x n = grind (arith, ints, clamps)

least_grows : (s : Ticks) (how : Comparison) (x : ℤ) → s.least ≤ℤ (narrowed s how x).least
least_grows s Less x = omega (arith, ints)
least_grows s AtMost x = omega (arith, ints)
least_grows s Equal x = omega (arith, ints, clamps)
least_grows s AtLeast x = omega (arith, ints, clamps)
least_grows s Greater x = omega (arith, ints, clamps)

module _ (horizon : ℕ) where
  by_is : (s : Ticks) (how : Comparison) (v : Option ℤ) (n : ℕ) → n ≤ horizon → is_among (narrowed_by horizon s how v) n ≡ (is_among s n && compares_values how (Some (pos n)) v)
  by_is s how (Some x) n l = narrowed_is s how x n
  by_is s how None n l = grind (arith, ints, clamps)

  by_grows : (s : Ticks) (how : Comparison) (v : Option ℤ) → s.least ≤ℤ (narrowed_by horizon s how v).least
  by_grows s how (Some x) = least_grows s how x
  by_grows s how None = omega (arith, ints, clamps)

  module _ (scale : ℕ) (s : State) where
    abbrev left : Ticks → Limit → Ticks
    left now l = narrowed_by horizon now l.how (both ◌*ℤ◌ (Some (pos scale)) (value s None l.value))

    all_is : (now : Ticks) (ls : List Limit) (n : ℕ) → n ≤ horizon → is_among (narrowed_all horizon scale s now ls) n ≡ (is_among now n && list_all (limit_holds scale s n) ls)
    all_is now [] n l = and_true (is_among now n)
    all_is now (x ∷ xs) n l =
        all_is (left now x) xs n l
        ∙ (ap (λ b. b && list_all (limit_holds scale s n) xs) (by_is now x.how (both ◌*ℤ◌ (Some (pos scale)) (value s None x.value)) n l)
        ∙ and_assoc (is_among now n) (limit_holds scale s n x) (list_all (limit_holds scale s n) xs))

    all_grows : (now : Ticks) (ls : List Limit) → now.least ≤ℤ (narrowed_all horizon scale s now ls).least
    all_grows now [] = omega (arith, ints)
    all_grows now (l ∷ ls) =
        let a = by_grows now l.how (both ◌*ℤ◌ (Some (pos scale)) (value s None l.value)) in
        let b = all_grows (left now l) ls in
        omega (arith, ints, a, b)

    pub lawful_is : (constraint : List Limit) (n : ℕ) → n ≤ horizon → is_among (lawful_ticks horizon scale s constraint) n ≡ (nat_le 1 n && list_all (limit_holds scale s n) constraint)
    lawful_is constraint n l =
        let from : (int_le (pos 1) (pos n) && int_le (pos n) (pos horizon)) ≡ nat_le 1 n = grind (arith, ints, nat_tests) in
        all_is _ constraint n l ∙ ap (λ b. b && list_all (limit_holds scale s n) constraint) from

    pub lawful_least : (constraint : List Limit) → pos 1 ≤ℤ (lawful_ticks horizon scale s constraint).least
    lawful_least constraint = all_grows _ constraint

-- A duration whose constraint has values is unlawful if it is no tick or breaks the constraint.
pub unlawful_is : (scale : ℕ) (s : State) (ticks : ℕ) (start end : GroundEvent) (c : Cond) → list_all (λ (l : Limit). is_some (value s None l.value)) start.constraint.items ≡ true
    → is_unlawful scale s ticks (Durative start end c) ≡ not (nat_le 1 ticks && list_all (limit_holds scale s ticks) start.constraint.items)
unlawful_is scale s ticks start end c h = ap (λ b. b && not (nat_le 1 ticks && list_all (limit_holds scale s ticks) start.constraint.items)) h
