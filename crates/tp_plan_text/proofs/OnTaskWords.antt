-- Lemmas on the actions of a task, told by their words.
use Rattle.std.proofs.Common.{◌≡◌, ℕ, ◌+◌, ◌<◌, Bool, true, false, cond, List, [], ◌∷◌, length, sym, arith, Option, Some, None, option_map}
use Rattle.std.specs.List.{position_from}
use Rattle.std.specs.Option.{IfSome}
use Rattle.tp_task.specs.declared.task.ActionId.{ActionId}
use Rattle.tp_task.specs.Words.{Words}

within : (t : Bool) (p : Words → Bool) (k i : ℕ) (x : Words) (xs : List Words) → ((j : ℕ) → position_from p (k + 1) xs ≡ Some j → j < k + 1 + length xs) → cond t (Some k) (position_from p (k + 1) xs) ≡ Some i → i < k + length (x ∷ xs)
within true p k i x xs more h = let e : k ≡ i = cc in omega (arith, e)
within false p k i x xs more h = omega (arith, more i h)

position_within : (p : Words → Bool) (k i : ℕ) (xs : List Words) → position_from p k xs ≡ Some i → i < k + length xs
position_within p k i [] h = absurd (let no : ⊥ = cc in no)
position_within p k i (x ∷ xs) h = within (p x) p k i x xs (λ j. position_within p (k + 1) j xs) h

pub found_within : (p : Words → Bool) (actions : List Words) (n : ℕ) (r : Option ActionId) → length actions ≡ n → option_map (λ (i : ActionId). i.0) r ≡ position_from p 0 actions → IfSome r (λ a. a.0 < n)
found_within p actions n None len found = tt
found_within p actions n (Some a) len found = let below : a.0 < 0 + length actions = position_within p 0 a.0 actions (sym found) in omega (arith, below, len)
