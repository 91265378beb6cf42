-- Where something stands first in a list that is cut in two.
use Rattle.std.proofs.Common.{◌≡◌, ℕ, ◌+◌, Bool, true, false, cond, List, [], ◌∷◌, ◌++◌, length, position, Some, None, option_map, refl, sym, ap, ◌∙◌, arith}
use Rattle.std.proofs.lemmas.Iterator.Adapters.{position_from-zero}
use Rattle.std.specs.List.{position_from}

module _ {A : Type 0} (p : A → Bool) where
  early : (k : ℕ) (xs ys : List A) (i : ℕ) → position_from p k xs ≡ Some i → position_from p k (xs ++ ys) ≡ Some i
  early k [] ys i e = let never : None ≡ Some i = e in cc
  early k (x ∷ xs) ys i e = by (p x) e (λ h. early (k + 1) xs ys i h)
    where
      by : (b : Bool) → cond b (Some k) (position_from p (k + 1) xs) ≡ Some i → (position_from p (k + 1) xs ≡ Some i → position_from p (k + 1) (xs ++ ys) ≡ Some i) → cond b (Some k) (position_from p (k + 1) (xs ++ ys)) ≡ Some i
      by true h rest = h
      by false h rest = rest h

  later : (k : ℕ) (xs ys : List A) → position_from p k xs ≡ None → position_from p k (xs ++ ys) ≡ position_from p (k + length xs) ys
  later k [] ys e = ap (λ n. position_from p n ys) (omega arith)
  later k (x ∷ xs) ys e = by (p x) e (λ h. later (k + 1) xs ys h)
    where
      same : k + 1 + length xs ≡ k + length (x ∷ xs)
      same = omega arith

      by : (b : Bool) → cond b (Some k) (position_from p (k + 1) xs) ≡ None → (position_from p (k + 1) xs ≡ None → position_from p (k + 1) (xs ++ ys) ≡ position_from p (k + 1 + length xs) ys) → cond b (Some k) (position_from p (k + 1) (xs ++ ys)) ≡ position_from p (k + length (x ∷ xs)) ys
      by true h rest = let never : Some k ≡ None = h in cc
      by false h rest = rest h ∙ ap (λ n. position_from p n ys) same

  shifted : (k n : ℕ) (ys : List A) → position_from p (k + n) ys ≡ option_map (λ i. k + i) (position_from p n ys)
  shifted k n [] = refl
  shifted k n (y ∷ ys) = ap (λ m. cond (p y) (Some (k + n)) (position_from p m ys)) more ∙ by (p y) (shifted k (n + 1) ys)
    where
      more : k + n + 1 ≡ k + (n + 1)
      more = omega arith

      by : (b : Bool) → position_from p (k + (n + 1)) ys ≡ option_map (λ i. k + i) (position_from p (n + 1) ys) → cond b (Some (k + n)) (position_from p (k + (n + 1)) ys) ≡ option_map (λ i. k + i) (cond b (Some n) (position_from p (n + 1) ys))
      by true h = refl
      by false h = h

  -- what stands in the first part stands there in the whole
  pub in_front : (xs ys : List A) (i : ℕ) → position p xs ≡ Some i → Some i ≡ position_from p 0 (xs ++ ys)
  in_front xs ys i e = sym (early 0 xs ys i (sym (position_from-zero p xs) ∙ e))

  -- what does not stand in the first part stands where the rest has it
  pub behind : (xs ys : List A) → position p xs ≡ None → position_from p 0 (xs ++ ys) ≡ option_map (λ i. length xs + i) (position_from p 0 ys)
  behind xs ys e =
      later 0 xs ys (sym (position_from-zero p xs) ∙ e)
      ∙ ap (λ n. position_from p n ys) (sym none)
      ∙ shifted (length xs) 0 ys
    where
      none : length xs + 0 ≡ 0 + length xs
      none = omega arith
