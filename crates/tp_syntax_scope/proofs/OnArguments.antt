-- Arguments and parameters, one after another.
use Rattle.std.proofs.Common.{◌≡◌, ℕ, ◌≤◌, zero, suc, List, [], ◌∷◌, ◌&&◌, length, drop, Bool, true, false, Some, None, refl, sym, ap, ◌∙◌, arith}
use Rattle.std.specs.List.{slice_get}
use Rattle.std.proofs.Math.Dec.{leb-zero, leb-suc-zero, leb-suc-suc}
use Rattle.std.specs.Prelude.{nat_le}
use Rattle.tp_syntax_ast.specs.Terms.{Argument}
use Rattle.tp_syntax_ast.specs.Symbols.{Name, Declared, Parent, argument_fits, arguments_fit}
use Rattle.tp_syntax_scope.specs.Fits.{types_at}

module _ (ds : List Parent) (objects scope : List Declared) where
  both : (a b : Argument) (ts us : List Name) (r : Bool) → Some b ≡ Some a → Some us ≡ Some ts → argument_fits ds objects scope a ts ≡ r → argument_fits ds objects scope b us ≡ r
  both a b ts us r is at fit = cc

  pub next : (xs : List Argument) (ps : List Declared) (k : ℕ) (a : Argument) (ts : List Name) → slice_get xs k ≡ Some a → types_at ps k ≡ Some ts → argument_fits ds objects scope a ts ≡ true → arguments_fit ds objects scope (drop (suc k) xs) (drop (suc k) ps) ≡ arguments_fit ds objects scope (drop k xs) (drop k ps)
  next [] ps k a ts is at fit = cc
  next (b ∷ xs) [] zero a ts is at fit = cc
  next (b ∷ xs) [] (suc k) a ts is at fit = cc
  next (b ∷ xs) (p ∷ ps) zero a ts is at fit = sym (ap (λ r. r && arguments_fit ds objects scope xs ps) (both a b ts p.types true is at fit))
  next (b ∷ xs) (p ∷ ps) (suc k) a ts is at fit = next xs ps k a ts is at fit

  pub fails : (xs : List Argument) (ps : List Declared) (k : ℕ) (a : Argument) (ts : List Name) → slice_get xs k ≡ Some a → types_at ps k ≡ Some ts → argument_fits ds objects scope a ts ≡ false → arguments_fit ds objects scope (drop k xs) (drop k ps) ≡ false
  fails [] ps k a ts is at fit = cc
  fails (b ∷ xs) [] zero a ts is at fit = cc
  fails (b ∷ xs) [] (suc k) a ts is at fit = cc
  fails (b ∷ xs) (p ∷ ps) zero a ts is at fit = ap (λ r. r && arguments_fit ds objects scope xs ps) (both a b ts p.types false is at fit)
  fails (b ∷ xs) (p ∷ ps) (suc k) a ts is at fit = fails xs ps k a ts is at fit

  none_left : (xs : List Argument) (k : ℕ) (a : Argument) → slice_get xs k ≡ Some a → arguments_fit ds objects scope (drop k xs) [] ≡ false
  none_left [] k a is = cc
  none_left (b ∷ xs) zero a is = refl
  none_left (b ∷ xs) (suc k) a is = none_left xs k a is

  pub too_many : (xs : List Argument) (ps : List Declared) (k : ℕ) (a : Argument) → slice_get xs k ≡ Some a → types_at ps k ≡ None → arguments_fit ds objects scope (drop k xs) (drop k ps) ≡ false
  too_many [] ps k a is none = cc
  too_many (b ∷ xs) [] zero a is none = refl
  too_many (b ∷ xs) [] (suc k) a is none = none_left xs k a is
  too_many (b ∷ xs) (p ∷ ps) zero a is none = cc
  too_many (b ∷ xs) (p ∷ ps) (suc k) a is none = too_many xs ps k a is none

  both_gone : (xs : List Argument) (k : ℕ) → length xs ≤ k → arguments_fit ds objects scope (drop k xs) [] ≡ true
  both_gone [] zero le = refl
  both_gone [] (suc k) le = refl
  both_gone (a ∷ xs) zero le = absurd (omega (le, arith))
  both_gone (a ∷ xs) (suc k) le = both_gone xs k (omega (le, arith))

  pub ended : (xs : List Argument) (ps : List Declared) (k : ℕ) → length xs ≤ k → k ≤ length xs → arguments_fit ds objects scope (drop k xs) (drop k ps) ≡ nat_le (length ps) (length xs)
  ended [] [] zero le ge = refl
  ended [] (p ∷ ps) zero le ge = sym (leb-suc-zero (length ps))
  ended [] ps (suc k) le ge = absurd (omega (ge, arith))
  ended (a ∷ xs) ps zero le ge = absurd (omega (le, arith))
  ended (a ∷ xs) [] (suc k) le ge = both_gone xs k (omega (le, arith)) ∙ sym (leb-zero (suc (length xs)))
  ended (a ∷ xs) (p ∷ ps) (suc k) le ge = ended xs ps k (omega (le, arith)) (omega (ge, arith)) ∙ sym (leb-suc-suc (length ps) (length xs))
