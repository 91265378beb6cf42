-- A loop over rows: the ones that were visited, and those that are left.
use Rattle.std.proofs.Common.{◌≡◌, ℕ, zero, suc, ◌+◌, ◌<◌, ◌≤◌, List, [], ◌∷◌, length, get_or, drop, sym, ap, ◌∙◌, arith}

module _ {X : Type 0} where
  -- the one at a place comes next
  pub record Next (xs : List X) (i : ℕ) (x : X) (rest : List X) : Type 0 where
    pub lt : i < length xs
    pub item : x ≡ get_or xs i x
    pub left : rest ≡ drop (i + 1) xs

  pub next_of : (xs : List X) (i : ℕ) (x : X) (now rest : List X) → now ≡ drop i xs → now ≡ x ∷ rest → Next xs i x rest
  next_of xs i x now rest is more = by xs i (sym is ∙ more)
    where
      by : (ys : List X) (k : ℕ) → drop k ys ≡ x ∷ rest → Next ys k x rest
      by [] zero h = cc
      by [] (suc k) h = cc
      by (y ∷ ys) zero h = record { lt = omega arith; item = cc; left = cc }
      by (y ∷ ys) (suc k) h =
          let there = by ys k h in
          record { lt = omega (arith, there.lt); item = there.item; left = there.left ∙ ap (λ j. drop j (y ∷ ys)) (let e : suc (k + 1) ≡ suc k + 1 = omega arith in e) }

  -- none is left
  pub none_of : (xs : List X) (i : ℕ) (now : List X) → now ≡ drop i xs → now ≡ [] → length xs ≤ i
  none_of xs i now is none = by xs i (sym is ∙ none)
    where
      by : (ys : List X) (k : ℕ) → drop k ys ≡ [] → length ys ≤ k
      by [] k h = omega arith
      by (y ∷ ys) zero h = cc
      by (y ∷ ys) (suc k) h = omega (arith, by ys k h)
