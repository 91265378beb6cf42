-- Membership, and sums of some elements of a list.
use Rattle.std.proofs.Common.{◌≡◌, Bool, cond, List, [], ◌∷◌, ℤ, pos, ◌+ℤ◌, inl, inr, refl, sym, ap₂, subst, arith}
use Rattle.std.specs.List.{AllByRecursion}
use Rattle.tp_task.specs.Bounds.{In}
use Rattle.std.proofs.lemmas.Int.{ints}

pub all_at : {X : Type 0} (P : X → Type 0) (xs : List X) → AllByRecursion P xs → (x : X) → In x xs → P x
all_at P [] h x i = absurd i
all_at P (y ∷ ys) h x (inl e) = subst P (sym e) h.0
all_at P (y ∷ ys) h x (inr i) = all_at P ys h.1 x i

pub all_from : {X : Type 0} (P : X → Type 0) (xs : List X) → ((x : X) → In x xs → P x) → AllByRecursion P xs
all_from P [] h = tt
all_from P (y ∷ ys) h = (h y (inl refl), all_from P ys (λ x i. h x (inr i)))

-- the sum of f over the elements that pass
abbrev pub total : {X : Type 0} → (X → Bool) → (X → ℤ) → List X → ℤ
total p f [] = pos 0
total p f (x ∷ xs) = cond (p x) (f x) (pos 0) +ℤ total p f xs

pub total_same : {X : Type 0} (p q : X → Bool) (f g : X → ℤ) (xs : List X) → ((x : X) → In x xs → cond (p x) (f x) (pos 0) ≡ cond (q x) (g x) (pos 0)) → total p f xs ≡ total q g xs
total_same p q f g [] h = refl
total_same p q f g (x ∷ xs) h = ap₂ ◌+ℤ◌ (h x (inl refl)) (total_same p q f g xs (λ y i. h y (inr i)))

regroup : (a b c d x y : ℤ) → x ≡ a +ℤ b → y ≡ c +ℤ d → x +ℤ y ≡ (a +ℤ c) +ℤ (b +ℤ d)
regroup a b c d x y h k = omega (arith, ints)

pub total_parts : {X : Type 0} (p q r : X → Bool) (f : X → ℤ) (xs : List X) → ((x : X) → In x xs → cond (p x) (f x) (pos 0) ≡ cond (q x) (f x) (pos 0) +ℤ cond (r x) (f x) (pos 0)) → total p f xs ≡ total q f xs +ℤ total r f xs
total_parts p q r f [] h = refl
total_parts p q r f (x ∷ xs) h = regroup (cond (q x) (f x) (pos 0)) (cond (r x) (f x) (pos 0)) (total q f xs) (total r f xs) (cond (p x) (f x) (pos 0)) (total p f xs) (h x (inl refl)) (total_parts p q r f xs (λ y i. h y (inr i)))

pub total_none : {X : Type 0} (p : X → Bool) (f : X → ℤ) (xs : List X) → ((x : X) → In x xs → cond (p x) (f x) (pos 0) ≡ pos 0) → total p f xs ≡ pos 0
total_none p f [] h = refl
total_none p f (x ∷ xs) h = ap₂ ◌+ℤ◌ (h x (inl refl)) (total_none p f xs (λ y i. h y (inr i)))
