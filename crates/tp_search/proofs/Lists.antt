-- What lists have, and what holds of all that they have.
use Rattle.std.proofs.Common.{◌≡◌, ℕ, suc, zero, ◌<◌, Bool, true, false, cond, List, [], ◌∷◌, ◌++◌, length, get_or, inl, inr, refl, sym, ap, ◌∙◌, arith}
use Rattle.std.specs.List.{AllByRecursion, filter, list_any}
use Rattle.std.proofs.lemmas.Bool.{true≢false, or_from}
use Rattle.tp_task.specs.Bounds.{In}

pub in_append_left : {X : Type 0} (x : X) (xs ys : List X) → In x xs → In x (xs ++ ys)
in_append_left x [] ys i = absurd i
in_append_left x (y ∷ xs) ys (inl e) = inl e
in_append_left x (y ∷ xs) ys (inr i) = inr (in_append_left x xs ys i)

pub in_append_right : {X : Type 0} (x : X) (xs ys : List X) → In x ys → In x (xs ++ ys)
in_append_right x [] ys i = i
in_append_right x (y ∷ xs) ys i = inr (in_append_right x xs ys i)

pub in_at : (xs : List ℕ) (i d : ℕ) → i < length xs → In (get_or xs i d) xs
in_at [] i d l = absurd (omega arith)
in_at (x ∷ xs) zero d l = inl refl
in_at (x ∷ xs) (suc i) d l = inr (in_at xs i d (omega arith))

pub in_filter : (p : ℕ → Bool) (xs : List ℕ) (x : ℕ) → In x xs → p x ≡ true → In x (filter p xs)
in_filter p [] x i h = absurd i
in_filter p (y ∷ ys) x i h = go (p y) refl i (λ j. in_filter p ys x j h)
  where
    go : (b : Bool) → p y ≡ b → In x (y ∷ ys) → (In x ys → In x (filter p ys)) → In x (cond b (y ∷ filter p ys) (filter p ys))
    go true e (inl k) rest = inl k
    go true e (inr k) rest = inr (rest k)
    go false e (inl k) rest = absurd (true≢false (sym h ∙ (ap p k ∙ e)))
    go false e (inr k) rest = rest k

pub all_append : {X : Type 0} (P : X → Type 0) (xs ys : List X) → AllByRecursion P xs → AllByRecursion P ys → AllByRecursion P (xs ++ ys)
all_append P [] ys h k = k
all_append P (x ∷ xs) ys h k = (h.0, all_append P xs ys h.1 k)

pub all_filter : (P : ℕ → Type 0) (p : ℕ → Bool) (xs : List ℕ) → AllByRecursion P xs → AllByRecursion P (filter p xs)
all_filter P p [] h = tt
all_filter P p (x ∷ xs) h = go (p x) (all_filter P p xs h.1)
  where
    go : (b : Bool) → AllByRecursion P (filter p xs) → AllByRecursion P (cond b (x ∷ filter p xs) (filter p xs))
    go true rest = (h.0, rest)
    go false rest = rest

pub none_passes : (p : ℕ → Bool) (xs : List ℕ) → ((x : ℕ) → In x xs → p x ≡ false) → list_any p xs ≡ false
none_passes p [] h = refl
none_passes p (x ∷ xs) h = or_from (p x) (list_any p xs) (h x (inl refl)) (none_passes p xs (λ y i. h y (inr i)))

pub append_none : {X : Type 0} (xs : List X) → xs ≡ xs ++ []
append_none [] = refl
append_none (x ∷ xs) = ap (λ ys. x ∷ ys) (append_none xs)
