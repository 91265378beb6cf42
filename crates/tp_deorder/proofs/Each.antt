-- Lists of bounds that are met, by how they are made.
use Rattle.std.proofs.Common.{◌≡◌, ℕ, Bool, true, false, cond, List, [], ◌∷◌, ◌++◌, filter, inl, inr, refl, sym, subst}
use Rattle.std.specs.List.{flat_map}
use Rattle.tp_bounds.specs.declared.Bound.{Bound}
use Rattle.tp_bounds.specs.Schedule.{Meets}
use Rattle.tp_task.specs.Bounds.{In}
use Rattle.tp_bounds.specs.OwnBounds.{MeetsEach}
use Rattle.tp_deorder.specs.Inequalities.{only_if}

module _ (t : ℕ → ℕ) where
  pub each_append : (xs ys : List Bound) → MeetsEach t xs → MeetsEach t ys → MeetsEach t (xs ++ ys)
  each_append [] ys h k = k
  each_append (x ∷ xs) ys h k = (h.0, each_append xs ys h.1 k)

  pub each_left : (xs ys : List Bound) → MeetsEach t (xs ++ ys) → MeetsEach t xs
  each_left [] ys h = tt
  each_left (x ∷ xs) ys h = (h.0, each_left xs ys h.1)

  pub each_right : (xs ys : List Bound) → MeetsEach t (xs ++ ys) → MeetsEach t ys
  each_right [] ys h = h
  each_right (x ∷ xs) ys h = each_right xs ys h.1

  pub each_if : (b : Bool) (x : Bound) → (b ≡ true → Meets t x) → MeetsEach t (only_if b x)
  each_if true x h = (h refl, tt)
  each_if false x h = tt

  pub met_if : (b : Bool) (x : Bound) → MeetsEach t (only_if b x) → b ≡ true → Meets t x
  met_if true x h e = h.0
  met_if false x h e = absurd (let f : ⊥ = cc in f)

  pub each_flat : {X : Type 0} (f : X → List Bound) (xs : List X) → ((x : X) → In x xs → MeetsEach t (f x)) → MeetsEach t (flat_map f xs)
  each_flat f [] h = tt
  each_flat f (x ∷ xs) h = each_append (f x) (flat_map f xs) (h x (inl refl)) (each_flat f xs (λ y i. h y (inr i)))

  pub each_part : {X : Type 0} (f : X → List Bound) (xs : List X) → MeetsEach t (flat_map f xs) → (x : X) → In x xs → MeetsEach t (f x)
  each_part f [] h x i = absurd i
  each_part f (y ∷ ys) h x (inl e) = subst (λ z. MeetsEach t (f z)) (sym e) (each_left (f y) (flat_map f ys) h)
  each_part f (y ∷ ys) h x (inr i) = each_part f ys (each_right (f y) (flat_map f ys) h) x i

-- the elements that pass a test
pub in_filter : {X : Type 0} (p : X → Bool) (x : X) (xs : List X) → In x xs → p x ≡ true → In x (filter p xs)
in_filter p x [] i h = absurd i
in_filter p x (y ∷ ys) (inl e) h = kept (p y) (subst (λ z. p z ≡ true) e h)
  where
    kept : (b : Bool) → b ≡ true → In x (cond b (y ∷ filter p ys) (filter p ys))
    kept true k = inl e
    kept false k = absurd (let f : ⊥ = cc in f)
in_filter p x (y ∷ ys) (inr i) h = kept (p y) (in_filter p x ys i h)
  where
    kept : (b : Bool) → In x (filter p ys) → In x (cond b (y ∷ filter p ys) (filter p ys))
    kept true j = inr j
    kept false j = j

pub filter_in : {X : Type 0} (p : X → Bool) (x : X) (xs : List X) → In x (filter p xs) → In x xs × (p x ≡ true)
filter_in p x [] i = absurd i
filter_in p x (y ∷ ys) i = kept (p y) refl (λ j. filter_in p x ys j) i
  where
    kept : (b : Bool) → p y ≡ b → (In x (filter p ys) → In x ys × (p x ≡ true)) → In x (cond b (y ∷ filter p ys) (filter p ys)) → In x (y ∷ ys) × (p x ≡ true)
    kept true e f (inl k) = (inl k, subst (λ z. p z ≡ true) (sym k) e)
    kept true e f (inr j) = let r = f j in (inr r.0, r.1)
    kept false e f j = let r = f j in (inr r.0, r.1)
