-- Lists whose elements are alike, place by place.
use Rattle.std.proofs.Common.{◌≡◌, Bool, true, false, cond, ◌||◌, List, [], ◌∷◌, ◌++◌, filter, refl, ap₂, true≢false, sym}
use Rattle.std.specs.List.{AllZip, list_any, flat_map}

module _ {A B : Type 0} (R : A → B → Type 0) where
  pub zip_append : (xs : List A) (ys : List B) (vs : List A) (ws : List B) → AllZip R xs ys → AllZip R vs ws → AllZip R (xs ++ vs) (ys ++ ws)
  zip_append [] [] vs ws h k = k
  zip_append [] (y ∷ ys) vs ws h k = absurd h
  zip_append (x ∷ xs) [] vs ws h k = absurd h
  zip_append (x ∷ xs) (y ∷ ys) vs ws h k = (h.0, zip_append xs ys vs ws h.1 k)

  module _ (p : A → Bool) (q : B → Bool) (same : (x : A) (y : B) → R x y → p x ≡ q y) where
    pub zip_filter : (xs : List A) (ys : List B) → AllZip R xs ys → AllZip R (filter p xs) (filter q ys)
    zip_filter [] [] h = tt
    zip_filter [] (y ∷ ys) h = absurd h
    zip_filter (x ∷ xs) [] h = absurd h
    zip_filter (x ∷ xs) (y ∷ ys) h = by (p x) (q y) (same x y h.0) (zip_filter xs ys h.1)
      where
        by : (b c : Bool) → b ≡ c → AllZip R (filter p xs) (filter q ys) → AllZip R (cond b (x ∷ filter p xs) (filter p xs)) (cond c (y ∷ filter q ys) (filter q ys))
        by true true e k = (h.0, k)
        by true false e k = absurd (true≢false e)
        by false true e k = absurd (true≢false (sym e))
        by false false e k = k

    pub zip_any : (xs : List A) (ys : List B) → AllZip R xs ys → list_any p xs ≡ list_any q ys
    zip_any [] [] h = refl
    zip_any [] (y ∷ ys) h = absurd h
    zip_any (x ∷ xs) [] h = absurd h
    zip_any (x ∷ xs) (y ∷ ys) h = ap₂ (λ (b c : Bool). b || c) (same x y h.0) (zip_any xs ys h.1)

  pub zip_flat : {C : Type 0} (f : A → List C) (g : B → List C) → ((x : A) (y : B) → R x y → f x ≡ g y) → (xs : List A) (ys : List B) → AllZip R xs ys → flat_map f xs ≡ flat_map g ys
  zip_flat f g same [] [] h = refl
  zip_flat f g same [] (y ∷ ys) h = absurd h
  zip_flat f g same (x ∷ xs) [] h = absurd h
  zip_flat {C = C} f g same (x ∷ xs) (y ∷ ys) h = ap₂ (λ (vs ws : List C). vs ++ ws) (same x y h.0) (zip_flat f g same xs ys h.1)
