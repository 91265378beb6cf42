-- What a loop has made of the first members of a list, and what is left.
use Rattle.std.proofs.Common.{◌≡◌, ℕ, ◌+◌, ◌<◌, ◌≤◌, List, [], ◌∷◌, ◌++◌, length, take, drop, get_or, map, sym, ap, ◌∙◌, append_assoc, append-nil}
use Rattle.std.specs.List.{flat_map}
use Rattle.std.proofs.lemmas.Grind.{flat_map-append}
use Rattle.std.proofs.lemmas.List.{map-append, take_more, take_all, take-append-drop}
use Rattle.std.proofs.lemmas.List.Concat.{flat_map-cons}

module _ {X Y : Type 0} (f : X → List Y) where
  one : (x : X) → flat_map f (x ∷ []) ≡ f x
  one x = flat_map-cons f x [] ∙ append-nil (f x)

  pub next : (xs : List X) (i : ℕ) (x : X) → i < length xs → x ≡ get_or xs i x → flat_map f (take (i + 1) xs) ≡ flat_map f (take i xs) ++ f x
  next xs i x lt item =
      ap (flat_map f) (take_more xs i x lt) ∙ flat_map-append f (take i xs) (get_or xs i x ∷ [])
      ∙ ap (λ ys. flat_map f (take i xs) ++ ys) (one (get_or xs i x) ∙ ap f (sym item))

  pub whole : (xs : List X) (i : ℕ) (x : X) → i < length xs → x ≡ get_or xs i x → flat_map f xs ≡ flat_map f (take i xs) ++ (f x ++ flat_map f (drop (i + 1) xs))
  whole xs i x lt item =
      ap (flat_map f) (sym (take-append-drop (i + 1) xs)) ∙ flat_map-append f (take (i + 1) xs) (drop (i + 1) xs)
      ∙ ap (λ ys. ys ++ flat_map f (drop (i + 1) xs)) (next xs i x lt item)
      ∙ append_assoc (flat_map f (take i xs)) (f x) (flat_map f (drop (i + 1) xs))

  pub ended : (xs : List X) (i : ℕ) → length xs ≤ i → flat_map f (take i xs) ≡ flat_map f xs
  ended xs i le = ap (flat_map f) (take_all i xs le)

module _ {X Y : Type 0} (f : X → Y) where
  pub map_next : (xs : List X) (i : ℕ) (x : X) → i < length xs → x ≡ get_or xs i x → map f (take (i + 1) xs) ≡ map f (take i xs) ++ f x ∷ []
  map_next xs i x lt item =
      ap (map f) (take_more xs i x lt) ∙ map-append f (take i xs) (get_or xs i x ∷ [])
      ∙ ap (λ y. map f (take i xs) ++ y ∷ []) (ap f (sym item))

  pub map_whole : (xs : List X) (i : ℕ) (x : X) → i < length xs → x ≡ get_or xs i x → map f xs ≡ map f (take i xs) ++ ((f x ∷ []) ++ map f (drop (i + 1) xs))
  map_whole xs i x lt item =
      ap (map f) (sym (take-append-drop (i + 1) xs)) ∙ map-append f (take (i + 1) xs) (drop (i + 1) xs)
      ∙ ap (λ ys. ys ++ map f (drop (i + 1) xs)) (map_next xs i x lt item)
      ∙ append_assoc (map f (take i xs)) (f x ∷ []) (map f (drop (i + 1) xs))

  pub map_ended : (xs : List X) (i : ℕ) → length xs ≤ i → map f (take i xs) ≡ map f xs
  map_ended xs i le = ap (map f) (take_all i xs le)
