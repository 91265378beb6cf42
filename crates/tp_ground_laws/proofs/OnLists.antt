-- Elements of lists, and lists that are mapped, filtered and joined.
use Rattle.std.proofs.Common.{◌≡◌, ℕ, zero, suc, ◌<◌, Bool, true, false, cond, List, [], ◌∷◌, ◌++◌, map, filter, length, slice_get, Some, inl, inr, refl, sym, ap, ◌∙◌, subst, arith}
use Rattle.std.proofs.lemmas.Bool.{cond-true}
use Rattle.std.specs.List.{AllByRecursion, flat_map}
use Rattle.std.specs.Option.{option_map}
use Rattle.tp_task.specs.Bounds.{In}
use Rattle.tp_task.specs.Words.{Words}
use Rattle.tp_task.specs.Tables.{words_at}

pub all_to : {A B : Type 0} (f : A → B) (P : A → Type 0) (Q : B → Type 0) → ((x : A) → P x → Q (f x)) → (xs : List A) → AllByRecursion P xs → AllByRecursion Q (map f xs)
all_to f P Q step [] h = tt
all_to f P Q step (x ∷ xs) h = (step x h.0, all_to f P Q step xs h.1)

pub all_back : {A B : Type 0} (f : A → B) (P : A → Type 0) (Q : B → Type 0) → ((x : A) → Q (f x) → P x) → (xs : List A) → AllByRecursion Q (map f xs) → AllByRecursion P xs
all_back f P Q step [] h = tt
all_back f P Q step (x ∷ xs) h = (step x h.0, all_back f P Q step xs h.1)

pub get_map : {A B : Type 0} (f : A → B) (xs : List A) (i : ℕ) → slice_get (map f xs) i ≡ option_map f (slice_get xs i)
get_map f [] i = refl
get_map f (x ∷ xs) zero = refl
get_map f (x ∷ xs) (suc i) = get_map f xs i

pub got_in : {A : Type 0} (xs : List A) (i : ℕ) (x : A) → slice_get xs i ≡ Some x → In x xs
got_in [] i x h = absurd (cc)
got_in (y ∷ xs) zero x h = inl (let e : y ≡ x = cc in sym e)
got_in (y ∷ xs) (suc i) x h = inr (got_in xs i x h)

pub map_map : {A B C : Type 0} (f : A → B) (g : B → C) (xs : List A) → map g (map f xs) ≡ map (λ x. g (f x)) xs
map_map f g [] = refl
map_map f g (x ∷ xs) = ap (λ zs. g (f x) ∷ zs) (map_map f g xs)

pub all_append : {A : Type 0} (P : A → Type 0) (xs ys : List A) → AllByRecursion P xs → AllByRecursion P ys → AllByRecursion P (xs ++ ys)
all_append P [] ys h k = k
all_append P (x ∷ xs) ys h k = (h.0, all_append P xs ys h.1 k)

pub below : {A : Type 0} (xs : List A) (i : ℕ) (x : A) → slice_get xs i ≡ Some x → i < length xs
below [] i x h = absurd (cc)
below (y ∷ xs) zero x h = omega arith
below (y ∷ xs) (suc i) x h = let l : i < length xs = below xs i x h in omega arith

pub at_index : {A : Type 0} (xs : List A) (i : ℕ) → i < length xs → (x : A) × (slice_get xs i ≡ Some x)
at_index [] i l = absurd (omega arith)
at_index (x ∷ xs) zero l = (x, refl)
at_index (x ∷ xs) (suc i) l = at_index xs i (omega arith)

pub in_at : {A : Type 0} (xs : List A) (x : A) → In x xs → (i : ℕ) × (slice_get xs i ≡ Some x)
in_at [] x h = absurd h
in_at (y ∷ xs) x (inl e) = (0, ap Some (sym e))
in_at (y ∷ xs) x (inr h) = let (i, e) = in_at xs x h in (suc i, e)

pub in_map : {A B : Type 0} (f : A → B) (xs : List A) (x : A) → In x xs → In (f x) (map f xs)
in_map f [] x h = absurd h
in_map f (y ∷ xs) x (inl e) = inl (ap f e)
in_map f (y ∷ xs) x (inr h) = inr (in_map f xs x h)

pub words_got : {A : Type 0} (f : A → Words) (xs : List A) (i : ℕ) (x : A) → slice_get xs i ≡ Some x → words_at (map f xs) i ≡ f x
words_got f [] i x h = absurd (cc)
words_got f (y ∷ xs) zero x h = let e : y ≡ x = cc in ap f e
words_got f (y ∷ xs) (suc i) x h = words_got f xs i x h

module _ {A : Type 0} (q : A → Bool) where
  pub of_filter : (xs : List A) (x : A) → In x (filter q xs) → In x xs
  of_filter [] x h = h
  of_filter (y ∷ xs) x h = by (q y) h (of_filter xs x)
    where
      by : (b : Bool) → In x (cond b (y ∷ filter q xs) (filter q xs)) → (In x (filter q xs) → In x xs) → In x (y ∷ xs)
      by true (inl e) f = inl e
      by true (inr i) f = inr (f i)
      by false i f = inr (f i)

  pub in_filter : (xs : List A) (x : A) → In x xs → q x ≡ true → In x (filter q xs)
  in_filter [] x h k = h
  in_filter (y ∷ xs) x (inl e) k = subst (In x) (sym (cond-true (q y) (y ∷ filter q xs) (filter q xs) (ap q (sym e) ∙ k))) (inl e)
  in_filter (y ∷ xs) x (inr h) k = by (q y) (in_filter xs x h k)
    where
      by : (b : Bool) → In x (filter q xs) → In x (cond b (y ∷ filter q xs) (filter q xs))
      by true i = inr i
      by false i = i

pub in_flat_map : {A B : Type 0} (f : A → List B) (xs : List A) (x : A) (b : B) → In x xs → In b (f x) → In b (flat_map f xs)
in_flat_map f [] x b h k = absurd h
in_flat_map {B = B} f (y ∷ xs) x b (inl e) k = front (f y) (subst (λ z. In b (f z)) e k)
  where
    front : (ys : List B) → In b ys → In b (ys ++ flat_map f xs)
    front [] h = absurd h
    front (z ∷ zs) (inl e) = inl e
    front (z ∷ zs) (inr h) = inr (front zs h)
in_flat_map {B = B} f (y ∷ xs) x b (inr h) k = behind (f y) (in_flat_map f xs x b h k)
  where
    behind : (ys : List B) → In b (flat_map f xs) → In b (ys ++ flat_map f xs)
    behind [] h = h
    behind (z ∷ zs) h = inr (behind zs h)

pub from_map : {A B : Type 0} (f : A → B) (xs : List A) (y : B) → In y (map f xs) → (x : A) × In x xs × (f x ≡ y)
from_map f [] y h = absurd h
from_map f (x ∷ xs) y (inl e) = (x, inl refl, sym e)
from_map f (x ∷ xs) y (inr h) = let (z, i, e) = from_map f xs y h in (z, inr i, e)

pub from_flat_map : {A B : Type 0} (f : A → List B) (xs : List A) (b : B) → In b (flat_map f xs) → (x : A) × In x xs × In b (f x)
from_flat_map {B = B} f [] b h = absurd h
from_flat_map {A = A} {B = B} f (x ∷ xs) b h = by (f x) (λ i. i) h (from_flat_map f xs b)
  where
    by : (ys : List B) → (In b ys → In b (f x)) → In b (ys ++ flat_map f xs) → (In b (flat_map f xs) → (z : A) × In z xs × In b (f z)) → (z : A) × In z (x ∷ xs) × In b (f z)
    by [] here i rest = let (z, j, k) = rest i in (z, inr j, k)
    by (y ∷ ys) here (inl e) rest = (x, inl refl, here (inl e))
    by (y ∷ ys) here (inr i) rest = by ys (λ j. here (inr j)) i rest
