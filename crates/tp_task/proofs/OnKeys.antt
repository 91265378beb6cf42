-- Sets of names and of labels, seen as lists of what tells their keys apart.
use Rattle.std.proofs.Common.{◌≡◌, ℕ, ◌+◌, Bool, true, false, cond, not, ◌||◌, List, [], ◌∷◌, ◌++◌, map, length, get_or, position, slice_get, Option, Some, None, IfSome, option_map, nat_lt, nat_eq, if◌then◌else◌, refl, sym, ap, ◌∙◌, arith, append-nil, length-append}
use Rattle.std.proofs.lemmas.List.{map-append, length-map}
use Rattle.std.proofs.lemmas.List.Quantifiers.{position-Some}
use Rattle.std.proofs.lemmas.Map.Keys.{IsDistinct-head, IsDistinct-tail, IsDistinct-cons}
use Rattle.std.proofs.lemmas.Option.{slice_get-get_or, slice_get-map}
use Rattle.std.specs.List.{list_any, AllByRecursion, IsDistinct, position_or_len}
use Rattle.std.specs.Str.{bytes_eq}
use Rattle.std.specs.Cmp.Lexicographic.{pointwise}
use Rattle.std.proofs.lemmas.Slice.Eq.{bytes_eq-Decides}
use Rattle.indexmap.specs.IndexSet.{insert_key}
use Rattle.tp_task.specs.Labels.{with_label, Grows}

module _ {A B : Type 0} (f : A → B) where
  pub list_any_map : (p : B → Bool) (xs : List A) → list_any p (map f xs) ≡ list_any (λ x. p (f x)) xs
  list_any_map p [] = refl
  list_any_map p (x ∷ xs) = ap (λ t. p (f x) || t) (list_any_map p xs)

  all_map : (P : B → Type 0) (xs : List A) → AllByRecursion (λ x. P (f x)) xs → AllByRecursion P (map f xs)
  all_map P [] h = tt
  all_map P (x ∷ xs) h = (h.0, all_map P xs h.1)

  pub distinct_map : (e : B → B → Bool) (xs : List A) → IsDistinct (λ a b. e (f a) (f b)) xs → IsDistinct e (map f xs)
  unfolding IsDistinct
  distinct_map e [] h = tt
  distinct_map e (x ∷ xs) h =
      IsDistinct-cons e (f x) (map f xs)
      (all_map (λ y. e (f x) y ≡ false) xs (IsDistinct-head (λ a b. e (f a) (f b)) x xs h))
      (distinct_map e xs (IsDistinct-tail (λ a b. e (f a) (f b)) x xs h))

  first_map : (p : B → Bool) (xs : List A) → position_or_len p (map f xs) ≡ position_or_len (λ x. p (f x)) xs
  first_map p [] = refl
  first_map p (x ∷ xs) = ap (λ n. cond (not (p (f x))) (1 + n) 0) (first_map p xs)

  pub position_map : (p : B → Bool) (xs : List A) → position p (map f xs) ≡ position (λ x. p (f x)) xs
  position_map p xs =
      ap (λ n. cond (nat_lt n (length (map f xs))) (Some n) None) (first_map p xs)
      ∙ ap (λ n. cond (nat_lt (position_or_len (λ x. p (f x)) xs) n) (Some (position_or_len (λ x. p (f x)) xs)) None) (length-map xs f)

  pub key_grows : (e : A → A → Bool) (ks : List A) (k : A) → Grows (map f ks) (map f (insert_key e ks k))
  key_grows e ks k = by (list_any (e k) ks)
    where
      by : (b : Bool) → Grows (map f ks) (map f (if b then ks else (ks ++ k ∷ [])))
      by true = ([], sym (append-nil (map f ks)))
      by false = (f k ∷ [], map-append f ks (k ∷ []))

-- the label of an inserted key
pub key_label : {A : Type 0} (f : A → List ℕ) (ks : List A) (k : A) → map f (insert_key (λ v w. pointwise nat_eq (f v) (f w)) ks k) ≡ with_label (map f ks) (f k)
key_label f ks k =
    by (list_any (λ w. pointwise nat_eq (f k) (f w)) ks)
    ∙ ap (λ t. if t then map f ks else (map f ks ++ f k ∷ [])) (sym (list_any_map f (pointwise nat_eq (f k)) ks))
  where
    by : (b : Bool) → map f (if b then ks else (ks ++ k ∷ [])) ≡ (if b then map f ks else (map f ks ++ f k ∷ []))
    by true = refl
    by false = map-append f ks (k ∷ [])

-- the name that is found is the name that was looked for
pub found_name : (n : List ℕ) (ns : List (List ℕ)) (r : Option ℕ) → r ≡ position (bytes_eq n) ns → IfSome r (λ i. slice_get ns i ≡ Some n)
found_name n ns None e = tt
found_name n ns (Some i) e =
    let at = position-Some (bytes_eq n) ns i [] (sym e) in
    slice_get-get_or ns i [] at.0 ∙ ap Some (sym ((bytes_eq-Decides n (get_or ns i [])).0 at.1))

-- a key that is stored is the one that was inserted
pub stored_name : {A : Type 0} (f : A → List ℕ) (ks : List A) (i : ℕ) (n : List ℕ) → (k : A) × (slice_get ks i ≡ Some k) × (bytes_eq n (f k) ≡ true) → slice_get (map f ks) i ≡ Some n
stored_name f ks i n (k, at, same) =
    slice_get-map f ks i ∙ ap (option_map f) at ∙ ap Some (sym ((bytes_eq-Decides n (f k)).0 same))

pub stored_label : {A : Type 0} (f : A → List ℕ) (ks : List A) (i : ℕ) (v : A) → (k : A) × (slice_get ks i ≡ Some k) × (pointwise nat_eq (f v) (f k) ≡ true) → slice_get (map f ks) i ≡ Some (f v)
stored_label f ks i v (k, at, same) =
    slice_get-map f ks i ∙ ap (option_map f) at ∙ ap Some (sym ((bytes_eq-Decides (f v) (f k)).0 same))

-- where a label is new, there is one more
pub new_label : (known : List (List ℕ)) (l : List ℕ) → list_any (pointwise nat_eq l) known ≡ false → length (with_label known l) ≡ length known + 1
new_label known l new =
    ap (λ t. length (if t then known else (known ++ l ∷ []))) new ∙ (let e : length (known ++ l ∷ []) ≡ length known + length (l ∷ []) = length-append known (l ∷ []) in omega arith)
