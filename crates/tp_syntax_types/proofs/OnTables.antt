use Rattle.std.proofs.Common.{◌≡◌, ℕ, ◌+◌, ◌<◌, ◌≤◌, List, [], ◌∷◌, ◌++◌, length, map, take, get_or, Bool, true, false, cond, Option, Some, None, option_map, Bor, refl, sym, ap, ◌∙◌, add-one, arith}
use Rattle.std.proofs.lemmas.List.{take_more, map-append, length-map, length-take-le}
use Rattle.std.specs.List.{slice_get}
use Rattle.std.specs.Option.{is_some}
use Rattle.std.specs.Str.{bytes_eq}
use Rattle.std.specs.Cmp.Lexicographic.{bytes_decides}
use Rattle.tp_syntax_ast.specs.Gives.{◌>>=◌}
use Rattle.tp_syntax_ast.specs.Symbols.{Name}
use Rattle.tp_syntax_types.specs.Tables.{place_of, or_place, item_of}
use Rattle.tp_syntax_ast.specs.TypedLists.{has_twice}

one_more : (b e : Bool) (o : Option ℕ) (l : ℕ) → cond b (Some 0) (option_map (λ k. k + 1) (elim o as (λ v. Option ℕ) [ Some k ↦ Some k | None ↦ cond e (Some l) None ])) ≡ elim (cond b (Some 0) (option_map (λ k. k + 1) o)) as (λ v. Option ℕ) [ Some k ↦ Some k | None ↦ cond e (Some (l + 1)) None ]
one_more true e o l = refl
one_more false e (Some k) l = refl
one_more false true None l = refl
one_more false false None l = refl

as_elim : (o : Option ℕ) (m n : Name) (l : ℕ) → or_place o m l n ≡ elim o as (λ v. Option ℕ) [ Some k ↦ Some k | None ↦ cond (bytes_eq m n) (Some l) None ]
as_elim (Some k) m n l = refl
as_elim None m n l = refl

-- a name that is added behind others
pub place_of-push : (n : Name) (ns : List Name) (m : Name) → place_of n (ns ++ m ∷ []) ≡ or_place (place_of n ns) m (length ns) n
place_of-push n [] m = refl
place_of-push n (k ∷ ns) m =
    ap (λ o. cond (bytes_eq k n) (Some 0) (option_map (λ i. i + 1) o)) (place_of-push n ns m ∙ as_elim (place_of n ns) m n (length ns))
    ∙ one_more (bytes_eq k n) (bytes_eq m n) (place_of n ns) (length ns)
    ∙ sym (as_elim (place_of n (k ∷ ns)) m n (length ns + 1))
    ∙ ap (λ l. or_place (place_of n (k ∷ ns)) m l n) (add-one (length ns))

chosen : (b : Bool) (o : Option ℕ) (l : ℕ) → (b ≡ true → o ≡ None) → cond b (Some l) o ≡ elim o as (λ v. Option ℕ) [ Some k ↦ Some k | None ↦ cond b (Some l) None ]
chosen true None l h = refl
chosen true (Some k) l h = let e : Some k ≡ None = h refl in cc
chosen false None l h = refl
chosen false (Some k) l h = refl

none_of : (o : Option ℕ) → is_some o ≡ false → o ≡ None
none_of None h = refl
none_of (Some k) h = cc

-- a name that is found nowhere is put
pub after_put : (f : Name → Option ℕ) (m n : Name) (at : ℕ) → is_some (f m) ≡ false → cond (bytes_eq m n) (Some at) (f n) ≡ or_place (f n) m at n
after_put f m n at new =
    chosen (bytes_eq m n) (f n) at (λ t. ap f (sym ((bytes_decides m n).0 t)) ∙ none_of (f m) new)
    ∙ sym (as_elim (f n) m n at)

pub one_more_place : {X : Type 0} (named : X → Name) (xs : List X) (i : ℕ) (x : X) (m n : Name) → i < length xs → x ≡ get_or xs i x → m ≡ named x → or_place (place_of n (map named (take i xs))) m i n ≡ place_of n (map named (take (i + 1) xs))
one_more_place named xs i x m n lt at is =
    let le : i ≤ length xs = omega arith in
    let len : length (map named (take i xs)) ≡ i = length-map (take i xs) named ∙ length-take-le i xs le in
    let grown : map named (take (i + 1) xs) ≡ map named (take i xs) ++ m ∷ [] = ap (map named) (take_more xs i x lt) ∙ map-append named (take i xs) (get_or xs i x ∷ []) ∙ ap (λ (y : Name). map named (take i xs) ++ y ∷ []) (ap named (sym at) ∙ sym is) in
    ap (λ (l : ℕ). or_place (place_of n (map named (take i xs))) m l n) (sym len) ∙ sym (place_of-push n (map named (take i xs)) m) ∙ ap (place_of n) (sym grown)

pub map_twice : {X Y Z : Type 0} (f : Y → Z) (g : X → Y) (xs : List X) → map f (map g xs) ≡ map (λ x. f (g x)) xs
map_twice f g [] = refl
map_twice {X} {Y} {Z} f g (x ∷ xs) = ap (λ (zs : List Z). f (g x) ∷ zs) (map_twice f g xs)

pub some_twice : {X : Type 0} (named : X → Name) (xs ys : List X) (o : Option ℕ) (i : ℕ) → is_some o ≡ has_twice (map named ys) → ys ≡ xs → o ≡ Some i → has_twice (map named xs) ≡ true
some_twice {X} named xs ys o i is same some = ap (λ (zs : List X). has_twice (map named zs)) (sym same) ∙ sym is ∙ ap is_some some

pub none_twice : {X : Type 0} (named : X → Name) (xs ys : List X) (o : Option ℕ) → is_some o ≡ has_twice (map named ys) → ys ≡ xs → o ≡ None → has_twice (map named xs) ≡ false
none_twice {X} named xs ys o is same none = ap (λ (zs : List X). has_twice (map named zs)) (sym same) ∙ sym is ∙ ap is_some none

-- ---- items by their places

module _ {X : Type 0} (named : X → Name) where
  moved_on : (x : X) (xs : List X) (b : Bool) (o : Option ℕ) (r : Option X) → r ≡ (o >>= slice_get xs) → cond b (Some x) r ≡ (cond b (Some 0) (option_map (λ k. k + 1) o) >>= slice_get (x ∷ xs))
  moved_on x xs true o r h = refl
  moved_on x xs false None r h = h
  moved_on x xs false (Some k) r h = h ∙ ap (slice_get (x ∷ xs)) (sym (add-one k))

  item_by_place : (xs : List X) (n : Name) → item_of named n xs ≡ (place_of n (map named xs) >>= slice_get xs)
  item_by_place [] n = refl
  item_by_place (x ∷ xs) n = moved_on x xs (bytes_eq (named x) n) (place_of n (map named xs)) (item_of named n xs) (item_by_place xs n)

  pub no_item : (xs : List X) (n : Name) → place_of n (map named xs) ≡ None → item_of named n xs ≡ None
  no_item xs n none = item_by_place xs n ∙ ap (λ (o : Option ℕ). o >>= slice_get xs) none

  pub item_at_place : (xs : List X) (n : Name) (k : ℕ) (o : Option X) → place_of n (map named xs) ≡ Some k → slice_get xs k ≡ o → item_of named n xs ≡ o
  item_at_place xs n k o is at = item_by_place xs n ∙ ap (λ (p : Option ℕ). p >>= slice_get xs) is ∙ at

-- ---- items as they are seen

pub seen : {X Y : Type 0} (view : X → Y) (b : Bool) (x : X) (o : Option X) → option_map view (cond b (Some x) o) ≡ cond b (Some (view x)) (option_map view o)
seen view true x o = refl
seen view false x o = refl

pub behind : {X Y : Type 0} (view : X → Y) (o : Option (Bor X)) → option_map (λ x. view x.now) o ≡ option_map view (option_map (λ x. x.now) o)
behind view None = refl
behind view (Some x) = refl
