-- The rows of marks say of each pair of events which comes before the other.
use Rattle.std.proofs.Common.{◌≡◌, ℕ, zero, suc, ◌+◌, ◌≤◌, ◌<◌, Bool, false, cond, not, ◌||◌, List, [], ◌∷◌, ◌++◌, length, map, get_or, drop, drop-cons, add-one, filter, Vec, Global, inl, inr, refl, sym, ap, ap₂, ◌∙◌, arith}
use Rattle.std.specs.List.{flat_map, list_any}
use Rattle.tp_bounds.specs.declared.Bound.{Bound}
use Rattle.tp_task.specs.Valid.{Placed}
use Rattle.tp_task.specs.Bounds.{In}
use Rattle.tp_deorder.specs.Inequalities.{earlier, only_if, comes_before}
use Rattle.tp_deorder.specs.Kept.{successors, some_before, nearest, kept_order_of, kept_orders, AreNumbered, marks_of, table_of, mark_at, rows_of, row_at, is_told}
use Rattle.tp_deorder.proofs.Each.{filter_in}

number_least : (k : ℕ) (es : List Placed) → AreNumbered k es → (e : Placed) → In e es → k ≤ e.number
number_least k [] n e i = absurd i
number_least k (x ∷ xs) n e (inl w) = let a : e.number ≡ x.number = ap (λ (y : Placed). y.number) w in omega (arith, n.0)
number_least k (x ∷ xs) n e (inr i) = omega (arith, number_least (k + 1) xs n.1 e i)

-- what is listed of each event stands at its number
pub read_at : {X : Type 0} (f : Placed → X) (d : X) (k : ℕ) (es : List Placed) → AreNumbered k es → (e : Placed) → In e es → (i : ℕ) → e.number ≡ k + i → get_or (map f es) i d ≡ f e
read_at f d k [] n e j i q = absurd j
read_at f d k (x ∷ xs) n e (inl w) zero q = ap f (sym w)
read_at f d k (x ∷ xs) n e (inl w) (suc i) q = let a : e.number ≡ x.number = ap (λ (y : Placed). y.number) w in absurd (omega (arith, n.0))
read_at f d k (x ∷ xs) n e (inr j) zero q = absurd (omega (arith, number_least (k + 1) xs n.1 e j))
read_at f d k (x ∷ xs) n e (inr j) (suc i) q = read_at f d (k + 1) xs n.1 e j i (omega arith)

told_is : (es : List Placed) → AreNumbered 0 es → (rows : List (Vec Bool Global)) → rows_of rows ≡ table_of es → (a b : Placed) → In a es → In b es → is_told rows a b ≡ comes_before a b
told_is es n rows h a b i j =
    let r : row_at rows b ≡ marks_of es b = ap (λ (x : List (List Bool)). get_or x b.number []) h ∙ read_at (marks_of es) [] 0 es n b j b.number (omega arith) in
    ap (λ (x : List Bool). mark_at x a) r ∙ read_at (λ (c : Placed). comes_before c b) false 0 es n a i a.number (omega arith)

-- tests that agree on the elements of a list
module _ {X : Type 0} where
  filter_same : (p q : X → Bool) (xs : List X) → ((x : X) → In x xs → p x ≡ q x) → filter p xs ≡ filter q xs
  filter_same p q [] h = refl
  filter_same p q (x ∷ xs) h = ap₂ (λ b r. cond b (x ∷ r) r) (h x (inl refl)) (filter_same p q xs (λ y i. h y (inr i)))

  any_same : (p q : X → Bool) (xs : List X) → ((x : X) → In x xs → p x ≡ q x) → list_any p xs ≡ list_any q xs
  any_same p q [] h = refl
  any_same p q (x ∷ xs) h = ap₂ (λ b r. b || r) (h x (inl refl)) (any_same p q xs (λ y i. h y (inr i)))

  flat_same : (f g : X → List Bound) (xs : List X) → ((x : X) → In x xs → f x ≡ g x) → flat_map f xs ≡ flat_map g xs
  flat_same f g [] h = refl
  flat_same f g (x ∷ xs) h = ap₂ (λ b r. b ++ r) (h x (inl refl)) (flat_same f g xs (λ y i. h y (inr i)))

-- the same orders are kept by tests that agree on the events
same_kept : (es : List Placed) (p q : Placed → Placed → Bool) → ((a b : Placed) → In a es → In b es → p a b ≡ q a b) → kept_orders p es es ≡ kept_orders q es es
same_kept es p q h =
    flat_same (kept_order_of p es) (kept_order_of q es) es (λ a i.
    let cs = successors q es a in
    let f : successors p es a ≡ cs = filter_same (p a) (q a) es (λ b j. h a b i j) in
    ap (λ (xs : List Placed). nearest p a xs xs) f
    ∙ flat_same (λ (b : Placed). only_if (not (some_before p cs b)) (earlier a.number b.number)) (λ (b : Placed). only_if (not (some_before q cs b)) (earlier a.number b.number)) cs (λ b j.
    ap (λ s. only_if (not s) (earlier a.number b.number))
    (any_same (λ (c : Placed). p c b) (λ (c : Placed). q c b) cs (λ c k. h c b (filter_in (q a) c es k).0 (filter_in (q a) b es j).0))))

pub kept_told : (es : List Placed) → AreNumbered 0 es → (rows : List (Vec Bool Global)) → rows_of rows ≡ table_of es → kept_orders (is_told rows) es es ≡ kept_orders comes_before es es
kept_told es n rows h = same_kept es (is_told rows) comes_before (told_is es n rows h)

pub nearest_step : (before : Placed → Placed → Bool) (a : Placed) (cs bs : List Placed) (i : ℕ) (b : Placed) → i < length bs → b ≡ get_or bs i b
    → nearest before a cs (drop i bs) ≡ only_if (not (some_before before cs b)) (earlier a.number b.number) ++ nearest before a cs (drop (i + 1) bs)
nearest_step before a cs bs i b l e =
    let d : drop i bs ≡ b ∷ drop (i + 1) bs = rw (add-one, drop-cons bs i b) (ap (λ x. x ∷ drop (suc i) bs) (sym e)) in
    ap (nearest before a cs) d
