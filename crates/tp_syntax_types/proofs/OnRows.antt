-- Rows of items that are alike.
use Rattle.std.proofs.Common.{◌≡◌, ℕ, ◌<◌, ◌≤◌, ◌+◌, zero, suc, List, [], ◌∷◌, ◌++◌, map, take, get_or, length, Bool, true, refl, sym, ap, ◌∙◌, arith}
use Rattle.std.proofs.lemmas.List.{take_more, take_all, map-append}
use Rattle.tp_syntax_ast.specs.Rows.{last_of, AreRows, is_marked}

-- ---- one more

pub last_one : {T : Type 0} (x : T) (ys : List T) (y : T) → last_of x (ys ++ y ∷ []) ≡ y
last_one x [] y = refl
last_one x (z ∷ ys) y = last_one z ys y

pub last_taken : {S T : Type 0} (f : S → T) (x : T) (ys : List S) (k : ℕ) (y : S) → k < length ys → y ≡ get_or ys k y → last_of x (map f (take (k + 1) ys)) ≡ f y
last_taken {S = S} f x ys k y lt at =
    ap (λ (zs : List S). last_of x (map f zs)) (take_more ys k y lt)
    ∙ ap (last_of x) (map-append f (take k ys) (get_or ys k y ∷ []))
    ∙ last_one x (map f (take k ys)) (f (get_or ys k y))
    ∙ ap f (sym at)

-- what is made of each item, so far
module _ {S T : Type 0} (f : S → T) (ys : List S) (k : ℕ) where
  pub made_more : (y : S) (z : T) (zs new : List T) → k < length ys → y ≡ get_or ys k y → z ≡ f y → zs ≡ map f (take k ys) → new ≡ zs ++ z ∷ [] → new ≡ map f (take (k + 1) ys)
  made_more y z zs new lt at is made grown =
      grown
      ∙ ap (λ (us : List T). us ++ z ∷ []) made
      ∙ ap (λ (u : T). map f (take k ys) ++ u ∷ []) (is ∙ ap f at)
      ∙ sym (map-append f (take k ys) (get_or ys k y ∷ []))
      ∙ sym (ap (map f) (take_more ys k y lt))

  pub made_all : (zs : List T) → length ys ≤ k → zs ≡ map f (take k ys) → zs ≡ map f ys
  made_all zs le made = made ∙ ap (map f) (take_all k ys le)

pub one_more : {T : Type 0} (ms : List Bool) (x : T) (ys : List T) (m : Bool) (y : T) → length ms ≡ length ys → AreRows ms x ys → (m ≡ true → last_of x ys ≡ y) → AreRows (ms ++ m ∷ []) x (ys ++ y ∷ [])
one_more [] x [] m y e rows h = (h, record {})
one_more [] x (z ∷ ys) m y e rows h = absurd (omega (e, arith))
one_more (n ∷ ms) x [] m y e rows h = absurd (omega (e, arith))
one_more (n ∷ ms) x (z ∷ ys) m y e rows h = (rows.0, one_more ms z ys m y (omega (e, arith)) rows.1 h)

-- ---- what marks tell

pub as_before : {S T : Type 0} (f : S → T) (ms : List Bool) (x : T) (ys : List S) (k : ℕ) (y : S) → AreRows ms x (map f ys) → is_marked ms k ≡ true → k < length ys → y ≡ get_or ys k y → last_of x (map f (take k ys)) ≡ f y
as_before f [] x ys zero y rows mark lt at = cc
as_before f [] x ys (suc k) y rows mark lt at = cc
as_before f (m ∷ ms) x [] k y rows mark lt at = absurd (omega (lt, arith))
as_before f (m ∷ ms) x (z ∷ ys) zero y rows mark lt at = rows.0 mark ∙ ap f (sym at)
as_before f (m ∷ ms) x (z ∷ ys) (suc k) y rows mark lt at = as_before f ms (f z) ys k y rows.1 mark (omega (lt, arith)) at

-- no more marks than items: what comes behind them isn't marked
pub rows_before : {T : Type 0} (ms : List Bool) (x : T) (ys zs : List T) → length ms ≡ length ys → AreRows ms x ys → AreRows ms x (ys ++ zs)
rows_before [] x ys zs e rows = record {}
rows_before (m ∷ ms) x [] zs e rows = absurd (omega (e, arith))
rows_before (m ∷ ms) x (y ∷ ys) zs e rows = (rows.0, rows_before ms y ys zs (omega (e, arith)) rows.1)

pub rows_map : {S T : Type 0} (f : S → T) (ms : List Bool) (x : S) (ys : List S) → AreRows ms x ys → AreRows ms (f x) (map f ys)
rows_map f [] x ys rows = record {}
rows_map f (m ∷ ms) x [] rows = record {}
rows_map f (m ∷ ms) x (y ∷ ys) rows = ((λ mark. ap f (rows.0 mark)), rows_map f ms y ys rows.1)
