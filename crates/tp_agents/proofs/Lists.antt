-- Lists that a loop changes or makes.
use Rattle.std.proofs.Common.{◌≡◌, ℕ, zero, suc, ◌+◌, ◌<◌, inl, inr, List, [], ◌∷◌, ◌++◌, length, map, take, drop, set, get_or, Some, slice_get, refl, sym, ap, subst, ◌∙◌, arith}
use Rattle.std.specs.List.{All, AllByRecursion}
use Rattle.std.proofs.lemmas.Bool.{cases_eq}
use Rattle.std.proofs.lemmas.List.{append_assoc, drop_more, get_or_at, set_at, map_more, length-map, length-take-le, get_or_push, get_or_append_left, length_push}
use Rattle.std.proofs.lemmas.List.Elements.{recursion_from_All}
use Rattle.tp_bounds.specs.Certificates.{moments_of}
use Rattle.tp_agents.proofs.InForce.{Among}

-- one more element is replaced by what a function gives of it
pub named_more : {X : Type 0} (f : X → X) (es items : List X) (k : ℕ) (x y : X) → k < length es → items ≡ map f (take k es) ++ drop k es → x ≡ get_or items k x → y ≡ f x → set items k y ≡ map f (take (k + 1) es) ++ drop (k + 1) es
named_more {X = X} f es items k x y lt is read gives =
    let p : List X = map f (take k es) in
    let e : X = get_or es k x in
    let rest : List X = drop (k + 1) es in
    let count : length p ≡ k = length-map (take k es) f ∙ length-take-le k es (omega arith) in
    let all : items ≡ p ++ (e ∷ rest) = is ∙ ap (λ (l : List X). p ++ l) (drop_more es k x lt) in
    let at : x ≡ e = read ∙ (ap (λ (l : List X). get_or l k x) all ∙ get_or_at p e rest x k count) in
    ap (λ (l : List X). set l k y) all
    ∙ (set_at p e rest y k count
    ∙ (ap (λ (v : X). p ++ (v ∷ rest)) (gives ∙ ap f at)
    ∙ (sym (append_assoc p (f e ∷ []) rest)
    ∙ ap (λ (l : List X). l ++ rest) (sym (map_more f es k x lt)))))

by_each : {X : Type 0} (P : X → Type 0) (xs : List X) → AllByRecursion P xs → (x : X) → Among x xs → P x
by_each P [] h x a = absurd a
by_each P (y ∷ ys) h x (inl same) = subst P same h.0
by_each P (y ∷ ys) h x (inr a) = by_each P ys h.1 x a

pub all_each : {X : Type 0} (P : X → Type 0) (xs : List X) → All P xs → (x : X) → Among x xs → P x
all_each P xs h x a = by_each P xs (recursion_from_All P xs h) x a

-- one more moment is listed
pub listed_more : (xs ys : List ℕ) (t u : ℕ → ℕ) (e low : ℕ) → length xs ≡ e → ys ≡ xs ++ low ∷ [] → ((k : ℕ) → k < e → moments_of xs k ≡ t k) → ((k : ℕ) → k < e → u k ≡ t k) → u e ≡ low → (k : ℕ) → k < e + 1 → moments_of ys k ≡ u k
listed_more xs ys t u e low count is old same at k lt =
    ap (λ l. get_or l k 0) is
    ∙ elim (cases_eq k e) [
      | inl here ↦ get_or_push xs low 0 k (count ∙ sym here) ∙ (sym at ∙ ap u (sym here))
      | inr ne ↦ get_or_append_left xs (low ∷ []) 0 k (omega arith) ∙ (old k (omega arith) ∙ sym (same k (omega arith)))
    ]

pub count_more : {X : Type 0} (xs ys : List X) (x : X) (e : ℕ) → length xs ≡ e → ys ≡ xs ++ x ∷ [] → length ys ≡ e + 1
count_more xs ys x e count is = ap length is ∙ (length_push xs x ∙ ap (λ n. n + 1) count)

pub slice_get_last : {X : Type 0} (xs : List X) (x : X) → slice_get (xs ++ x ∷ []) (length xs) ≡ Some x
slice_get_last [] x = refl
slice_get_last (y ∷ xs) x = slice_get_last xs x

pub slice_get_front : {X : Type 0} (xs : List X) (x : X) (k : ℕ) → k < length xs → slice_get (xs ++ x ∷ []) k ≡ slice_get xs k
slice_get_front [] x k lt = absurd (let f : ⊥ = omega arith in f)
slice_get_front (y ∷ xs) x zero lt = refl
slice_get_front (y ∷ xs) x (suc k) lt = slice_get_front xs x k (omega arith)

-- what holds of each of two lists holds of both joined
pub all_both : {X : Type 0} (P : X → Type 0) (xs ys : List X) → AllByRecursion P xs → AllByRecursion P ys → AllByRecursion P (xs ++ ys)
all_both P [] ys h k = k
all_both P (x ∷ xs) ys h k = (h.0, all_both P xs ys h.1 k)
