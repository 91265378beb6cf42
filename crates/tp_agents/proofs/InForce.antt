-- The bounds in force, as a list.
use Rattle.std.proofs.Common.{◌≡◌, ℕ, ◌<◌, ◌⊎◌, inl, inr, Bool, true, false, cond, ◌&&◌, T, List, [], ◌∷◌, map, Option, Some, None, refl, sym, ap, subst, ◌∙◌, arith}
use Rattle.std.specs.declared.cmp.Ordering.{Ordering}
use Rattle.std.specs.declared.cmp.Ordering.TheVariants.{Less, Equal, Greater}
use Rattle.std.specs.Ordering.{nat_cmp, eq_by_cmp, is_eq, is_lt}
use Rattle.std.specs.Cmp.{ranked, nat_cmp_total, tied_itself}
use Rattle.std.specs.List.{All, AllByRecursion, filter_map, cons_option}
use Rattle.std.proofs.lemmas.List.Elements.{All-from_recursion}
use Rattle.std.specs.FinMap.{FinMap, get, values, entries, entries_sorted, get-entries, find, is_sorted, nat_cmp-IsAntisymmetric}
use Rattle.std.specs.FinMap.Entries.{below_all}
use Rattle.tp_bounds.specs.declared.Bound.{Bound}

-- one of a list
abbrev pub Among : {X : Type 0} → X → List X → Type 0
Among x [] = ⊥
Among x (y ∷ ys) = (y ≡ x) ⊎ Among x ys

equal : (r : Ordering) → is_eq r ≡ true → r ≡ Equal
equal Less h = absurd (let f : ⊥ = cc in f)
equal Equal h = refl
equal Greater h = absurd (let f : ⊥ = cc in f)

less : (o : Ordering) → T (is_lt o) → o ≡ Less
less Less p = refl
less Equal p = absurd p
less Greater p = absurd p

pub parts : (a b : Bool) → T (a && b) → T a × T b
parts true b p = (tt, p)
parts false b p = absurd p

pub from_cond_some : {X : Type 0} (b : Bool) (x y : X) (o : Option X) → cond b (Some x) o ≡ Some y → ((b ≡ true) × (x ≡ y)) ⊎ (o ≡ Some y)
from_cond_some true x y o h = inl (refl, cc)
from_cond_some false x y o h = inr h

pub same_key : (q k : ℕ) → eq_by_cmp nat_cmp q k ≡ true → q ≡ k
same_key q k h = nat_cmp-IsAntisymmetric q k (equal (nat_cmp q k) h)

found_among : (es : List (ℕ × Bound)) (id : ℕ) (b : Bound) → find nat_cmp id es ≡ Some b → Among b (map (λ e. e.1) es)
found_among [] id b h = absurd (let f : ⊥ = cc in f)
found_among (e ∷ es) id b h =
    elim (from_cond_some (eq_by_cmp nat_cmp id e.0) e.1 b (find nat_cmp id es) h) [
      | inl p ↦ inl p.1
      | inr p ↦ inr (found_among es id b p)
    ]

-- a bound in force is one of the list
pub get_among : (m : FinMap nat_cmp Bound) (id : ℕ) (b : Bound) → get m id ≡ Some b → Among b (values m)
get_among m id b h = found_among (entries m) id b (sym (get-entries m id) ∙ h)

-- ---- and the other way

not_true : (b : Bool) → (b ≡ true → ⊥) → b ≡ false
not_true true h = absurd (h refl)
not_true false h = refl

pub cond_true : {X : Type 0} (b : Bool) (x y : X) → b ≡ true → cond b x y ≡ x
cond_true b x y h = rw h refl

pub cond_false : {X : Type 0} (b : Bool) (x y : X) → b ≡ false → cond b x y ≡ y
cond_false b x y h = rw h refl

pub itself : (q : ℕ) → eq_by_cmp nat_cmp q q ≡ true
itself q = ap is_eq (tied_itself nat_cmp_total q)

less_lt : (x y : ℕ) → T (is_lt (nat_cmp x y)) → x < y
less_lt x y h = ranked x y Less (sym (less (nat_cmp x y) h))

pub apart : (x y : ℕ) → T (is_lt (nat_cmp x y)) → eq_by_cmp nat_cmp y x ≡ false
apart x y h = not_true (eq_by_cmp nat_cmp y x) (λ e.
    let same : y ≡ x = nat_cmp-IsAntisymmetric y x (equal (nat_cmp y x) e) in
    let lt : x < y = less_lt x y h in
    let f : ⊥ = omega arith in f)

-- a key that stands behind each that is lower than all
record IsFound (es : List (ℕ × Bound)) (b : Bound) : Type 0 where
  id : ℕ
  there : find nat_cmp id es ≡ Some b
  behind : (x : ℕ) → T (below_all nat_cmp x es) → eq_by_cmp nat_cmp id x ≡ false

among_found : (es : List (ℕ × Bound)) → T (is_sorted nat_cmp es) → (b : Bound) → Among b (map (λ e. e.1) es) → IsFound es b
among_found [] s b h = absurd h
among_found (e ∷ es) s b (inl same) =
    record {
      id = e.0;
      there = cond_true (eq_by_cmp nat_cmp e.0 e.0) (Some e.1) (find nat_cmp e.0 es) (itself e.0) ∙ ap Some same;
      behind = λ x h. apart x e.0 (parts (is_lt (nat_cmp x e.0)) (below_all nat_cmp x es) h).0;
    }
among_found (e ∷ es) s b (inr h) =
    let p = parts (below_all nat_cmp e.0 es) (is_sorted nat_cmp es) s in
    let f = among_found es p.1 b h in
    record {
      id = f.id;
      there = cond_false (eq_by_cmp nat_cmp f.id e.0) (Some e.1) (find nat_cmp f.id es) (f.behind e.0 p.0) ∙ f.there;
      behind = λ x k. f.behind x (parts (is_lt (nat_cmp x e.0)) (below_all nat_cmp x es) k).1;
    }

-- one of the list is in force under an identifier
pub among_get : (m : FinMap nat_cmp Bound) (b : Bound) → Among b (values m) → (id : ℕ) × (get m id ≡ Some b)
among_get m b h = let f = among_found (entries m) (entries_sorted m) b h in (f.id, get-entries m f.id ∙ f.there)

-- ---- those that a function gives

later : {Y : Type 0} (o : Option Y) (y : Y) (ys : List Y) → Among y ys → Among y (cons_option o ys)
later None y ys a = a
later (Some z) y ys a = inr a

pub among_map : {X Y : Type 0} (h : X → Option Y) (xs : List X) (x : X) (y : Y) → Among x xs → h x ≡ Some y → Among y (filter_map h xs)
among_map h [] x y a is = absurd a
among_map {Y = Y} h (z ∷ zs) x y (inl same) is =
    subst (λ (o : Option Y). Among y (cons_option o (filter_map h zs))) (sym (ap h same ∙ is)) (inl refl)
among_map {Y = Y} h (z ∷ zs) x y (inr a) is =
    later (h z) y (filter_map h zs) (among_map h zs x y a is)

map_step : {X Y : Type 0} (h : X → Option Y) (z : X) (zs : List X) (y : Y) (o : Option Y) → h z ≡ o → (Among y (filter_map h zs) → (x : X) × Among x zs × (h x ≡ Some y)) → Among y (cons_option o (filter_map h zs)) → (x : X) × Among x (z ∷ zs) × (h x ≡ Some y)
map_step h z zs y None is rest a = let r = rest a in (r.0, inr r.1, r.2)
map_step h z zs y (Some w) is rest (inl same) = (z, inl refl, is ∙ ap Some same)
map_step h z zs y (Some w) is rest (inr a) = let r = rest a in (r.0, inr r.1, r.2)

pub map_among : {X Y : Type 0} (h : X → Option Y) (xs : List X) (y : Y) → Among y (filter_map h xs) → (x : X) × Among x xs × (h x ≡ Some y)
map_among h [] y a = absurd a
map_among h (z ∷ zs) y a = map_step h z zs y (h z) refl (map_among h zs y) a

-- what holds of each one holds of all
pub each_among : {X : Type 0} (P : X → Type 0) (xs : List X) → ((x : X) → Among x xs → P x) → AllByRecursion P xs
each_among P [] h = tt
each_among P (x ∷ xs) h = (h x (inl refl), each_among P xs (λ y a. h y (inr a)))

pub all_among : {X : Type 0} (P : X → Type 0) (xs : List X) → ((x : X) → Among x xs → P x) → All P xs
all_among P xs h = All-from_recursion P xs (each_among P xs h)
