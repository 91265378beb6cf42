-- The inner bounds of an agent, found by one bound after another.
use Rattle.std.proofs.Common.{◌≡◌, ℕ, zero, suc, ◌<◌, inl, inr, List, [], ◌∷◌, ◌++◌, length, map, get_or, Option, Some, None, refl, sym, ap, subst, ◌∙◌, arith}
use Rattle.std.specs.List.{filter_map, cons_option}
use Rattle.std.specs.Borrow.{Bor}
use Rattle.std.specs.Iterator.{Yields}
use Rattle.std.specs.Map.Iter.{TakesFirst, deref}
use Rattle.std.specs.FinMap.{values}
use Rattle.std.proofs.lemmas.Iterator.Consumers.{YieldsList-from_rest, YieldsList-turn, YieldsList-end}
use Rattle.std.proofs.lemmas.List.{map_push, append-nil}
use Rattle.tp_bounds.specs.declared.Point.{Point}
use Rattle.tp_bounds.specs.declared.Point.TheVariants.{Event}
use Rattle.tp_bounds.specs.declared.Bound.{Bound}
use Rattle.tp_bounds.specs.Setting.{Setting, event_count, HasPoint}
use Rattle.tp_bounds.specs.Lawful.{Suits, IsLawful}
use Rattle.tp_bounds.specs.Nets.{IsPointOf}
use Rattle.tp_agents.proofs.InForce.{Among, among_get}

among_at : {X : Type 0} (xs : List X) (k : ℕ) (x : X) → k < length xs → x ≡ get_or xs k x → Among x xs
among_at [] k x lt is = absurd (let f : ⊥ = omega arith in f)
among_at (y ∷ ys) zero x lt is = inl (sym is)
among_at (y ∷ ys) (suc k) x lt is = inr (among_at ys k x (omega arith) is)

-- a bound that a loop over the bounds in force comes to
pub item_among : (all : List Bound) (xs : List (Bor Bound)) (s t u : List Bound) (r : Option (Bor Bound)) (x : Bor Bound) → s ≡ all → Yields (TakesFirst deref) s xs t → r ≡ Some x → TakesFirst deref t r u → Among x.now all
item_among all xs s t u r x start y is step =
    let h = YieldsList-turn (YieldsList-from_rest {shows = deref} all start) xs t y r u x is step in
    among_at all (length xs) x.now h.0 h.1

pub items_all : (all : List Bound) (xs : List (Bor Bound)) (s t u : List Bound) (r : Option (Bor Bound)) → s ≡ all → Yields (TakesFirst deref) s xs t → r ≡ None → TakesFirst deref t r u → map deref xs ≡ all
items_all all xs s t u r start y is step = (YieldsList-end (YieldsList-from_rest {shows = deref} all start) xs t y r u is step).0

-- it suits the setting
pub item_suits : (s : Setting) → IsLawful s → (b : Bound) → Among b (values s.bounds) → Suits s b
item_suits s lawful b a = let g = among_get s.bounds b a in lawful.in_force g.0 b g.1

pub point_of : (s : Setting) (n : ℕ) (p : Point) → n ≡ event_count s → HasPoint s p → IsPointOf n p
point_of s n p same has e is =
    let h : HasPoint s (Event e) = subst (HasPoint s) is has in
    subst (λ k. e < k) (sym same) h

-- ---- one bound more

joined : {Y : Type 0} (o : Option Y) (xs ys : List Y) → cons_option o (xs ++ ys) ≡ cons_option o xs ++ ys
joined None xs ys = refl
joined (Some y) xs ys = refl

given_push : {X Y : Type 0} (f : X → Option Y) (xs : List X) (x : X) → filter_map f (xs ++ x ∷ []) ≡ filter_map f xs ++ cons_option (f x) []
given_push f [] x = refl
given_push f (y ∷ ys) x = ap (cons_option (f y)) (given_push f ys x) ∙ joined (f y) (filter_map f ys) (cons_option (f x) [])

pub given_some : {X Y Z : Type 0} (f : X → Option Y) (g : Z → X) (xs : List Z) (x : Z) (old new : List Y) (y : Y) → f (g x) ≡ Some y → old ≡ filter_map f (map g xs) → new ≡ old ++ y ∷ [] → new ≡ filter_map f (map g (xs ++ x ∷ []))
given_some {Y = Y} f g xs x old new y is all made =
    made
    ∙ (ap (λ (l : List Y). l ++ y ∷ []) all
    ∙ (ap (λ (o : Option Y). filter_map f (map g xs) ++ cons_option o []) (sym is)
    ∙ (sym (given_push f (map g xs) (g x))
    ∙ ap (filter_map f) (sym (map_push g xs x)))))

pub given_none : {X Y Z : Type 0} (f : X → Option Y) (g : Z → X) (xs : List Z) (x : Z) (old : List Y) → f (g x) ≡ None → old ≡ filter_map f (map g xs) → old ≡ filter_map f (map g (xs ++ x ∷ []))
given_none {Y = Y} f g xs x old is all =
    all
    ∙ (sym (append-nil (filter_map f (map g xs)))
    ∙ (ap (λ (o : Option Y). filter_map f (map g xs) ++ cons_option o []) (sym is)
    ∙ (sym (given_push f (map g xs) (g x))
    ∙ ap (filter_map f) (sym (map_push g xs x)))))
