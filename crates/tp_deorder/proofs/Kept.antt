-- The orders that are kept are some of those of all pairs, and give the others.
use Rattle.std.proofs.Common.{◌≡◌, ℕ, zero, suc, ◌+◌, ◌≤◌, ◌<◌, Bool, true, false, cond, not, ◌||◌, nat_lt, List, [], ◌∷◌, ◌++◌, length, length-append, filter, inl, inr, refl, ap, arith}
use Rattle.std.proofs.lemmas.Bool.{and_parts, and_from, ltb-true, lt-ltb}
use Rattle.std.specs.List.{list_any, AllByRecursion}
use Rattle.tp_bounds.specs.declared.Bound.{Bound}
use Rattle.tp_bounds.specs.OwnBounds.{MeetsEach}
use Rattle.tp_task.specs.Event.{interferes}
use Rattle.tp_task.specs.State.{State}
use Rattle.tp_task.specs.Valid.{Planned, Placed, events}
use Rattle.tp_task.specs.Bounds.{In}
use Rattle.tp_deorder.specs.Inequalities.{earlier, only_if, comes_before, order_of, orders, steps_bounds, plan_bounds}
use Rattle.tp_deorder.specs.Kept.{successors, some_before, nearest, kept_order_of, kept_orders, net_bounds}
use Rattle.tp_deorder.proofs.Each.{each_append, each_left, each_right, each_part, met_if, in_filter, filter_in}
use Rattle.tp_deorder.proofs.Every.{all_append, all_left, all_right, all_flat, all_part, all_if, holds_if}
use Rattle.tp_deorder.proofs.Listed.{met_earlier, orders_met}

any_in : {X : Type 0} (p : X → Bool) (xs : List X) → list_any p xs ≡ true → (x : X) × In x xs × (p x ≡ true)
any_in {X = X} p [] h = absurd (let f : ⊥ = cc in f)
any_in {X = X} p (y ∷ ys) h = found (p y) refl (λ k. any_in p ys k) h
  where
    found : (b : Bool) → p y ≡ b → (list_any p ys ≡ true → (x : X) × In x ys × (p x ≡ true)) → (b || list_any p ys) ≡ true → (x : X) × In x (y ∷ ys) × (p x ≡ true)
    found true e f k = (y, inl refl, e)
    found false e f k = let r = f k in (r.0, inr r.1, r.2)

pub one_at_most : (b : Bool) (x : Bound) → length (only_if b x) ≤ 1
one_at_most true x = omega arith
one_at_most false x = omega arith

earlier_moment : (a b : Placed) → comes_before a b ≡ true → a.moment < b.moment
earlier_moment a b e = ltb-true a.moment b.moment (and_parts (nat_lt a.moment b.moment) (interferes a.timed.event b.timed.event) e).0

module _ (es : List Placed) where
  -- what holds of each order holds of those that are kept
  pub all_kept : (P : Bound → Type 0) → AllByRecursion P (orders es es) → AllByRecursion P (kept_orders comes_before es es)
  all_kept P h =
      all_flat P (kept_order_of comes_before es) es (λ a i.
      let cs = successors comes_before es a in
      all_flat P (λ (b : Placed). only_if (not (some_before comes_before cs b)) (earlier a.number b.number)) cs (λ b j.
      let p = filter_in (comes_before a) b es j in
      all_if P (not (some_before comes_before cs b)) (earlier a.number b.number) (λ _.
      holds_if P (comes_before a b) (earlier a.number b.number)
      (all_part P (λ (y : Placed). only_if (comes_before a y) (earlier a.number y.number)) es (all_part P (order_of es) es h a i) b p.0) p.1)))

  -- they are no more
  few_of : (a : Placed) (cs xs : List Placed) → length (nearest comes_before a cs (filter (comes_before a) xs)) ≤ length (order_of xs a)
  few_of a cs [] = omega arith
  few_of a cs (x ∷ xs) = one (comes_before a x) (few_of a cs xs)
    where
      one : (b : Bool) → length (nearest comes_before a cs (filter (comes_before a) xs)) ≤ length (order_of xs a)
          → length (nearest comes_before a cs (cond b (x ∷ filter (comes_before a) xs) (filter (comes_before a) xs))) ≤ length (only_if b (earlier a.number x.number) ++ order_of xs a)
      one true l =
          omega (
            arith,
            length-append (only_if (not (some_before comes_before cs x)) (earlier a.number x.number)) (nearest comes_before a cs (filter (comes_before a) xs)),
            one_at_most (not (some_before comes_before cs x)) (earlier a.number x.number),
          )
      one false l = l

  pub kept_few : (of_these : List Placed) → length (kept_orders comes_before es of_these) ≤ length (orders es of_these)
  kept_few [] = omega arith
  kept_few (a ∷ rest) =
      omega (
        arith,
        length-append (kept_order_of comes_before es a) (kept_orders comes_before es rest),
        length-append (order_of es a) (orders es rest),
        few_of a (successors comes_before es a) es,
        kept_few rest,
      )

  -- By induction over the moment of an event less that of another: where an event comes between, the order follows from two others.
  module _ (t : ℕ → ℕ) (h : MeetsEach t (kept_orders comes_before es es)) where
    abbrev Keeps : ℕ → Type 0
    Keeps d = (a b : Placed) → In a es → In b es → comes_before a b ≡ true → b.moment ≤ a.moment + d → t a.number < t b.number

    by_cases : (d : ℕ) → Keeps d → (a b : Placed) → In a es → In b es → comes_before a b ≡ true → b.moment ≤ a.moment + suc d → (s : Bool) → some_before comes_before (successors comes_before es a) b ≡ s → t a.number < t b.number
    by_cases d f a b i j e l false q =
        let cs = successors comes_before es a in
        met_earlier t a.number b.number (met_if t (not (some_before comes_before cs b)) (earlier a.number b.number)
        (each_part t (λ (y : Placed). only_if (not (some_before comes_before cs y)) (earlier a.number y.number)) cs
        (each_part t (kept_order_of comes_before es) es h a i) b (in_filter (comes_before a) b es j e)) (ap not q))
    by_cases d f a b i j e l true q =
        let r = any_in (λ (c : Placed). comes_before c b) (successors comes_before es a) q in
        let p = filter_in (comes_before a) r.0 es r.1 in
        let m : a.moment < r.0.moment = earlier_moment a r.0 p.1 in
        let n : r.0.moment < b.moment = earlier_moment r.0 b r.2 in
        let x = f a r.0 i p.0 p.1 (omega arith) in
        let y = f r.0 b p.0 j r.2 (omega arith) in
        omega (arith, x, y)

    by_distance : (d : ℕ) → Keeps d
    by_distance zero a b i j e l = absurd (let m : a.moment < b.moment = earlier_moment a b e in omega arith)
    by_distance (suc d) a b i j e l = by_cases d (by_distance d) a b i j e l (some_before comes_before (successors comes_before es a) b) refl

    pub kept_enough : MeetsEach t (orders es es)
    kept_enough =
        orders_met t es (λ a b i j x l. by_distance b.moment a b i j (before a b x l) (omega arith))
      where
        before : (a b : Placed) → interferes a.timed.event b.timed.event ≡ true → a.moment < b.moment → comes_before a b ≡ true
        before a b x l = and_from (nat_lt a.moment b.moment) (interferes a.timed.event b.timed.event) (lt-ltb a.moment b.moment l) x

-- the bounds of the network are some of the plan's, and give the others
pub all_in_net : (P : Bound → Type 0) (horizon scale : ℕ) (trace : ℕ → State) (plan : List Planned) → AllByRecursion P (plan_bounds horizon scale trace plan) → AllByRecursion P (net_bounds horizon scale trace plan)
all_in_net P horizon scale trace plan h =
    let es = events plan in
    let ss = steps_bounds horizon scale trace es 0 plan in
    all_append P (kept_orders comes_before es es) ss (all_kept es P (all_left P (orders es es) ss h)) (all_right P (orders es es) ss h)

pub net_enough : (t : ℕ → ℕ) (horizon scale : ℕ) (trace : ℕ → State) (plan : List Planned) → MeetsEach t (net_bounds horizon scale trace plan) → MeetsEach t (plan_bounds horizon scale trace plan)
net_enough t horizon scale trace plan h =
    let es = events plan in
    let ss = steps_bounds horizon scale trace es 0 plan in
    each_append t (orders es es) ss (kept_enough es t (each_left t (kept_orders comes_before es es) ss h)) (each_right t (kept_orders comes_before es es) ss h)
