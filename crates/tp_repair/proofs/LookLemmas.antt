-- The looks of an `add`, in numbers of events and of edges.
use Rattle.std.proofs.Common.{◌≡◌, ◌≢◌, ℕ, zero, suc, ◌+◌, ◌*◌, ◌≤◌, inl, inr, Bool, true, false, cond, List, [], ◌∷◌, map, refl, ap, arith}
use Rattle.std.specs.Prelude.{◌||◌, None}
use Rattle.std.specs.List.{sum_by}
use Rattle.std.specs.FinMap.{get, entries, len}
use Rattle.std.proofs.Math.Nat.{mul-le-mul_right}
use Rattle.std.proofs.lemmas.Bool.Decides.{nat_tests}
use Rattle.std.proofs.lemmas.List.Sums.{sum_by-cons}
use Rattle.tp_bounds.specs.declared.Bound.{Bound}
use Rattle.tp_bounds.specs.declared.Point.{Point}
use Rattle.tp_bounds.specs.declared.Point.TheVariants.{Origin, Event}
use Rattle.tp_bounds.specs.Setting.{Setting, event_count}
use Rattle.tp_bounds.specs.Changes.{with_bound}
use Rattle.tp_net.specs.Arcs.{arc_of, number_of}
use Rattle.tp_net.proofs.Spreads.{same_or}
use Rattle.tp_repair_engine.specs.declared.store.Direction.TheVariants.{Up, Down}
use Rattle.tp_repair_engine.specs.Store.{near, one_at}
use Rattle.tp_repair_engine.specs.Flow.{sum_to}
use Rattle.tp_repair_engine.specs.Told.{edge_count}
use Rattle.tp_repair_engine.specs.Costs.{bounds_at, degree, degrees_of, IsCheap, has_moved}
use Rattle.tp_repair_engine.proofs.Cheap.{sum_le, sum_add}
use Rattle.tp_repair_engine.proofs.Degrees.{sum_inserted, len_inserted}
use Rattle.tp_repair.specs.Looks.{is_among, touches, edges_touching, most_looks, LooksNearby}

-- ---- one bound

at_most_one : (p y : ℕ) → one_at p y ≤ 1
at_most_one p y = grind (arith, nat_tests)

none_there : (p y : ℕ) → y ≢ p → one_at p y ≡ 0
none_there p y ne = grind (arith, nat_tests, ne)

no_more : (t : Bool) (k : ℕ) → k ≤ 1 → cond t k 0 ≤ cond t 1 0
no_more true k le = le
no_more false k le = omega arith

nothing : (t : Bool) (k : ℕ) → k ≡ 0 → cond t k 0 ≡ 0
nothing true k is = is
nothing false k is = refl

-- the event is met once at most, at its place
met_once : (test : ℕ → Bool) (q n : ℕ) → (n ≤ q → sum_to (λ e. cond (test e) (one_at (suc q) (suc e)) 0) n ≡ 0) × (sum_to (λ e. cond (test e) (one_at (suc q) (suc e)) 0) n ≤ cond (test q) 1 0)
met_once test q zero = (λ _. refl, omega arith)
met_once test q (suc n) =
    let h = met_once test q n in
    elim (same_or n q) [
      | inl same ↦
          (let none = h.0 (omega (arith, same)) in
          let here : cond (test n) (one_at (suc q) (suc n)) 0 ≤ cond (test n) 1 0 = no_more (test n) (one_at (suc q) (suc n)) (at_most_one (suc q) (suc n)) in
          let there : ◌≡◌ {A = ℕ} (cond (test n) 1 0) (cond (test q) 1 0) = ap (λ e. cond (test e) 1 0) same in
          (λ le. absurd (let no : ⊥ = omega (arith, le, same) in no), omega (arith, none, here, there)))
      | inr ne ↦
          (let zero_here = nothing (test n) (one_at (suc q) (suc n)) (none_there (suc q) (suc n) (λ e. ne (omega (arith, e)))) in
          let most = h.1 in
          (λ le. (let none = h.0 (omega (arith, le)) in omega (arith, none, zero_here)), omega (arith, most, zero_here)))
    ]

origin_met : (test : ℕ → Bool) (n : ℕ) → sum_to (λ e. cond (test e) (one_at 0 (suc e)) 0) n ≡ 0
origin_met test zero = refl
origin_met test (suc n) =
    let h = origin_met test n in
    let zero_here = nothing (test n) (one_at 0 (suc n)) (none_there 0 (suc n) (λ e. (let no : ⊥ = omega (arith, e) in no))) in
    omega (arith, h, zero_here)

end_met : (test : ℕ → Bool) (p : Point) (n : ℕ) → sum_to (λ e. cond (test e) (one_at (number_of p) (suc e)) 0) n ≤ cond (is_among test p) 1 0
end_met test Origin n = let h = origin_met test n in omega (arith, h)
end_met test (Event q) n = (met_once test q n).1

both : (x y : Bool) (a b : ℕ) → a ≤ cond x 1 0 → b ≤ cond y 1 0 → a + b ≤ 2 * cond (x || y) 1 0
both true true a b p q = omega (arith, p, q)
both true false a b p q = omega (arith, p, q)
both false true a b p q = omega (arith, p, q)
both false false a b p q = omega (arith, p, q)

-- ---- all bounds

apart : (t : Bool) (a b c d : ℕ) → cond t ((a + b) + (c + d)) 0 ≤ (cond t a 0 + cond t c 0) + cond t (b + d) 0
apart true a b c d = omega arith
apart false a b c d = omega arith

first_then : (p : ℕ → ℕ) (t : Bool) (f g : ℕ) (a b c d : ℕ) → f ≡ a + b → g ≡ c + d → cond t (f + g) 0 ≤ (cond t a 0 + cond t c 0) + cond t (b + d) 0
first_then p true f g a b c d is is' = omega (arith, is, is')
first_then p false f g a b c d is is' = omega arith

none_at_all : (test : ℕ → Bool) (n : ℕ) → sum_to (λ e. cond (test e) (bounds_at Up (suc e) [] + bounds_at Down (suc e) []) 0) n ≡ 0
none_at_all test zero = refl
none_at_all test (suc n) = let h = none_at_all test n in let z = nothing (test n) (bounds_at Up (suc n) [] + bounds_at Down (suc n) []) refl in omega (arith, h, z)

bounds_met : (test : ℕ → Bool) (es : List (ℕ × Bound)) (n : ℕ) → sum_to (λ e. cond (test e) (bounds_at Up (suc e) es + bounds_at Down (suc e) es) 0) n ≤ 2 * sum_by (λ b. cond (touches test b) 1 0) (map (λ (e : ℕ × Bound). e.1) es)
bounds_met test [] n = let h = none_at_all test n in omega (arith, h)
bounds_met test (x ∷ es) n =
    let up : ℕ → ℕ = λ e. cond (test e) (one_at (number_of x.1.to) (suc e)) 0 in
    let down : ℕ → ℕ = λ e. cond (test e) (one_at (number_of x.1.from) (suc e)) 0 in
    let rest : ℕ → ℕ = λ e. cond (test e) (bounds_at Up (suc e) es + bounds_at Down (suc e) es) 0 in
    let step = sum_le (λ e. cond (test e) (bounds_at Up (suc e) (x ∷ es) + bounds_at Down (suc e) (x ∷ es)) 0) (λ e. (up e + down e) + rest e) n
    (λ e _. first_then up (test e) (bounds_at Up (suc e) (x ∷ es)) (bounds_at Down (suc e) (x ∷ es)) (one_at (number_of x.1.to) (suc e)) (bounds_at Up (suc e) es) (one_at (number_of x.1.from) (suc e)) (bounds_at Down (suc e) es)
    (sum_by-cons (λ b. one_at (near Up (arc_of b)) (suc e)) x.1 (map (λ (y : ℕ × Bound). y.1) es)) (sum_by-cons (λ b. one_at (near Down (arc_of b)) (suc e)) x.1 (map (λ (y : ℕ × Bound). y.1) es))) in
    let s1 = sum_add (λ e. up e + down e) rest n in
    let s2 = sum_add up down n in
    let ends = both (is_among test x.1.from) (is_among test x.1.to) (sum_to down n) (sum_to up n) (end_met test x.1.from n) (end_met test x.1.to n) in
    let more = bounds_met test es n in
    let all = sum_by-cons (λ b. cond (touches test b) 1 0) x.1 (map (λ (y : ℕ × Bound). y.1) es) in
    omega (arith, step, s1, s2, ends, more, all)

two_and : (t : Bool) (a b : ℕ) → cond t (suc a + suc b) 0 ≤ (cond t 1 0 + cond t 1 0) + cond t (a + b) 0
two_and true a b = omega arith
two_and false a b = omega arith

-- the degrees of these events count each edge that touches one of them at most twice
degrees_met : (s : Setting) (test : ℕ → Bool) → degrees_of s test ≤ 2 * edges_touching s test
degrees_met s test =
    let one : ℕ → ℕ = λ e. cond (test e) 1 0 in
    let rest : ℕ → ℕ = λ e. cond (test e) (bounds_at Up (suc e) (entries s.bounds) + bounds_at Down (suc e) (entries s.bounds)) 0 in
    let step = sum_le (λ e. cond (test e) (degree s e) 0) (λ e. (one e + one e) + rest e) (event_count s) (λ e _. two_and (test e) (bounds_at Up (suc e) (entries s.bounds)) (bounds_at Down (suc e) (entries s.bounds))) in
    let s1 = sum_add (λ e. one e + one e) rest (event_count s) in
    let s2 = sum_add one one (event_count s) in
    let more = bounds_met test (entries s.bounds) (event_count s) in
    omega (arith, step, s1, s2, more)

-- a bound more touches no less
touching_more : (s : Setting) (id : ℕ) (b : Bound) (test : ℕ → Bool) → get s.bounds id ≡ None → edges_touching s test ≤ edges_touching (with_bound s id b) test
touching_more s id b test none =
    let h = sum_inserted (λ x. cond (touches test x) 1 0) s.bounds id b none in
    omega (arith, h)

-- ---- products

scaled : (k x : ℕ) → 2 * x ≤ 2 * (k + 2) * x
scaled k x = mul-le-mul_right {m = 2} {n = 2 * (k + 2)} x (omega arith)

scaled_more : (k x : ℕ) → 4 * x ≤ 2 * (k + 2) * x
scaled_more k x = mul-le-mul_right {m = 4} {n = 2 * (k + 2)} x (omega arith)

-- ---- an `add`

pub add_looks_little : (s : Setting) (id : ℕ) (b : Bound) (looks : ℕ) → get s.bounds id ≡ None → looks ≤ 2 * (edge_count s + 1) → looks ≤ most_looks (with_bound s id b)
add_looks_little s id b looks none le =
    let l = len_inserted s.bounds id b none in
    let p = scaled_more (event_count s) (len (with_bound s id b).bounds + event_count s + 1) in
    omega (arith, l, le, p)

pub add_looks_nearby : (s : Setting) (id : ℕ) (b : Bound) (looks : ℕ) → get s.bounds id ≡ None → IsCheap 2 s (with_bound s id b) looks → LooksNearby s (with_bound s id b) looks
add_looks_nearby s id b looks none cheap low high low' high' w w' =
    let most = (cheap low high low' high' w w').0 in
    let test = has_moved low high low' high' in
    let d = degrees_met s test in
    let m = touching_more s id b test none in
    let p = scaled (event_count s) (edges_touching (with_bound s id b) test) in
    omega (arith, most, d, m, p)
