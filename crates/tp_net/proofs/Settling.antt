-- How moments come nearer to the least, or to the greatest, solution, arc by arc.
use Rattle.std.proofs.Common.{◌≡◌, ℕ, zero, suc, ◌+◌, ◌<◌, ◌≤◌, ◌^◌, Bool, false, IsTrue, List, [], ◌∷◌, length, set, get_or, replicate, refl, ap, arith}
use Rattle.std.specs.Prelude.{All, ℤ, pos, ◌+ℤ◌, ◌≤ℤ◌}
use Rattle.std.proofs.lemmas.Int.{ints}
use Rattle.std.proofs.lemmas.List.{length-replicate}
use Rattle.tp_net.specs.declared.slacks.Arc.{Arc}
use Rattle.tp_net.specs.Graph.{MeetsArc, IsSolution, IsLeast, IsGreatest, arc_at, no_arc, moment}
use Rattle.tp_net.specs.Slacks.{JoinsPoints}
use Rattle.tp_net.specs.Moments.{ReachOrigin, FromOrigin}
use Rattle.tp_net.specs.Rounds.{AreLow, AreHigh, AreFar, total, IsKnown}

-- one moment in place of another
total_set : (ms : List ℕ) (i m : ℕ) → i < length ms → total (set ms i m) + get_or ms i 0 ≡ total ms + m
total_set [] i m within = absurd (omega (arith, within))
total_set (n ∷ ms) zero m within = omega arith
total_set (n ∷ ms) (suc i) m within = (let rest : total (set ms i m) + get_or ms i 0 ≡ total ms + m = total_set ms i m (omega (arith, within)) in omega (arith, rest))

pub lifted_more : (low : List ℕ) (i wanted : ℕ) → i < length low → get_or low i 0 < wanted → total low < total (set low i wanted)
lifted_more low i wanted within more = (let s = total_set low i wanted within in omega (arith, s, more))

pub fallen_less : (high : List ℕ) (i allowed : ℕ) → i < length high → allowed < get_or high i 0 → total (set high i allowed) < total high
fallen_less high i allowed within less = (let s = total_set high i allowed within in omega (arith, s, less))

-- moments between those of a known solution and none are far from the ends of the machine's numbers
pub known_small : (arcs : List Arc) (known low : List ℕ) → length known ≡ length low → IsKnown arcs known → AreLow arcs low → (x : ℕ) → x < length low → get_or low x 0 < 2 ^ 40
known_small arcs known low len k below x within =
    let b : pos (get_or low x 0) ≤ℤ pos (get_or known x 0) = below (moment known) k.solution x within in
    let s : get_or known x 0 < 2 ^ 40 = k.small x 0 (omega (arith, within, len)) in
    omega (arith, ints, b, s)

pub known_room : (arcs : List Arc) (known high : List ℕ) (arc : Arc) → length known ≡ length high → IsKnown arcs known → AreHigh arcs high → JoinsPoints (length high) arc → MeetsArc (moment known) arc
    → pos 0 ≤ℤ (pos (get_or high arc.from 0) +ℤ arc.weight)
known_room arcs known high arc len k above joins met =
    let a : pos (get_or known arc.from 0) ≤ℤ pos (get_or high arc.from 0) = above (moment known) k.solution arc.from joins.0 in
    omega (arith, ints, a, met)

-- what a round has done before its k-th arc: it has moved a point, or the arcs so far are met
pub record IsRising (arcs : List Arc) (before low : List ℕ) (k : ℕ) (rose : Bool) : Type 0 where
  pub len : length low ≡ length before
  pub near : AreLow arcs low
  pub more : IsTrue rose → total before < total low
  pub same : rose ≡ false → low ≡ before
  pub met : rose ≡ false → (j : ℕ) → j < k → MeetsArc (moment low) (arc_at arcs j)

pub record IsFalling (arcs : List Arc) (before high : List ℕ) (k : ℕ) (fell : Bool) : Type 0 where
  pub len : length high ≡ length before
  pub near : AreHigh arcs high
  pub far : AreFar high
  pub start : get_or before 0 0 ≡ 0 → get_or high 0 0 ≡ 0
  pub less : IsTrue fell → total high < total before
  pub same : fell ≡ false → high ≡ before
  pub met : fell ≡ false → (j : ℕ) → j < k → MeetsArc (moment high) (arc_at arcs j)

-- where no arc is broken, moments on this side of every solution are the one at its end
pub settled_low : (arcs : List Arc) (known low : List ℕ) → length known ≡ length low → 0 < length low → IsKnown arcs known → AreLow arcs low → All (MeetsArc (moment low)) arcs → IsLeast arcs low
settled_low arcs known low len some k near met =
    let first : pos (get_or low 0 0) ≤ℤ pos (get_or known 0 0) = near (moment known) k.solution 0 some in
    let start : pos (get_or known 0 0) ≡ pos 0 = k.solution.0 in
    record {
      solution = ((let z : get_or low 0 0 ≡ 0 = omega (arith, ints, first, start) in ap pos z), met);
      least = λ t sched x within. near t sched x within;
    }

pub settled_high : (arcs : List Arc) (high : List ℕ) → get_or high 0 0 ≡ 0 → AreHigh arcs high → All (MeetsArc (moment high)) arcs → IsGreatest arcs high
settled_high arcs high start near met = record {
  solution = (ap pos start, met);
  greatest = λ t sched x within. near t sched x within;
}

-- moments that are nowhere later add up to no more
pub sum_below : (xs ys : List ℕ) → length xs ≡ length ys → ((x : ℕ) → x < length xs → get_or xs x 0 ≤ get_or ys x 0) → total xs ≤ total ys
sum_below [] ys len le = omega arith
sum_below (x ∷ xs) [] len le = absurd (omega (arith, len))
sum_below (x ∷ xs) (y ∷ ys) len le =
    let here : x ≤ y = le 0 (omega arith) in
    let rest : total xs ≤ total ys = sum_below xs ys (omega (arith, len)) (λ i within. le (suc i) (omega (arith, within))) in
    omega (arith, here, rest)

pub total_known : (arcs : List Arc) (known low : List ℕ) → length low ≡ length known → IsKnown arcs known → AreLow arcs low → total low ≤ total known
total_known arcs known low len k near =
    sum_below low known len (λ x within. (let b : pos (get_or low x 0) ≤ℤ pos (get_or known x 0) = near (moment known) k.solution x within in omega (arith, ints, b)))

pub zeros : (n x : ℕ) → ◌≡◌ {A = ℕ} (get_or (replicate {A = ℕ} n 0) x 0) 0
zeros zero x = refl
zeros (suc n) zero = refl
zeros (suc n) (suc x) = zeros n x

pub zeros_length : (n : ℕ) → length (replicate {A = ℕ} n 0) ≡ n
zeros_length n = length-replicate {A = ℕ} n 0

-- no solution has a point before the origin, or further from a known one than the amount
pub none_before : (arcs : List Arc) (known : List ℕ) (amount n : ℕ) → n ≡ length known → ReachOrigin arcs known amount → (low : List ℕ) → length low ≡ n → ((x : ℕ) → x < n → get_or low x 0 ≡ 0) → AreLow arcs low
none_before arcs known amount n is reach low len zeros t sched zero within =
    (let z : get_or low 0 0 ≡ 0 = zeros 0 (omega (arith, within, len)) in let o : t 0 ≡ pos 0 = sched.0 in omega (arith, ints, z, o))
none_before arcs known amount n is reach low len zeros t sched (suc y) within =
    let x : ℕ = suc y in
    let r = reach x (omega arith) (omega (arith, within, len, is)) in
    let z : get_or low x 0 ≡ 0 = zeros x (omega (arith, within, len)) in
    let m : t (arc_at arcs r.0).to ≤ℤ (t (arc_at arcs r.0).from +ℤ (arc_at arcs r.0).weight) = sched.1 r.0 no_arc r.1 in
    let a : t (arc_at arcs r.0).from ≡ t x = ap t r.2 in
    let b : t (arc_at arcs r.0).to ≡ t 0 = ap t r.3 in
    let o : t 0 ≡ pos 0 = sched.0 in
    let neg = r.5 in
    omega (arith, ints, z, m, a, b, o, neg)

pub none_after : (arcs : List Arc) (known : List ℕ) (amount : ℕ) → IsSolution arcs (moment known) → FromOrigin arcs known amount → (high : List ℕ) → length high ≡ length known → get_or high 0 0 ≡ 0 → ((x : ℕ) → 0 < x → x < length known → get_or high x 0 ≡ get_or known x 0 + amount) → AreHigh arcs high
none_after arcs known amount solution reach high len start each t sched zero within =
    (let o : t 0 ≡ pos 0 = sched.0 in omega (arith, ints, start, o))
none_after arcs known amount solution reach high len start each t sched (suc y) within =
    let x : ℕ = suc y in
    let r = reach x (omega arith) (omega (arith, within, len)) in
    let z : get_or high x 0 ≡ get_or known x 0 + amount = each x (omega arith) (omega (arith, within, len)) in
    let m : t (arc_at arcs r.0).to ≤ℤ (t (arc_at arcs r.0).from +ℤ (arc_at arcs r.0).weight) = sched.1 r.0 no_arc r.1 in
    let a : t (arc_at arcs r.0).from ≡ t 0 = ap t r.2 in
    let b : t (arc_at arcs r.0).to ≡ t x = ap t r.3 in
    let o : t 0 ≡ pos 0 = sched.0 in
    let strict = r.4 in
    omega (arith, ints, z, m, a, b, o, strict)
