-- The bounds of a plan are between its events, and their weights are in range.
use Rattle.std.proofs.Common.{◌≡◌, ℕ, ◌+◌, ◌≤◌, ◌<◌, Bool, true, false, cond, not, ◌&&◌, ◌||◌, ◌==◌, nat_le, List, [], ◌∷◌, ⊎_elim, inl, inr, ℤ, pos, ◌-ℤ◌, ◌≤ℤ◌, int_lt, refl, ap, ◌∙◌, arith}
use Rattle.std.specs.List.{flat_map, AllByRecursion}
use Rattle.std.proofs.lemmas.Int.{ints}
use Rattle.tp_bounds.specs.declared.Bound.{Bound}
use Rattle.tp_bounds.specs.declared.Point.TheVariants.{Event}
use Rattle.tp_bounds.specs.Setting.{IsInRange}
use Rattle.tp_task.specs.declared.events.Body.{Body}
use Rattle.tp_task.specs.declared.events.Body.TheVariants.{Instant, Durative}
use Rattle.tp_task.specs.declared.events.Cond.{Cond}
use Rattle.tp_task.specs.declared.events.Limit.{Limit}
use Rattle.tp_task.specs.State.{State}
use Rattle.tp_task.specs.Valid.{Planned, Placed, events, events_of, events_from, count_of, IsLawful, BodyHolds}
use Rattle.tp_task.specs.Verdict.{last_moment}
use Rattle.tp_task.specs.Bounds.{In, uses_duration}
use Rattle.tp_task.proofs.Numbered.{in_parts, in_left, in_right}
use Rattle.tp_validate.proofs.Ordered.{at_most}
use Rattle.tp_validate.proofs.Runs.{all_in}
use Rattle.tp_validate.specs.declared.durations.Ticks.{Ticks}
use Rattle.tp_validate.specs.Constraints.{lawful_ticks}
use Rattle.tp_deorder.specs.Spans.{kept_ticks}
use Rattle.tp_deorder.specs.Inequalities.{earlier, no_later, comes_before, only_if, order_of, orders, touches, touching, is_inside, inside, side_of, turn_of, invariant_bounds, length_bounds, at_most_after, body_bounds, steps_bounds, plan_bounds, event_count_of}
use Rattle.tp_bounds.specs.Nets.{SuitsNet}
use Rattle.tp_deorder.proofs.Each.{filter_in}
use Rattle.tp_deorder.proofs.Every.{all_append, all_if, all_flat}
use Rattle.tp_deorder.proofs.Durations.{IsAmong, lawful_among, kept_least}

below_one : (k : ℕ) (p : Planned) (b : Body) (e : Placed) → In e (events_of k p b) → e.number < k + count_of b
below_one k p (Instant x) e (inl w) = let n : e.number ≡ k = ap (λ (y : Placed). y.number) w in omega arith
below_one k p (Instant x) e (inr i) = absurd i
below_one k p (Durative x y c) e (inl w) = let n : e.number ≡ k = ap (λ (y : Placed). y.number) w in omega arith
below_one k p (Durative x y c) e (inr (inl w)) = let n : e.number ≡ k + 1 = ap (λ (y : Placed). y.number) w in omega arith
below_one k p (Durative x y c) e (inr (inr i)) = absurd i

pub below : (k : ℕ) (ps : List Planned) (e : Placed) → In e (events_from k ps) → e.number < k + event_count_of ps
below k [] e i = absurd i
below k (p ∷ ps) e i = ⊎_elim (λ j. omega (arith, below_one k p p.body e j)) (λ j. omega (arith, below (k + count_of p.body) ps e j)) (in_parts e (events_of k p p.body) _ i)

module _ (n : ℕ) where
  abbrev P : Bound → Type 0
  P b = SuitsNet n b

  suits : (a b : ℕ) (w : ℤ) → a < n → b < n → IsInRange w → P (record { from = Event a; to = Event b; w = w })
  suits a b w l m r =
      record { from = λ e q. let n : a ≡ e = cc in omega arith; to = λ e q. let n : b ≡ e = cc in omega arith; weight = r }

  none : IsInRange (pos 0)
  none = record { not_low = omega (arith, ints); not_high = omega (arith, ints) }

  module _ (es : List Placed) (f : (e : Placed) → In e es → e.number < n) where
    orders_suit : AllByRecursion P (orders es es)
    orders_suit =
        all_flat P (order_of es) es (λ a i. all_flat P (λ (b : Placed). only_if (comes_before a b) (earlier a.number b.number)) es (λ b j.
        all_if P (comes_before a b) (earlier a.number b.number) (λ _. suits b.number a.number (pos 0 -ℤ pos 1) (f b j) (f a i) (record { not_low = omega (arith, ints); not_high = omega (arith, ints) }))))

    module _ (k start end : ℕ) (c : Cond) (l : k + 1 < n) where
      stays : (b : Bool) (x y : ℕ) → x < n → y < n → AllByRecursion P (only_if b (no_later x y))
      stays b x y u v = all_if P b (no_later x y) (λ _. suits y x (pos 0) v u none)

      side_suit : (e : Placed) → e.number < n → AllByRecursion P (side_of k start end e)
      side_suit e u =
          let o : k < n = omega arith in
          all_append P (only_if (nat_le e.moment start) (no_later e.number k)) _ (stays (nat_le e.moment start) e.number k u o)
          (all_append P (only_if (nat_le end e.moment) (no_later (k + 1) e.number)) _ (stays (nat_le end e.moment) (k + 1) e.number l u)
          (all_append P (only_if (is_inside start end e) (no_later k e.number)) _ (stays (is_inside start end e) k e.number o u) (stays (is_inside start end e) e.number (k + 1) u l)))

      from_touching : (e : Placed) → In e (touching k c es) → e.number < n
      from_touching e i = f e (filter_in (touches k c) e es i).0

      from_inside : (e : Placed) → In e (inside start end (touching k c es)) → e.number < n
      from_inside e i = from_touching e (filter_in (is_inside start end) e (touching k c es) i).0

      invariant_suit : AllByRecursion P (invariant_bounds es k start end c)
      invariant_suit =
          let ins = inside start end (touching k c es) in
          all_append P (flat_map (side_of k start end) (touching k c es)) _ (all_flat P (side_of k start end) (touching k c es) (λ e i. side_suit e (from_touching e i)))
          (all_flat P (turn_of ins) ins (λ e i. all_flat P (λ (g : Placed). only_if (not (e.number == g.number) && nat_le e.moment g.moment) (no_later e.number g.number)) ins (λ g j.
          stays (not (e.number == g.number) && nat_le e.moment g.moment) e.number g.number (from_inside e i) (from_inside g j))))

  module _ (horizon scale : ℕ) (trace : ℕ → State) (h : horizon ≤ 1_000_000_000) where
    length_suit : (k : ℕ) (w : Ticks) (d : ℕ) → k + 1 < n → d ≤ horizon → IsAmong w d → pos 0 ≤ℤ w.least → AllByRecursion P (length_bounds horizon k w)
    length_suit k w d l m i z =
        let o : k < n = omega arith in (
          suits (k + 1) k (pos 0 -ℤ w.least) l o (record { not_low = omega (arith, ints, i.low, z); not_high = omega (arith, ints, z) }),
          all_if P (int_lt w.most (pos horizon)) (at_most_after k (k + 1) w.most) (λ e. suits k (k + 1) w.most o l (top w d i m (int_lt w.most (pos horizon)) e refl)),
        )
      where
        top : (w : Ticks) (d : ℕ) → IsAmong w d → d ≤ horizon → (b : Bool) → b ≡ true → int_lt w.most (pos horizon) ≡ b → IsInRange w.most
        top w d i m b e q = let x : int_lt w.most (pos horizon) ≡ true = q ∙ e in record { not_low = omega (arith, ints, i.high); not_high = grind (arith, ints) }

    among : (s : State) (d : ℕ) (constraint : List Limit) (b : Bool) → d ≤ horizon → IsLawful scale s constraint d → IsAmong (cond b (record { least = pos d; most = pos d }) (lawful_ticks horizon scale s constraint)) d
    among s d constraint true l m = record { low = omega (arith, ints); high = omega (arith, ints) }
    among s d constraint false l m = lawful_among horizon scale s constraint d l m

    module _ (es : List Placed) (f : (e : Placed) → In e es → e.number < n) where
      body_suit : (k : ℕ) (p : Planned) (b : Body) → k + count_of b ≤ n → ((e : Placed) → In e (events_of k p b) → e.moment ≤ horizon) → BodyHolds scale trace p.moment p.duration b → AllByRecursion P (body_bounds horizon scale (trace p.moment) es k p b)
      body_suit k p (Instant x) l m v = tt
      body_suit k p (Durative x y c) l m v =
          let o : k + 1 < n = omega arith in
          let u = m _ (inr (inl refl)) in
          let d : p.duration ≤ horizon = omega (arith, u) in
          let w = kept_ticks horizon scale (trace p.moment) p.duration x y in
          all_append P (length_bounds horizon k w) _
          (length_suit k w p.duration o d (among (trace p.moment) p.duration x.constraint.items (uses_duration x || uses_duration y) d v.lawful) (kept_least horizon scale (trace p.moment) x.constraint.items p.duration (uses_duration x || uses_duration y)))
          (invariant_suit es f k p.moment (p.moment + p.duration) c o)

      steps_suit : (k : ℕ) (ps : List Planned) → k + event_count_of ps ≤ n → ((e : Placed) → In e (events_from k ps) → e.moment ≤ horizon) → AllByRecursion (λ (p : Planned). BodyHolds scale trace p.moment p.duration p.body) ps → AllByRecursion P (steps_bounds horizon scale trace es k ps)
      steps_suit k [] l m v = tt
      steps_suit k (p ∷ ps) l m v =
          all_append P (body_bounds horizon scale (trace p.moment) es k p p.body) _ (body_suit k p p.body (omega arith) (λ e i. m e (in_left e (events_of k p p.body) _ i)) v.0)
          (steps_suit (k + count_of p.body) ps (omega arith) (λ e i. m e (in_right e (events_of k p p.body) _ i)) v.1)

pub plan_suits : (horizon scale : ℕ) (trace : ℕ → State) (plan : List Planned) → horizon ≤ 1_000_000_000 → last_moment (events plan) ≤ horizon → AllByRecursion (λ (p : Planned). BodyHolds scale trace p.moment p.duration p.body) plan
    → AllByRecursion (SuitsNet (event_count_of plan)) (plan_bounds horizon scale trace plan)
plan_suits horizon scale trace plan h l v =
    let n = event_count_of plan in
    let f : (e : Placed) → In e (events plan) → e.number < n = λ e i. omega (arith, below 0 plan e i) in
    all_append (SuitsNet n) (orders (events plan) (events plan)) _ (orders_suit n (events plan) f)
    (steps_suit n horizon scale trace h (events plan) f 0 plan (omega arith) (λ e i. omega (arith, all_in (λ (x : Placed). x.moment ≤ last_moment (events plan)) (events plan) (at_most (events plan)) e i)) v)
