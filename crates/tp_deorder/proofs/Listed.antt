-- The list of a plan's bounds says what the bounds of the plan say.
use Rattle.std.proofs.Common.{◌≡◌, ℕ, ◌+◌, ◌≤◌, ◌<◌, Bool, true, false, not, ◌&&◌, ◌==◌, nat_le, nat_lt, List, [], ◌∷◌, ◌++◌, refl, ap, arith}
use Rattle.std.proofs.lemmas.Int.{ints}
use Rattle.std.proofs.lemmas.Bool.{and_parts, and_from, ltb-true, leb-true, lt-ltb, le-leb, eqb-true, ne_eqb, not_from_false}
use Rattle.std.proofs.lemmas.Bool.Decides.{nat_tests}
use Rattle.std.specs.List.{flat_map}
use Rattle.tp_bounds.specs.Schedule.{Meets}
use Rattle.tp_task.specs.declared.events.Cond.{Cond}
use Rattle.tp_task.specs.declared.events.Body.{Body}
use Rattle.tp_task.specs.declared.events.Body.TheVariants.{Instant, Durative}
use Rattle.tp_task.specs.State.{State}
use Rattle.tp_task.specs.Event.{interferes}
use Rattle.tp_task.specs.Valid.{Planned, Placed, events, count_of}
use Rattle.tp_task.specs.Bounds.{In, Touches, KeepsInvariant, BodyKeeps, StepsKeep, MeetsBounds, writes_into}
use Rattle.tp_bounds.specs.OwnBounds.{MeetsEach, IsWithin}
use Rattle.tp_deorder.specs.Spans.{kept_ticks}
use Rattle.tp_deorder.specs.Inequalities.{earlier, no_later, comes_before, order_of, orders, touches, touching, is_inside, inside, side_of, turn_of, turns, invariant_bounds, length_bounds, body_bounds, steps_bounds, plan_bounds, only_if, event_count_of}
use Rattle.tp_deorder.proofs.Each.{each_append, each_left, each_right, each_if, met_if, each_flat, each_part, in_filter, filter_in}
use Rattle.tp_deorder.proofs.Durations.{keeps_length, length_keeps}

touches_from : (first : ℕ) (c : Cond) (e : Placed) → touches first c e ≡ true → Touches e first c
touches_from first c e h =
    let p = and_parts (not (e.number == first) && not (e.number == first + 1)) _ h in
    let q = and_parts (not (e.number == first)) _ p.0 in
    record {
      not_start = λ x. grind (arith, nat_tests, q.0, x);
      not_end = λ x. grind (arith, nat_tests, q.1, x);
      writes = p.1;
    }

touches_to : (first : ℕ) (c : Cond) (e : Placed) → Touches e first c → touches first c e ≡ true
touches_to first c e h =
    and_from (not (e.number == first) && not (e.number == first + 1)) (writes_into e.timed.event c)
    (and_from (not (e.number == first)) (not (e.number == first + 1)) (not_from_false _ (ne_eqb e.number first h.not_start)) (not_from_false _ (ne_eqb e.number (first + 1) h.not_end))) h.writes

module _ (t : ℕ → ℕ) where
  pub met_earlier : (a b : ℕ) → Meets t (earlier a b) → t a < t b
  met_earlier a b h = omega (arith, ints, h)

  earlier_met : (a b : ℕ) → t a < t b → Meets t (earlier a b)
  earlier_met a b h = omega (arith, ints)

  met_no_later : (a b : ℕ) → Meets t (no_later a b) → t a ≤ t b
  met_no_later a b h = omega (arith, ints, h)

  no_later_met : (a b : ℕ) → t a ≤ t b → Meets t (no_later a b)
  no_later_met a b h = omega (arith, ints)

  -- the order of interfering events
  abbrev KeepsOrder : List Placed → Type 0
  KeepsOrder es = (a b : Placed) → In a es → In b es → interferes a.timed.event b.timed.event ≡ true → a.moment < b.moment → t a.number < t b.number

  pub orders_met : (es : List Placed) → KeepsOrder es → MeetsEach t (orders es es)
  orders_met es h =
      each_flat t (order_of es) es (λ a i. each_flat t _ es (λ b j. each_if t (comes_before a b) (earlier a.number b.number) (λ e.
      let p = and_parts (nat_lt a.moment b.moment) (interferes a.timed.event b.timed.event) e in
      earlier_met a.number b.number (h a b i j p.1 (ltb-true a.moment b.moment p.0)))))

  met_orders : (es : List Placed) → MeetsEach t (orders es es) → KeepsOrder es
  met_orders es h a b i j x l =
      met_earlier a.number b.number (met_if t (comes_before a b) (earlier a.number b.number)
      (each_part t (λ (y : Placed). only_if (comes_before a y) (earlier a.number y.number)) es (each_part t (order_of es) es h a i) b j)
      (and_from (nat_lt a.moment b.moment) (interferes a.timed.event b.timed.event) (lt-ltb a.moment b.moment l) x))

  module _ (es : List Placed) (first start end : ℕ) (c : Cond) where
    abbrev ws : List Placed
    ws = touching first c es

    abbrev ins : List Placed
    ins = inside start end ws

    inside_parts : (e : Placed) → is_inside start end e ≡ true → (start < e.moment) × (e.moment < end)
    inside_parts e h = let p = and_parts (nat_lt start e.moment) (nat_lt e.moment end) h in (ltb-true start e.moment p.0, ltb-true e.moment end p.1)

    is_in : (e : Placed) → start < e.moment → e.moment < end → is_inside start end e ≡ true
    is_in e l m = and_from (nat_lt start e.moment) (nat_lt e.moment end) (lt-ltb start e.moment l) (lt-ltb e.moment end m)

    side_met : KeepsInvariant es t first start end c → (e : Placed) → In e es → Touches e first c → MeetsEach t (side_of first start end e)
    side_met k e i w =
        each_append t (only_if (nat_le e.moment start) (no_later e.number first)) _
        (each_if t (nat_le e.moment start) (no_later e.number first) (λ h. no_later_met e.number first (k.before e i w (leb-true e.moment start h))))
        (each_append t (only_if (nat_le end e.moment) (no_later (first + 1) e.number)) _
        (each_if t (nat_le end e.moment) (no_later (first + 1) e.number) (λ h. no_later_met (first + 1) e.number (k.behind e i w (leb-true end e.moment h))))
        (each_append t (only_if (is_inside start end e) (no_later first e.number)) (only_if (is_inside start end e) (no_later e.number (first + 1)))
        (each_if t (is_inside start end e) (no_later first e.number) (λ h. let p = inside_parts e h in no_later_met first e.number (k.between e i w p.0 p.1).0))
        (each_if t (is_inside start end e) (no_later e.number (first + 1)) (λ h. let p = inside_parts e h in no_later_met e.number (first + 1) (k.between e i w p.0 p.1).1))))

    turn_met : KeepsInvariant es t first start end c → MeetsEach t (turns ins ins)
    turn_met k =
        each_flat t (turn_of ins) ins (λ e i. each_flat t (λ (g : Placed). only_if (not (e.number == g.number) && nat_le e.moment g.moment) (no_later e.number g.number)) ins (λ g j.
        each_if t (not (e.number == g.number) && nat_le e.moment g.moment) (no_later e.number g.number) (λ h.
        let x = filter_in (is_inside start end) e ws i in
        let y = filter_in (is_inside start end) g ws j in
        let u = filter_in (touches first c) e es x.0 in
        let v = filter_in (touches first c) g es y.0 in
        let p = and_parts (not (e.number == g.number)) (nat_le e.moment g.moment) h in
        no_later_met e.number g.number (k.in_order e g u.0 v.0 (touches_from first c e u.1) (touches_from first c g v.1) (inside_parts e x.1).0 (leb-true e.moment g.moment p.1) (inside_parts g y.1).1))))

    pub invariant_met : KeepsInvariant es t first start end c → MeetsEach t (invariant_bounds es first start end c)
    invariant_met k =
        each_append t (flat_map (side_of first start end) ws) (turns ins ins)
        (each_flat t (side_of first start end) ws (λ e i. let u = filter_in (touches first c) e es i in side_met k e u.0 (touches_from first c e u.1)))
        (turn_met k)

    module _ (h : MeetsEach t (invariant_bounds es first start end c)) where
      sided : (e : Placed) → In e es → Touches e first c → MeetsEach t (side_of first start end e)
      sided e i w =
          each_part t (side_of first start end) ws (each_left t (flat_map (side_of first start end) ws) (turns ins ins) h) e (in_filter (touches first c) e es i (touches_to first c e w))

      within_right : (e : Placed) → In e es → Touches e first c → MeetsEach t (only_if (is_inside start end e) (no_later first e.number) ++ only_if (is_inside start end e) (no_later e.number (first + 1)))
      within_right e i w = each_right t (only_if (nat_le end e.moment) (no_later (first + 1) e.number)) _ (each_right t (only_if (nat_le e.moment start) (no_later e.number first)) _ (sided e i w))

      is_inner : (e : Placed) → In e es → Touches e first c → start < e.moment → e.moment < end → In e ins
      is_inner e i w l m = in_filter (is_inside start end) e ws (in_filter (touches first c) e es i (touches_to first c e w)) (is_in e l m)

      in_turn : (e g : Placed) → In e ins → In g ins → e.moment ≤ g.moment → (b : Bool) → (e.number == g.number) ≡ b → t e.number ≤ t g.number
      in_turn e g i j l true q = let s : t e.number ≡ t g.number = ap t (eqb-true e.number g.number q) in omega arith
      in_turn e g i j l false q =
          met_no_later e.number g.number (met_if t (not (e.number == g.number) && nat_le e.moment g.moment) (no_later e.number g.number)
          (each_part t (λ (y : Placed). only_if (not (e.number == y.number) && nat_le e.moment y.moment) (no_later e.number y.number)) ins
          (each_part t (turn_of ins) ins (each_right t (flat_map (side_of first start end) ws) (turns ins ins) h) e i) g j)
          (and_from (not (e.number == g.number)) (nat_le e.moment g.moment) (not_from_false (e.number == g.number) q) (le-leb e.moment g.moment l)))

      pub met_invariant : KeepsInvariant es t first start end c
      met_invariant =
          record {
            before = λ e i w l. met_no_later e.number first (met_if t (nat_le e.moment start) (no_later e.number first) (each_left t (only_if (nat_le e.moment start) (no_later e.number first)) _ (sided e i w)) (le-leb e.moment start l));
            behind = λ e i w l. met_no_later (first + 1) e.number (met_if t (nat_le end e.moment) (no_later (first + 1) e.number)
                (each_left t (only_if (nat_le end e.moment) (no_later (first + 1) e.number)) _ (each_right t (only_if (nat_le e.moment start) (no_later e.number first)) _ (sided e i w))) (le-leb end e.moment l));
            between = λ e i w l m. (
              met_no_later first e.number (met_if t (is_inside start end e) (no_later first e.number) (each_left t (only_if (is_inside start end e) (no_later first e.number)) _ (within_right e i w)) (is_in e l m)),
              met_no_later e.number (first + 1) (met_if t (is_inside start end e) (no_later e.number (first + 1)) (each_right t (only_if (is_inside start end e) (no_later first e.number)) _ (within_right e i w)) (is_in e l m)),
            );
            in_order = λ e g i j w z l m n.
                let a : e.moment < end = omega arith in
                let b : start < g.moment = omega arith in
                in_turn e g (is_inner e i w l a) (is_inner g j z b n) m (e.number == g.number) refl;
          }

  module _ (horizon scale : ℕ) (trace : ℕ → State) (es : List Placed) (n : ℕ) (within : IsWithin n horizon t) where
    body_met : (k : ℕ) (p : Planned) (b : Body) → k + count_of b ≤ n → BodyKeeps scale trace es t k p b → MeetsEach t (body_bounds horizon scale (trace p.moment) es k p b)
    body_met k p (Instant x) l h = tt
    body_met k p (Durative x y c) l h =
        each_append t (length_bounds horizon k (kept_ticks horizon scale (trace p.moment) p.duration x y)) _
        (keeps_length horizon scale (trace p.moment) t k p.duration x y (within (k + 1) (omega arith)) h.duration)
        (invariant_met es k p.moment (p.moment + p.duration) c h.invariant_kept)

    met_body : (k : ℕ) (p : Planned) (b : Body) → k + count_of b ≤ n → MeetsEach t (body_bounds horizon scale (trace p.moment) es k p b) → BodyKeeps scale trace es t k p b
    met_body k p (Instant x) l h = tt
    met_body k p (Durative x y c) l h =
        let w = length_bounds horizon k (kept_ticks horizon scale (trace p.moment) p.duration x y) in
        record {
          duration = length_keeps horizon scale (trace p.moment) t k p.duration x y (within k (omega arith)) (within (k + 1) (omega arith)) (each_left t w _ h);
          invariant_kept = met_invariant es k p.moment (p.moment + p.duration) c (each_right t w _ h);
        }

    steps_met : (k : ℕ) (ps : List Planned) → k + event_count_of ps ≤ n → StepsKeep scale trace es t k ps → MeetsEach t (steps_bounds horizon scale trace es k ps)
    steps_met k [] l h = tt
    steps_met k (p ∷ ps) l h =
        each_append t (body_bounds horizon scale (trace p.moment) es k p p.body) _ (body_met k p p.body (omega arith) h.0) (steps_met (k + count_of p.body) ps (omega arith) h.1)

    met_steps : (k : ℕ) (ps : List Planned) → k + event_count_of ps ≤ n → MeetsEach t (steps_bounds horizon scale trace es k ps) → StepsKeep scale trace es t k ps
    met_steps k [] l h = tt
    met_steps k (p ∷ ps) l h =
        let w = body_bounds horizon scale (trace p.moment) es k p p.body in
        (met_body k p p.body (omega arith) (each_left t w _ h), met_steps (k + count_of p.body) ps (omega arith) (each_right t w _ h))

  pub bounds_listed : (horizon scale : ℕ) (trace : ℕ → State) (plan : List Planned) → IsWithin (event_count_of plan) horizon t → MeetsBounds scale trace plan t → MeetsEach t (plan_bounds horizon scale trace plan)
  bounds_listed horizon scale trace plan w h =
      each_append t (orders (events plan) (events plan)) _ (orders_met (events plan) h.order)
      (steps_met horizon scale trace (events plan) (event_count_of plan) w 0 plan (omega arith) h.steps)

  pub listed_bounds : (horizon scale : ℕ) (trace : ℕ → State) (plan : List Planned) → IsWithin (event_count_of plan) horizon t → MeetsEach t (plan_bounds horizon scale trace plan) → MeetsBounds scale trace plan t
  listed_bounds horizon scale trace plan w h =
      let o = orders (events plan) (events plan) in
      record {
        order = met_orders (events plan) (each_left t o _ h);
        steps = met_steps horizon scale trace (events plan) (event_count_of plan) w 0 plan (omega arith) (each_right t o _ h);
      }
