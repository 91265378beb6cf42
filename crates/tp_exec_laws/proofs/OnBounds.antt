-- Plans of two tasks whose steps do the same by words have the same network, where their runs go through the same states.
use Rattle.std.proofs.Common.{◌≡◌, ℕ, ◌+◌, Bool, not, ◌&&◌, ◌==◌, nat_le, nat_lt, List, [], ◌∷◌, ◌++◌, refl, sym, ap, ap₂, ◌∙◌}
use Rattle.std.specs.List.{AllZip}
use Rattle.tp_bounds.specs.declared.Bound.{Bound}
use Rattle.tp_task.specs.declared.events.Body.{Body}
use Rattle.tp_task.specs.declared.events.Body.TheVariants.{Instant, Durative}
use Rattle.tp_task.specs.declared.events.Cond.{Cond}
use Rattle.tp_task.specs.State.{State}
use Rattle.tp_task.specs.Tables.{Tables}
use Rattle.tp_task.specs.Valid.{Planned, Placed, events, count_of}
use Rattle.tp_deorder.specs.Spans.{step_ticks}
use Rattle.tp_deorder.specs.Inequalities.{earlier, no_later, only_if, comes_before, length_bounds, touches, touching, is_inside, inside, side_of, turn_of, kept_by, invariant_bounds, body_bounds, steps_bounds}
use Rattle.tp_deorder.specs.Kept.{successors, some_before, kept_order_of, kept_orders, net_bounds}
use Rattle.tp_ground.specs.ReadBack.{named_condition}
use Rattle.tp_ground.specs.Written.{GroundBody}
use Rattle.tp_ground_laws.proofs.ByWords.{WordState}
use Rattle.tp_ground_laws.proofs.OnEffects.{AreDistinct}
use Rattle.tp_ground_laws.proofs.OnNamed.{seen}
use Rattle.tp_exec_laws.proofs.OnEvents.{same_interference, same_writing}
use Rattle.tp_exec_laws.proofs.OnLists.{zip_filter, zip_any, zip_flat}
use Rattle.tp_exec_laws.proofs.OnPlans.{AreSameBodies, IsSamePlanned, IsSamePlaced, same_named, same_count, same_events}
use Rattle.tp_exec_laws.proofs.OnTicks.{ticks_in, ticks_named}

module _ (t u : Tables) (d : AreDistinct t) (o : AreDistinct u) where
  abbrev AreSame : List Placed → List Placed → Type 0
  AreSame es fs = AllZip (IsSamePlaced t u) es fs

  -- ---- orders

  pub same_before : (a b e f : Placed) → IsSamePlaced t u a e → IsSamePlaced t u b f → comes_before a b ≡ comes_before e f
  same_before a b e f h k =
      ap₂ (λ (x y : Bool). x && y) (ap₂ nat_lt h.moment k.moment)
      (same_interference t u d o a.timed.event b.timed.event e.timed.event f.timed.event h.event k.event)

  same_order : (es fs : List Placed) → AreSame es fs → (a e : Placed) → IsSamePlaced t u a e → kept_order_of comes_before es a ≡ kept_order_of comes_before fs e
  same_order es fs all a e h =
      let cs = successors comes_before es a in
      let gs = successors comes_before fs e in
      let are : AreSame cs gs = zip_filter (IsSamePlaced t u) (comes_before a) (comes_before e) (λ x y k. same_before a x e y h k) es fs all in
      zip_flat (IsSamePlaced t u)
      (λ (b : Placed). only_if (not (some_before comes_before cs b)) (earlier a.number b.number))
      (λ (b : Placed). only_if (not (some_before comes_before gs b)) (earlier e.number b.number))
      (λ x y k. ap₂ only_if
      (ap not (zip_any (IsSamePlaced t u) (λ (c : Placed). comes_before c x) (λ (c : Placed). comes_before c y) (λ v w l. same_before v x w y l k) cs gs are))
      (ap₂ earlier h.number k.number))
      cs gs are

  same_orders : (es fs : List Placed) → AreSame es fs → kept_orders comes_before es es ≡ kept_orders comes_before fs fs
  same_orders es fs all = zip_flat (IsSamePlaced t u) (kept_order_of comes_before es) (kept_order_of comes_before fs) (same_order es fs all) es fs all

  -- ---- invariants

  same_side : (first start end : ℕ) (a e : Placed) → IsSamePlaced t u a e → side_of first start end a ≡ side_of first start end e
  same_side first start end a e h =
      ap₂ (λ (n m : ℕ). only_if (nat_le m start) (no_later n first)
      ++ (only_if (nat_le end m) (no_later (first + 1) n)
      ++ (only_if (nat_lt start m && nat_lt m end) (no_later first n)
      ++ only_if (nat_lt start m && nat_lt m end) (no_later n (first + 1))))) h.number h.moment

  same_turn : (es fs : List Placed) → AreSame es fs → (a e : Placed) → IsSamePlaced t u a e → turn_of es a ≡ turn_of fs e
  same_turn es fs all a e h =
      zip_flat (IsSamePlaced t u)
      (λ (g : Placed). only_if (not (a.number == g.number) && nat_le a.moment g.moment) (no_later a.number g.number))
      (λ (g : Placed). only_if (not (e.number == g.number) && nat_le e.moment g.moment) (no_later e.number g.number))
      (λ x y k. ap₂ only_if
      (ap₂ (λ (v w : Bool). v && w) (ap not (ap₂ (λ (m n : ℕ). m == n) h.number k.number)) (ap₂ nat_le h.moment k.moment))
      (ap₂ no_later h.number k.number))
      es fs all

  same_kept : (first start end : ℕ) (es fs : List Placed) → AreSame es fs → kept_by first start end es ≡ kept_by first start end fs
  same_kept first start end es fs all =
      let vs = inside start end es in
      let ws = inside start end fs in
      let are : AreSame vs ws = zip_filter (IsSamePlaced t u) (is_inside start end) (is_inside start end) (λ x y k. ap (λ (m : ℕ). nat_lt start m && nat_lt m end) k.moment) es fs all in
      ap₂ (λ (x y : List Bound). x ++ y)
      (zip_flat (IsSamePlaced t u) (side_of first start end) (side_of first start end) (same_side first start end) es fs all)
      (zip_flat (IsSamePlaced t u) (turn_of vs) (turn_of ws) (same_turn vs ws are) vs ws are)

  module _ (es fs : List Placed) (all : AreSame es fs) where
    same_touching : (first : ℕ) (c k : Cond) → named_condition t c ≡ named_condition u k → AreSame (touching first c es) (touching first k fs)
    same_touching first c k i =
        zip_filter (IsSamePlaced t u) (touches first c) (touches first k)
        (λ x y h. ap₂ (λ (b w : Bool). b && w)
        (ap (λ (n : ℕ). not (n == first) && not (n == first + 1)) h.number)
        (same_writing t u d o x.timed.event y.timed.event c k h.event i)) es fs all

    pub same_invariant : (first : ℕ) (p q : Planned) (c k : Cond) → p.moment ≡ q.moment → p.duration ≡ q.duration → named_condition t c ≡ named_condition u k → invariant_bounds es first p.moment (p.moment + p.duration) c ≡ invariant_bounds fs first q.moment (q.moment + q.duration) k
    same_invariant first p q c k m l i =
        same_kept first p.moment (p.moment + p.duration) (touching first c es) (touching first k fs) (same_touching first c k i)
        ∙ ap₂ (λ (x y : ℕ). kept_by first x (x + y) (touching first k fs)) m l

    -- ---- steps

    module _ (horizon scale : ℕ) where
      same_body : (s : WordState) (k : ℕ) (p q : Planned) (b c : Body) → p.moment ≡ q.moment → p.duration ≡ q.duration → AreSameBodies t u b c → body_bounds horizon scale (seen t s) es k p b ≡ body_bounds horizon scale (seen u s) fs k q c
      same_body s k p q (Instant e) (Instant f) m l h = refl
      same_body s k p q (Instant e) (Durative start end invariant) m l h = absurd h
      same_body s k p q (Durative start end invariant) (Instant e) m l h = absurd h
      same_body s k p q (Durative start end invariant) (Durative first last kept) m l h =
          let ticks : step_ticks horizon scale (seen t s) p (Durative start end invariant) ≡ step_ticks horizon scale (seen u s) q (Durative first last kept) =
          ticks_named t horizon scale s p (Durative start end invariant)
          ∙ ap₂ (λ (n : ℕ) (g : GroundBody). ticks_in horizon scale s n g) l (same_named t u (Durative start end invariant) (Durative first last kept) h)
          ∙ sym (ticks_named u horizon scale s q (Durative first last kept)) in
          ap₂ (λ (x y : List Bound). x ++ y) (ap (length_bounds horizon k) ticks) (same_invariant k p q invariant kept m l h.2)

      module _ (before after : ℕ → State) (r : ℕ → WordState) (is_before : (m : ℕ) → before m ≡ seen t (r m)) (is_after : (m : ℕ) → after m ≡ seen u (r m)) where
        same_step : (k : ℕ) (p q : Planned) → IsSamePlanned t u p q → body_bounds horizon scale (before p.moment) es k p p.body ≡ body_bounds horizon scale (after q.moment) fs k q q.body
        same_step k p q h =
            ap (λ (z : State). body_bounds horizon scale z es k p p.body) (is_before p.moment)
            ∙ same_body (r p.moment) k p q p.body q.body h.moment h.duration h.body
            ∙ ap (λ (z : State). body_bounds horizon scale z fs k q q.body) (ap (λ (m : ℕ). seen u (r m)) h.moment ∙ sym (is_after q.moment))

        same_steps : (k : ℕ) (ps qs : List Planned) → AllZip (IsSamePlanned t u) ps qs → steps_bounds horizon scale before es k ps ≡ steps_bounds horizon scale after fs k qs
        same_steps k [] [] h = refl
        same_steps k [] (q ∷ qs) h = absurd h
        same_steps k (p ∷ ps) [] h = absurd h
        same_steps k (p ∷ ps) (q ∷ qs) h =
            ap₂ (λ (x y : List Bound). x ++ y) (same_step k p q h.0)
            (same_steps (k + count_of p.body) ps qs h.1
            ∙ ap (λ (n : ℕ). steps_bounds horizon scale after fs (k + n) qs) (same_count t u p.body q.body h.0.body))

  pub same_net : (horizon scale : ℕ) (before after : ℕ → State) (r : ℕ → WordState) → ((m : ℕ) → before m ≡ seen t (r m)) → ((m : ℕ) → after m ≡ seen u (r m)) → (ps qs : List Planned) → AllZip (IsSamePlanned t u) ps qs → net_bounds horizon scale before ps ≡ net_bounds horizon scale after qs
  same_net horizon scale before after r is_before is_after ps qs h =
      let all : AreSame (events ps) (events qs) = same_events t u 0 ps qs h in
      ap₂ (λ (x y : List Bound). x ++ y) (same_orders (events ps) (events qs) all)
      (same_steps (events ps) (events qs) all horizon scale before after r is_before is_after 0 ps qs h)
