-- Plans of two tasks whose steps do the same by words pass the same limits.
use Rattle.std.proofs.Common.{◌≡◌, ℕ, suc, ◌+◌, ◌<◌, ◌⊎◌, ◌↔◌, List, [], ◌∷◌, length, max, refl, sym, ap, ap₂, ◌∙◌, subst}
use Rattle.std.specs.List.{AllZip}
use Rattle.tp_bounds.specs.declared.Bound.{Bound}
use Rattle.tp_bounds.specs.RunLimits.{RunLimits}
use Rattle.tp_task.specs.declared.events.Body.{Body}
use Rattle.tp_task.specs.declared.events.Body.TheVariants.{Instant, Durative}
use Rattle.tp_task.specs.declared.task.Task.{Task}
use Rattle.tp_task.specs.Tables.{Tables}
use Rattle.tp_task.specs.Valid.{Planned, Placed, events, count_of}
use Rattle.tp_task.specs.Verdict.{last_moment}
use Rattle.tp_happen.specs.tp_plan_text.declared.plans.Step.{Step}
use Rattle.tp_validate.specs.OfTask.{plan_of}
use Rattle.tp_deorder.specs.Answers.{bounds_in, PassesLimits}
use Rattle.tp_deorder.specs.Inequalities.{earlier, only_if, comes_before, order_of, orders, body_count, steps_count, bound_count}
use Rattle.tp_ground_laws.proofs.OnEffects.{AreDistinct}
use Rattle.tp_exec_laws.proofs.OnLists.{zip_flat}
use Rattle.tp_exec_laws.proofs.OnPlans.{AreSameBodies, IsSamePlanned, IsSamePlaced, same_count, same_events}
use Rattle.tp_exec_laws.proofs.OnBounds.{same_before, same_invariant}

module _ (t u : Tables) where
  same_length : (es fs : List Placed) → AllZip (IsSamePlaced t u) es fs → length es ≡ length fs
  same_length [] [] h = refl
  same_length [] (f ∷ fs) h = absurd h
  same_length (e ∷ es) [] h = absurd h
  same_length (e ∷ es) (f ∷ fs) h = ap suc (same_length es fs h.1)

  same_last : (es fs : List Placed) → AllZip (IsSamePlaced t u) es fs → last_moment es ≡ last_moment fs
  same_last [] [] h = refl
  same_last [] (f ∷ fs) h = absurd h
  same_last (e ∷ es) [] h = absurd h
  same_last (e ∷ es) (f ∷ fs) h = ap₂ max h.0.moment (same_last es fs h.1)

module _ (t u : Tables) (d : AreDistinct t) (o : AreDistinct u) where
  module _ (es fs : List Placed) (all : AllZip (IsSamePlaced t u) es fs) where
    same_orders : orders es es ≡ orders fs fs
    same_orders =
        zip_flat (IsSamePlaced t u) (order_of es) (order_of fs)
        (λ a e h. zip_flat (IsSamePlaced t u)
        (λ (b : Placed). only_if (comes_before a b) (earlier a.number b.number))
        (λ (b : Placed). only_if (comes_before e b) (earlier e.number b.number))
        (λ x y k. ap₂ only_if (same_before t u d o a x e y h k) (ap₂ earlier h.number k.number)) es fs all) es fs all

    same_body_count : (k : ℕ) (p q : Planned) (b c : Body) → p.moment ≡ q.moment → p.duration ≡ q.duration → AreSameBodies t u b c → body_count es k p b ≡ body_count fs k q c
    same_body_count k p q (Instant e) (Instant f) m l h = refl
    same_body_count k p q (Instant e) (Durative start end invariant) m l h = absurd h
    same_body_count k p q (Durative start end invariant) (Instant e) m l h = absurd h
    same_body_count k p q (Durative start end invariant) (Durative first last kept) m l h = ap (λ (bs : List Bound). 2 + length bs) (same_invariant t u d o es fs all k p q invariant kept m l h.2)

    same_steps_count : (k : ℕ) (ps qs : List Planned) → AllZip (IsSamePlanned t u) ps qs → steps_count es k ps ≡ steps_count fs k qs
    same_steps_count k [] [] h = refl
    same_steps_count k [] (q ∷ qs) h = absurd h
    same_steps_count k (p ∷ ps) [] h = absurd h
    same_steps_count k (p ∷ ps) (q ∷ qs) h =
        ap₂ (λ (x y : ℕ). x + y) (same_body_count k p q p.body q.body h.0.moment h.0.duration h.0.body)
        (same_steps_count (k + count_of p.body) ps qs h.1
        ∙ ap (λ (n : ℕ). steps_count fs (k + n) qs) (same_count t u p.body q.body h.0.body))

  same_bound_count : (ps qs : List Planned) → AllZip (IsSamePlanned t u) ps qs → bound_count ps ≡ bound_count qs
  same_bound_count ps qs h =
      let all : AllZip (IsSamePlaced t u) (events ps) (events qs) = same_events t u 0 ps qs h in
      ap₂ (λ (x y : ℕ). x + y) (ap length (same_orders (events ps) (events qs) all)) (same_steps_count (events ps) (events qs) all 0 ps qs h)

  pub passes_same : (l : RunLimits) (a b : Task) (ms ns : List Step) → AllZip (IsSamePlanned t u) (plan_of a ms) (plan_of b ns) → bounds_in a ms l.horizon ≡ bounds_in b ns l.horizon → PassesLimits l a ms ↔ PassesLimits l b ns
  passes_same l a b ms ns h e =
      let ps = plan_of a ms in
      let qs = plan_of b ns in
      let all : AllZip (IsSamePlaced t u) (events ps) (events qs) = same_events t u 0 ps qs h in
      let passes : ℕ × ℕ × ℕ × ℕ → Type 0 = λ n. (l.events < n.0) ⊎ ((l.horizon < n.1) ⊎ ((l.bounds < n.2) × (l.bounds < n.3))) in
      let same : (length (events ps), last_moment (events ps), length (bounds_in a ms l.horizon), bound_count ps) ≡ (length (events qs), last_moment (events qs), length (bounds_in b ns l.horizon), bound_count qs) =
      λ i. (same_length t u (events ps) (events qs) all i, same_last t u (events ps) (events qs) all i, length (e i), same_bound_count ps qs h i) in
      (subst passes same, subst passes (sym same))
