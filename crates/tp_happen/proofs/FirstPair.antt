-- The search for the first two events that interfere.
use Rattle.std.proofs.Common.{◌≡◌, ℕ, ◌+◌, ◌<◌, List, [], ◌∷◌, Option, None, length, get_or, drop, drop-cons, add-one, refl, sym, ap, ap₂, ◌∙◌, arith}
use Rattle.std.specs.List.{position_from}
use Rattle.tp_task.specs.Event.{interferes}
use Rattle.tp_task.specs.Happens.{EventOfStep}
use Rattle.tp_happen.specs.Fault.{first_pair, pair_or}

-- fewer than two events have no pair
pub few : (ts : List EventOfStep) → length ts < 2 → None ≡ first_pair 0 ts
few [] h = refl
few (t ∷ []) h = refl
few (t ∷ u ∷ ts) h = absurd (let no : ⊥ = omega (arith, h) in no)

-- a step of the search
module _ (ts : List EventOfStep) (i : ℕ) (t : EventOfStep) (l : i < length ts) (is : t ≡ get_or ts i t) (r : Option ℕ) (found : r ≡ position_from (λ (u : EventOfStep). interferes t.event u.event) (i + 1) (drop (i + 1) ts)) where
  pub pair_step : first_pair i (drop i ts) ≡ pair_or i r (first_pair (i + 1) (drop (i + 1) ts))
  pair_step =
      ap (first_pair i) (drop-cons ts i t l)
      ∙ (ap₂ (λ (x : EventOfStep) k. pair_or i (position_from (λ (u : EventOfStep). interferes x.event u.event) (i + 1) (drop k ts)) (first_pair (i + 1) (drop k ts))) (sym is) (sym (add-one i))
      ∙ ap (λ z. pair_or i z (first_pair (i + 1) (drop (i + 1) ts))) (sym found))
