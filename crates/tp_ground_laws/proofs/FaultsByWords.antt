-- The first fault of a plan by words, as tp_task has it by numbers.
use Rattle.std.proofs.Common.{ℕ, suc, ◌+◌, ◌==◌, Bool, false, not, ◌&&◌, nat_le, nat_lt, List, [], ◌∷◌, Option, Some, None, is_some, pos, ◌*ℤ◌, max}
use Rattle.std.specs.List.{list_all, position_from}
use Rattle.tp_task.specs.State.{both, compares_values}
use Rattle.tp_task.specs.Verdict.{Fault, Duration, Undefined, Condition, Clash, Interferes, OverAll, pair_or, fault_or}
use Rattle.tp_ground.specs.Written.{GroundBody, instant, durative}
use Rattle.tp_ground_laws.proofs.ByWords.{WordState, value_in, holds_in, interfere, mix, defined_in, Part, Acted, parts, run}

abbrev pub unlawful_in : ℕ → WordState → ℕ → GroundBody → Bool
unlawful_in scale s ticks (instant h) = false
unlawful_in scale s ticks (durative start end invariant) =
    list_all (λ l. is_some (value_in s None l.value)) start.constraint
    && not (nat_le 1 ticks && list_all (λ l. compares_values l.how
    (Some (pos ticks)) (both ◌*ℤ◌ (Some (pos scale)) (value_in s None l.value))) start.constraint)

abbrev pub broken_in : WordState → ℕ → Acted → GroundBody → Bool
broken_in after m p (instant h) = false
broken_in after m p (durative start end invariant) =
    nat_le p.moment m && (nat_lt m (p.moment + p.duration) && not (holds_in after invariant))

abbrev pub first_pair_in : ℕ → ℕ → List Part → Option (ℕ × ℕ)
first_pair_in m i [] = None
first_pair_in m i (e ∷ es) =
    pair_or i (position_from (λ (u : Part). ((e.moment == m) && (u.moment == m))
    && interfere e.timed.happening u.timed.happening) (i + 1) es) (first_pair_in m (i + 1) es)

-- of a plan with these events, between two states
abbrev pub fault_between : ℕ → WordState → WordState → List Part → List Acted → ℕ → Option Fault
fault_between scale before after es plan m =
    fault_or Duration (position_from (λ (p : Acted). (p.moment == m) && unlawful_in scale before p.duration p.body) 0 plan)
    (fault_or Undefined (position_from (λ (e : Part). (e.moment == m) && not (defined_in scale before e.timed)) 0 es)
    (fault_or Condition (position_from (λ (e : Part). (e.moment == m) && not (holds_in before e.timed.happening.condition)) 0 es)
    (fault_or Clash (position_from (λ (e : Part). (e.moment == m) && mix e.timed.happening.writes) 0 es)
    (fault_or (λ (p : ℕ × ℕ). Interferes p.0 p.1) (first_pair_in m 0 es)
    (fault_or OverAll (position_from (λ (p : Acted). broken_in after m p p.body) 0 plan) None)))))

abbrev pub fault_over : ℕ → WordState → List Part → List Acted → ℕ → Option Fault
fault_over scale s es plan m = fault_between scale (run scale s es m) (run scale s es (suc m)) es plan m

abbrev pub fault_by_words : ℕ → WordState → List Acted → ℕ → Option Fault
fault_by_words scale s plan m = fault_over scale s (parts plan) plan m

abbrev pub last_part : List Part → ℕ
last_part [] = 0
last_part (e ∷ es) = max e.moment (last_part es)
