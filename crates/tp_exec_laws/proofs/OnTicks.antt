-- How many ticks a step may take, by words.
use Rattle.std.proofs.Common.{◌≡◌, ℕ, Bool, ◌||◌, if◌then◌else◌, List, [], ◌∷◌, map, Option, Some, None, ℤ, pos, ◌*ℤ◌, refl, ap, ap₂, ◌∙◌}
use Rattle.tp_task.specs.declared.events.Body.{Body}
use Rattle.tp_task.specs.declared.events.Body.TheVariants.{Instant, Durative}
use Rattle.tp_task.specs.declared.events.Limit.{Limit}
use Rattle.tp_task.specs.State.{both}
use Rattle.tp_task.specs.Tables.{Tables}
use Rattle.tp_task.specs.Valid.{Planned}
use Rattle.tp_validate.specs.declared.durations.Ticks.{Ticks}
use Rattle.tp_validate.specs.Constraints.{narrowed_by, narrowed_all}
use Rattle.tp_deorder.specs.Spans.{step_ticks}
use Rattle.tp_ground.specs.ReadBack.{named_limit, named_body}
use Rattle.tp_ground.specs.Written.{GroundLimit, GroundBody, instant, durative}
use Rattle.tp_ground_laws.proofs.ByWords.{WordState, value_in}
use Rattle.tp_ground_laws.proofs.OnNamed.{seen, value_named}
use Rattle.tp_exec_laws.proofs.OnEvents.{duration_used, uses_named}

-- those of some numbers of ticks that a duration constraint allows
abbrev pub narrowed_in : ℕ → ℕ → WordState → Ticks → List GroundLimit → Ticks
narrowed_in horizon scale s now [] = now
narrowed_in horizon scale s now (l ∷ ls) =
    narrowed_in horizon scale s (narrowed_by horizon now l.how (both ◌*ℤ◌ (Some (pos scale)) (value_in s None l.value))) ls

-- those that keep a step as it is
abbrev pub ticks_in : ℕ → ℕ → WordState → ℕ → GroundBody → Ticks
ticks_in horizon scale s duration (instant h) = record { least = pos 0; most = pos 0 }
ticks_in horizon scale s duration (durative start end invariant) =
    if duration_used start || duration_used end
    then record { least = pos duration; most = pos duration }
    else narrowed_in horizon scale s (record { least = pos 1; most = pos horizon }) start.constraint

module _ (t : Tables) (horizon scale : ℕ) (s : WordState) where
  narrowed_named : (now : Ticks) (ls : List Limit) → narrowed_all horizon scale (seen t s) now ls ≡ narrowed_in horizon scale s now (map (named_limit t) ls)
  narrowed_named now [] = refl
  narrowed_named now (l ∷ ls) =
      ap (λ (v : Option ℤ). narrowed_all horizon scale (seen t s) (narrowed_by horizon now l.how (both ◌*ℤ◌ (Some (pos scale)) v)) ls) (value_named t s None l.value)
      ∙ narrowed_named (narrowed_by horizon now l.how (both ◌*ℤ◌ (Some (pos scale)) (value_in s None (named_limit t l).value))) ls

  pub ticks_named : (p : Planned) (b : Body) → step_ticks horizon scale (seen t s) p b ≡ ticks_in horizon scale s p.duration (named_body t b)
  ticks_named p (Instant e) = refl
  ticks_named p (Durative start end invariant) =
      ap₂ (λ (b : Bool) (w : Ticks). if b then record { least = pos p.duration; most = pos p.duration } else w)
      (ap₂ (λ (x y : Bool). x || y) (uses_named t start) (uses_named t end))
      (narrowed_named (record { least = pos 1; most = pos horizon }) start.constraint.items)
