-- What the intervals are good for (Hunsberger 2002): whatever each agent chooses within its own, the bounds between agents are met.
use Rattle.std.specs.Prelude.{◌≡◌, ℕ, ◌-◌, ◌+◌, ◌≤◌, ◌⊎◌, List, slice_index_or, slice_set, Option, Some, None}
use Rattle.std.specs.FinMap.{get}
use Rattle.tp_bounds.specs.declared.Bound.{Bound}
use Rattle.tp_bounds.specs.Setting.{Setting}
use Rattle.tp_bounds.specs.Schedule.{Meets, HasSchedule}
use Rattle.tp_agents.specs.declared.crosses.CrossBound.{CrossBound}
use Rattle.tp_agents.specs.Crosses.{cross_of}
use Rattle.tp_agents.specs.Parts.{part_setting}

-- each interface event is in its interval
abbrev pub AreInside : List (Option (ℕ × ℕ)) → (ℕ → ℕ) → Type 0
AreInside intervals t =
    (e : ℕ) (interval : ℕ × ℕ) → slice_index_or intervals e None ≡ Some interval
    → (interval.0 ≤ t e) × (t e ≤ interval.1)

-- a bound in force joins events of two agents
abbrev pub IsCrossBound : Setting → List ℕ → Bound → Type 0
IsCrossBound s owners b =
    (id : ℕ) × (get s.bounds id ≡ Some b) × ((c : CrossBound) × (cross_of owners b ≡ Some c))

-- every choice of moments inside the intervals meets every cross bound
abbrev pub Decouples : Setting → List ℕ → List (Option (ℕ × ℕ)) → Type 0
Decouples s owners intervals =
    (t : ℕ → ℕ) (b : Bound) → AreInside intervals t → IsCrossBound s owners b → Meets t b

-- some choice inside the intervals breaks a cross bound
abbrev pub AllowsBroken : Setting → List ℕ → List (Option (ℕ × ℕ)) → Type 0
AllowsBroken s owners intervals =
    (t : ℕ → ℕ) × AreInside intervals t × ((b : Bound) × IsCrossBound s owners b × ¬ Meets t b)

-- No interval can be widened by one tick at either end, the others as they are: that would leave 0 to the horizon, or allow a broken
-- cross bound.
pub record IsWide (s : Setting) (owners : List ℕ) (intervals : List (Option (ℕ × ℕ))) : Type 0 where
  pub down :
      (e : ℕ) (interval : ℕ × ℕ) → slice_index_or intervals e None ≡ Some interval
      → (interval.0 ≡ 0)
      ⊎ AllowsBroken s owners (slice_set intervals e (Some (interval.0 - 1, interval.1)))
  pub up :
      (e : ℕ) (interval : ℕ × ℕ) → slice_index_or intervals e None ≡ Some interval
      → (interval.1 ≡ s.horizon)
      ⊎ AllowsBroken s owners (slice_set intervals e (Some (interval.0, interval.1 + 1)))

-- each agent's part has a schedule
abbrev pub HasPartSchedules : Setting → List ℕ → List (Option (ℕ × ℕ)) → Type 0
HasPartSchedules s owners intervals =
    (agent : ℕ) → HasSchedule (part_setting s owners intervals agent)
