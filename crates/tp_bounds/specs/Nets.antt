-- What a network of a plan keeps.
use Rattle.std.specs.Prelude.{◌≡◌, ℕ, ◌<◌, ◌≤◌, List}
use Rattle.std.specs.List.{All}
use Rattle.tp_bounds.specs.declared.Point.{Point}
use Rattle.tp_bounds.specs.declared.Point.TheVariants.{Event}
use Rattle.tp_bounds.specs.declared.Bound.{Bound}
use Rattle.tp_bounds.specs.Setting.{IsInRange}
use Rattle.tp_bounds.specs.Schedule.{HasSchedule}
use Rattle.tp_bounds.specs.OwnBounds.{setting_of}

-- a point that is an event is one of so many
abbrev pub IsPointOf : ℕ → Point → Type 0
IsPointOf events p = (e : ℕ) → p ≡ Event e → e < events

-- a bound between such points, whose weight is in range
pub record SuitsNet (events : ℕ) (b : Bound) : Type 0 where
  pub from : IsPointOf events b.from
  pub to : IsPointOf events b.to
  pub weight : IsInRange b.w

-- The bounds are between so many events, their weights are in range, and they have a schedule up to the horizon.
pub record IsNet (events horizon : ℕ) (bounds : List Bound) : Type 0 where
  pub few : events ≤ 1_024
  pub in_time : horizon ≤ 1_000_000_000
  pub suit : All (SuitsNet events) bounds
  pub possible : ∥ HasSchedule (setting_of events horizon bounds) ∥₁
