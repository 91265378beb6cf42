-- A setting that is split among agents.
use Rattle.std.specs.Prelude.{◌≡◌, ℕ, List, length, Option, None}
use Rattle.tp_bounds.specs.Setting.{Setting, event_count, fixed_at}
use Rattle.tp_bounds.specs.Certificates.{moments_of}
use Rattle.tp_exec_machine.specs.Step.{IsLeastSchedule}
use Rattle.tp_agents.specs.Owners.{AreOwners}
use Rattle.tp_agents.specs.Crosses.{crosses_of}
use Rattle.tp_agents.specs.Intervals.{AreIntervals}

-- now is 0, nothing is dispatched and no bound is asked for
pub record IsUnbegun (s : Setting) : Type 0 where
  pub start : s.clock ≡ 0
  pub no_past : (e : ℕ) → fixed_at s e ≡ None
  pub asks_nothing : s.proposed ≡ None

-- the moments, one for each event, are the least schedule that remains
pub record AreLeast (s : Setting) (least : List ℕ) : Type 0 where
  pub count : length least ≡ event_count s
  pub schedule : IsLeastSchedule s (moments_of least)

-- a setting in which nothing has happened, the agents of its events, its least schedule, and the intervals of its events
pub record IsSplit (s : Setting) (owners least : List ℕ) (intervals : List (Option (ℕ × ℕ))) : Type 0 where
  pub unbegun : IsUnbegun s
  pub owned : AreOwners (event_count s) owners
  pub solved : AreLeast s least
  pub decoupled : AreIntervals s.horizon (crosses_of s owners) least intervals
