-- Plans as lists of steps.
use Rattle.std.specs.Prelude.{◌≡◌, ◌+◌, ◌≤◌, Bool, true, nat_le, List, length}
use Rattle.std.specs.List.{list_all}
use Rattle.tp_plan_text.specs.declared.plans.Step.{Step}

-- a step ends by tick 10^9
abbrev pub ends_in_time : Step → Bool
ends_in_time s = nat_le (s.tick + s.duration) 1000000000

-- A plan has at most 512 steps, and none ends past tick 10^9.
pub record IsPlan (steps : List Step) : Type 0 where
  pub few : length steps ≤ 512
  pub ends : list_all ends_in_time steps ≡ true
