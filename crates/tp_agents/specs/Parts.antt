-- What each agent gets: its own events, the bounds among them, and the intervals of those at the interface.
use Rattle.std.specs.Prelude.{◌≡◌, ℕ, suc, ◌<◌, nat_eq, if◌then◌else◌, List, [], ◌∷◌, ◌++◌, length, map, slice_index_or, Option, Some, None, ℤ, codes, decimal, string_bytes}
use Rattle.std.specs.List.{filter_map}
use Rattle.std.specs.FinMap.{values}
use Rattle.tp_bounds.specs.declared.Point.{Point}
use Rattle.tp_bounds.specs.declared.Point.TheVariants.{Origin, Event}
use Rattle.tp_bounds.specs.declared.Bound.{Bound}
use Rattle.tp_bounds.specs.declared.plan_nets.PlanNet.{PlanNet}
use Rattle.tp_bounds.specs.Setting.{Setting}
use Rattle.tp_bounds.specs.Reasons.{at_most, at_least}
use Rattle.tp_bounds.specs.OwnBounds.{setting_of}
use Rattle.tp_bounds.specs.Certificates.{IsListedSchedule}
use Rattle.tp_agents.specs.declared.fault.PartFault.{PartFault}
use Rattle.tp_agents.specs.declared.fault.PartFault.TheVariants.{Memory, TooMany}
use Rattle.tp_agents.specs.Owners.{owner_of, place_of, events_of}

-- 'event E', with the number that the event has in the whole
abbrev pub event_line : ℕ → List ℕ
event_line e = codes "event " ++ decimal e

-- a point as the agent numbers it, if it is the origin or one of the agent's events
abbrev pub own_point : List ℕ → ℕ → Point → Option Point
own_point owners agent Origin = Some Origin
own_point owners agent (Event e) =
    if nat_eq (owner_of owners e) agent then Some (Event (place_of owners e)) else None

abbrev pub bound_between : Option Point → Option Point → ℤ → Option Bound
bound_between None to w = None
bound_between (Some from) None w = None
bound_between (Some from) (Some to) w = Some (record { from = from; to = to; w = w })

-- an inner bound of the agent, as it numbers its events: both points are the origin or its own
abbrev pub inner_of : List ℕ → ℕ → Bound → Option Bound
inner_of owners agent b = bound_between (own_point owners agent b.from) (own_point owners agent b.to) b.w

-- those in force, by rising identifier
abbrev pub inner_bounds : Setting → List ℕ → ℕ → List Bound
inner_bounds s owners agent = filter_map (inner_of owners agent) (values s.bounds)

-- the event is in the interval, if it has one
abbrev pub keeps_interval : ℕ → Option (ℕ × ℕ) → List Bound
keeps_interval e None = []
keeps_interval e (Some interval) = at_least e interval.0 ∷ at_most e interval.1 ∷ []

-- the same for events of the whole that an agent numbers from `place` on
abbrev pub keeps_intervals : List (Option (ℕ × ℕ)) → ℕ → List ℕ → List Bound
keeps_intervals intervals place [] = []
keeps_intervals intervals place (e ∷ es) =
    keeps_interval place (slice_index_or intervals e None)
    ++ keeps_intervals intervals (suc place) es

-- the bounds of an agent's part
abbrev pub part_bounds : Setting → List ℕ → List (Option (ℕ × ℕ)) → ℕ → List Bound
part_bounds s owners intervals agent =
    inner_bounds s owners agent ++ keeps_intervals intervals 0 (events_of owners agent)

-- the part as a setting in which nothing has happened
abbrev pub part_setting : Setting → List ℕ → List (Option (ℕ × ℕ)) → ℕ → Setting
part_setting s owners intervals agent =
    setting_of (length (events_of owners agent)) s.horizon (part_bounds s owners intervals agent)

-- the network of an agent's part
pub record IsPart (s : Setting) (owners : List ℕ) (intervals : List (Option (ℕ × ℕ))) (agent : ℕ) (part : PlanNet) : Type 0 where
  pub horizon : part.horizon ≡ s.horizon
  pub events : map string_bytes part.events.items ≡ map event_line (events_of owners agent)
  pub bounds : part.bounds.items ≡ part_bounds s owners intervals agent

-- why an agent gets no network: its part has more bounds than can be in force. Out of memory says nothing.
abbrev pub HasNoNet : Setting → List ℕ → List (Option (ℕ × ℕ)) → ℕ → PartFault → Type 0
HasNoNet s owners intervals agent Memory = Unit {0}
HasNoNet s owners intervals agent TooMany = 65_535 < length (part_bounds s owners intervals agent)

-- moments of an agent's events that keep its inner bounds and its intervals
abbrev pub IsPartSchedule : Setting → List ℕ → List (Option (ℕ × ℕ)) → ℕ → List ℕ → Type 0
IsPartSchedule s owners intervals agent moments =
    IsListedSchedule (part_setting s owners intervals agent) moments
