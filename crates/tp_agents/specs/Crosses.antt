-- Bounds that join the events of two agents.
use Rattle.std.specs.Prelude.{ℕ, Bool, ◌||◌, nat_eq, if◌then◌else◌, List, Option, Some, None, ℤ}
use Rattle.std.specs.List.{filter_map, list_any}
use Rattle.std.specs.FinMap.{values}
use Rattle.tp_bounds.specs.declared.Point.{Point}
use Rattle.tp_bounds.specs.declared.Point.TheVariants.{Origin, Event}
use Rattle.tp_bounds.specs.declared.Bound.{Bound}
use Rattle.tp_bounds.specs.Setting.{Setting}
use Rattle.tp_agents.specs.declared.crosses.CrossBound.{CrossBound}
use Rattle.tp_agents.specs.Owners.{owner_of}

abbrev pub cross_between : List ℕ → Point → Point → ℤ → Option CrossBound
cross_between owners Origin to w = None
cross_between owners (Event d) Origin w = None
cross_between owners (Event d) (Event e) w =
    if nat_eq (owner_of owners d) (owner_of owners e) then None
    else Some (record { from = d; to = e; w = w })

-- the bound, where it joins events of two agents
abbrev pub cross_of : List ℕ → Bound → Option CrossBound
cross_of owners b = cross_between owners b.from b.to b.w

-- the bounds in force that do, by rising identifier
abbrev pub crosses_of : Setting → List ℕ → List CrossBound
crosses_of s owners = filter_map (cross_of owners) (values s.bounds)

-- the event is at one end of the bound
abbrev pub touches : ℕ → CrossBound → Bool
touches e b = nat_eq b.from e || nat_eq b.to e

-- An event of a cross bound is an interface event.
abbrev pub is_interface : List CrossBound → ℕ → Bool
is_interface crosses e = list_any (touches e) crosses
