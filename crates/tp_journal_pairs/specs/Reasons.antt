-- Which commands can be answered Conflict.
use Rattle.std.specs.Prelude.{◌≡◌, ℕ, ◌+◌, ◌<◌, ◌≤◌, Bool, true, false, List, length, Option, Some, None, slice_index_or, slice_set}
use Rattle.tp_bounds.specs.declared.Point.{Point}
use Rattle.tp_net.specs.Arcs.{number_of}
use Rattle.tp_bounds.specs.declared.Point.TheVariants.{Origin, Event}
use Rattle.tp_exec_machine.specs.declared.command.Command.{Command}
use Rattle.tp_exec_machine.specs.declared.command.Command.TheVariants.{Advance, Add, Withdraw, Window, Dispatch, Happened, Report}

-- whether it brings an edge
abbrev pub may_conflict : Command → Bool
may_conflict (Advance to) = true
may_conflict (Add b) = true
may_conflict (Withdraw id) = false
may_conflict (Window k) = false
may_conflict (Dispatch k) = true
may_conflict (Happened k moment) = true
may_conflict Report = false

-- a point without a place is not marked; another is, and it is told whether it was
abbrev pub Marks : List Bool → List Bool → Point → Option Bool → Type 0
Marks old new point None = (length old ≤ number_of point) × (new ≡ old)
Marks old new point (Some was) =
    (number_of point < length old) × (was ≡ slice_index_or old (number_of point) false)
    × (new ≡ slice_set old (number_of point) true)
