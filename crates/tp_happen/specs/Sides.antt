-- What an event does in each of the ways in which two events interfere, as lists and sets hold it.
use Rattle.std.specs.Prelude.{◌≡◌, ℕ, Bool, ◌||◌}
use Rattle.std.specs.List.{list_any}
use Rattle.tp_task.specs.declared.events.GroundEvent.{GroundEvent}
use Rattle.tp_task.specs.Event.{has}
use Rattle.tp_happen.specs.declared.meetings.Meeting.{Meeting}
use Rattle.tp_happen.specs.declared.meetings.Meeting.TheVariants.{ChangedAndAsked, AddedAndDeleted, WrittenAndRead, SetAndWritten}
use Rattle.tp_happen.specs.Meetings.{done, met}
use Rattle.tp_happen.specs.Sets.{has_number}
use Rattle.tp_happen.specs.declared.sides.Side.{Side}
use Rattle.tp_happen.specs.declared.sides.Sides.{Sides}

-- the list has what the event does in that way as the first of two events, and the set what it does as the other
pub record IsSide (way : Meeting) (e : GroundEvent) (s : Side) : Type 0 where
  pub done : s.done.items ≡ done way e
  pub met : (x : ℕ) → has_number s.met x ≡ has (met way e) x

-- the same in each way
pub record AreSides (e : GroundEvent) (s : Sides) : Type 0 where
  pub changed : IsSide ChangedAndAsked e s.changed
  pub added : IsSide AddedAndDeleted e s.added
  pub written : IsSide WrittenAndRead e s.written
  pub set : IsSide SetAndWritten e s.set

-- something in the list of one is in the set of the other
abbrev pub meets_by : Side → Side → Bool
meets_by a b = list_any (has_number b.met) a.done.items

abbrev pub disturbs_by : Sides → Sides → Bool
disturbs_by a b =
    meets_by a.changed b.changed
    || (meets_by a.added b.added || (meets_by a.written b.written || meets_by a.set b.set))
