-- What the sides of an event are.
use Rattle.std.specs.Prelude.{◌≡◌, ℕ, Bool, false, List, [], ◌∷◌, map, Option, Some, None, MatchOption}
use Rattle.std.specs.List.{All}
use Rattle.tp_task.specs.declared.task.Task.{Task}
use Rattle.tp_task.specs.declared.events.GroundEvent.{GroundEvent}
use Rattle.tp_task.specs.Event.{has}
use Rattle.tp_happen.specs.declared.meetings.Meeting.{Meeting}
use Rattle.tp_happen.specs.declared.meetings.Meeting.TheVariants.{ChangedAndAsked, AddedAndDeleted, WrittenAndRead, SetAndWritten}
use Rattle.tp_happen.specs.Meetings.{done, met, meet}
use Rattle.tp_happen.specs.Sets.{has_number}
use Rattle.tp_search.specs.Possible.{only_event}
use Rattle.tp_search.specs.declared.sides.Side.{Side}

-- the ways in which two events meet
abbrev pub all_ways : List Meeting
all_ways = ChangedAndAsked ∷ AddedAndDeleted ∷ WrittenAndRead ∷ SetAndWritten ∷ []

-- the sets hold to what the event does what the first and the other of two events do that meet in that way
pub record IsSide (e : GroundEvent) (s : Side) : Type 0 where
  pub done : (n : ℕ) → has_number s.done n ≡ has (done s.way e) n
  pub met : (n : ℕ) → has_number s.met n ≡ has (met s.way e) n

abbrev pub ways_of : List Side → List Meeting
ways_of sides = map (λ (s : Side). s.way) sides

-- one side of the event for each way
pub record AreSides (e : GroundEvent) (sides : List Side) : Type 0 where
  pub ways : ways_of sides ≡ all_ways
  pub each : All (IsSide e) sides

-- the sides of the event that an action is; of another action there is none
abbrev pub AreSidesOf : Task → ℕ → List Side → Type 0
AreSidesOf t a sides = MatchOption (only_event t a) (sides ≡ []) (λ e. AreSides e sides)

-- whether an event meets another one in that way, if there is another
abbrev pub meet_with : Meeting → GroundEvent → Option GroundEvent → Bool
meet_with way e (Some other) = meet way e other
meet_with way e None = false
