-- The events of an action.
use Rattle.std.specs.Prelude.{Option, Some, None}
use Rattle.tp_task.specs.declared.events.GroundEvent.{GroundEvent}
use Rattle.tp_task.specs.declared.events.Body.{Body}
use Rattle.tp_task.specs.declared.events.Body.TheVariants.{Instant, Durative}
use Rattle.tp_happen.specs.declared.events.Part.{Part}
use Rattle.tp_happen.specs.declared.events.Part.TheVariants.{Start, End, Only}

-- that event of an action, if it has one: a durative one has a start and an end, another a single event
abbrev pub part_of : Body → Part → Option GroundEvent
part_of (Instant e) Start = None
part_of (Instant e) End = None
part_of (Instant e) Only = Some e
part_of (Durative start end invariant) Start = Some start
part_of (Durative start end invariant) End = Some end
part_of (Durative start end invariant) Only = None
