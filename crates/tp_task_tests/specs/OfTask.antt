-- Events of a task.
use Rattle.std.specs.Prelude.{Bool, length}
use Rattle.tp_task.specs.declared.task.Task.{Task}
use Rattle.tp_task.specs.Fits.{event_fits}
use Rattle.tp_task.specs.declared.events.GroundEvent.{GroundEvent}

-- what the event changes is the task's
abbrev pub has_event : Task → GroundEvent → Bool
has_event t e = event_fits (length t.initial_atoms.items) (length t.initial_numbers.items) e
