-- Ways in which two events interfere: something that one of them does to atoms or fluents, and something that the other does with them.
use Rattle.std.specs.Prelude.{ℕ, Bool, ◌||◌, List, ◌++◌}
use Rattle.tp_task.specs.declared.events.GroundEvent.{GroundEvent}
use Rattle.tp_happen.specs.declared.meetings.Meeting.{Meeting}
use Rattle.tp_happen.specs.declared.meetings.Meeting.TheVariants.{ChangedAndAsked, AddedAndDeleted, WrittenAndRead, SetAndWritten}
use Rattle.tp_task.specs.State.{atoms_in}
use Rattle.tp_task.specs.Event.{meets, fluents_read, fluents_written, fluents_set}

-- what one event does, and what the other
abbrev pub done : Meeting → GroundEvent → List ℕ
done ChangedAndAsked e = e.adds.items ++ e.deletes.items
done AddedAndDeleted e = e.adds.items
done WrittenAndRead e = fluents_written e
done SetAndWritten e = fluents_set e

abbrev pub met : Meeting → GroundEvent → List ℕ
met ChangedAndAsked e = atoms_in e.condition
met AddedAndDeleted e = e.deletes.items
met WrittenAndRead e = fluents_read e
met SetAndWritten e = fluents_written e

-- the events meet in that way, whichever of them does the first
abbrev pub meet : Meeting → GroundEvent → GroundEvent → Bool
meet way a b = meets (done way a) (met way b) || meets (done way b) (met way a)
