use Rattle.std.proofs.Common.{◌≡◌, false, take}
use Rattle.tp_task.specs.declared.events.GroundEvent.{GroundEvent}
use Rattle.std.specs.List.{All}
use Rattle.tp_search.specs.Possible.{only_event}
use Rattle.tp_search.specs.Sides.{IsSide}
use Rattle.tp_search.proofs.OnSides.{meets_by}
use Rattle.tp_search.proofs.sides.sides_meet.Given as goal

abbrev pub invariant-loop-side : goal.invariant-loop-side
invariant-loop-side l = (e : GroundEvent) → All (IsSide e) l.sides → meets_by e (only_event l.task l.other) (take l.side-index l.sides) ≡ false
