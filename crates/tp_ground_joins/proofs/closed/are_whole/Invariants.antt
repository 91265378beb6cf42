use Rattle.std.proofs.Common.{◌≡◌, map, take}
use Rattle.tp_task.specs.Rounds.{set_of}
use Rattle.tp_ground_joins.specs.Closed.{is_whole_by}
use Rattle.tp_ground_joins.proofs.closed.are_whole.Given as goal

abbrev pub invariant-loop-body : goal.invariant-loop-body
invariant-loop-body l = l.marks.items ≡ map (is_whole_by (set_of l.reach)) (take l.body-index l.bodies)
