use Rattle.std.proofs.Common.{◌≡◌, map, take}
use Rattle.tp_task.specs.Rounds.{set_of}
use Rattle.tp_ground.specs.Instances.{has_met}
use Rattle.tp_ground.proofs.reached.are_met.Given as goal

abbrev pub invariant-loop-body : goal.invariant-loop-body
invariant-loop-body l = l.flags.items ≡ map (has_met (set_of l.reach)) (take l.body-index l.bodies)
