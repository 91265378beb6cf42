use Rattle.std.proofs.Common.{◌≡◌, Bool, map, filter, take}
use Rattle.tp_ground.specs.Reached.{Instance}
use Rattle.tp_ground.specs.Instances.{instance_view}
use Rattle.tp_ground.proofs.instances.flagged.Given as goal

abbrev pub invariant-loop-place : goal.invariant-loop-place
invariant-loop-place l = (test : Instance → Bool) → l.flags ≡ map test (map instance_view l.all) → map instance_view l.kept.items ≡ filter test (map instance_view (take l.place l.all))
