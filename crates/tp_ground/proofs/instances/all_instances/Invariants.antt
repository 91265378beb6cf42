use Rattle.std.proofs.Common.{◌≡◌, map, take}
use Rattle.std.specs.List.{flat_map}
use Rattle.tp_ground_bindings.specs.Views.{universe_view}
use Rattle.tp_ground.specs.Instances.{instance_view}
use Rattle.tp_ground.proofs.OnInstances.{instances_of}
use Rattle.tp_ground.proofs.instances.all_instances.Given as goal

abbrev pub invariant-loop-action : goal.invariant-loop-action
invariant-loop-action l = map instance_view l.all.items ≡ flat_map (instances_of (universe_view l.universe)) (take l.action-index l.actions)
