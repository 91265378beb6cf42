use Rattle.std.proofs.Common.{map, take}
use Rattle.tp_ground_bindings.specs.Views.{universe_view}
use Rattle.tp_ground_bodies.specs.Mentions.{of_each}
use Rattle.tp_ground.specs.Reached.{action_of, of_instance}
use Rattle.tp_ground.specs.Instances.{instance_view}
use Rattle.tp_ground_bodies.specs.ReadBack.{named_body}
use Rattle.tp_ground_bodies.specs.Lowered.{IsLowered}
use Rattle.tp_ground.proofs.OnActions.{every}
use Rattle.tp_ground.proofs.instances.lower_instances.Given as goal

abbrev pub invariant-loop-instance : goal.invariant-loop-instance
invariant-loop-instance l = IsLowered (every named_body) l.fn.numbering l.numbering l.lowered (map (λ x. (action_of (universe_view l.universe) (instance_view x)).body) (take l.instance-index l.some)) (of_each (λ x. of_instance (universe_view l.universe) (instance_view x)) (take l.instance-index l.some))
