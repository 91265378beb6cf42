use Rattle.std.proofs.Common.{◌≡◌, map, take}
use Rattle.std.specs.List.{flat_map}
use Rattle.tp_ground_bindings.specs.Views.{universe_view}
use Rattle.tp_ground.specs.Instances.{instance_view}
use Rattle.tp_ground_named.specs.Picks.{row_words}
use Rattle.tp_ground_named.proofs.OnChosen.{chosen_for}
use Rattle.tp_ground_named.proofs.instances.named_instances.Given as goal

abbrev pub invariant-loop-action : goal.invariant-loop-action
invariant-loop-action l = map instance_view l.named.items ≡ flat_map (chosen_for (universe_view l.universe) (map row_words l.rows.items)) (take l.action-index l.actions)
