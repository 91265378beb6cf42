use Rattle.std.proofs.Common.{map}
use Rattle.tp_ground_bindings.specs.Views.{universe_view}
use Rattle.tp_ground.specs.Instances.{instance_view}
use Rattle.tp_ground_joins.proofs.OnClosed.{are_numbered}
use Rattle.tp_ground_joins.proofs.numbered.number_all.Goals as goal

pub returns : goal.returns
returns c =
    are_numbered (universe_view c.args.universe.now) c.args.initial.now (map instance_view c.args.some.now) c.args.numbering.now c.entries.new.numbering c.lower_instances.new.numbering c.in_ok-entries.entries c.in_ok-bodies.bodies _ _ c.requires c.in_ok-entries.ensures c.in_ok-bodies.ensures
