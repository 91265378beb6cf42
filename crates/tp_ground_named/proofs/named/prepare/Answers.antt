use Rattle.tp_ground_bodies.proofs.OnLowered.{more_named}
use Rattle.tp_ground_named.proofs.named.prepare.Goals as goal

pub returns-clause-lowered : goal.returns-clause-lowered
returns-clause-lowered c = more_named c.args.numbering.now c.lower_instances.new.numbering c.name_instances.new.numbering _ _ _ c.name_instances.ensures.atoms c.name_instances.ensures.fluents c.name_instances.ensures.most c.in_ok-bodies.ensures
