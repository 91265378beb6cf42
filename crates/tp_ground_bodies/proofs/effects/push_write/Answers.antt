use Rattle.tp_ground_bodies.specs.ReadBack.{named_write}
use Rattle.tp_ground_bodies.proofs.OnGathered.{one_gathered}
use Rattle.tp_ground_bodies.proofs.effects.push_write.Goals as goal

pub returns : goal.returns
returns c = one_gathered named_write _ _ _ _ _ _ _ c.in_ok-push.ensures.items c.in_ok-write.ensures
