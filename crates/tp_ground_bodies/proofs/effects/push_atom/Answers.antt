use Rattle.tp_ground_bodies.proofs.OnLowered.{atom_named}
use Rattle.tp_ground_bodies.proofs.OnGathered.{one_gathered}
use Rattle.tp_ground_bodies.proofs.effects.push_atom.Goals as goal

pub returns : goal.returns
returns c = one_gathered atom_named _ _ _ _ _ _ _ c.in_ok-push.ensures.items c.in_ok-number.ensures
