use Rattle.tp_ground_bodies.proofs.OnGathered.{made_whole}
use Rattle.tp_ground_bodies.proofs.parts.joined.Goals as goal

pub returns : goal.returns
returns g c = made_whole g.P.Lowerable.shows _ _ _ _ _ _ c.begun-gathered.ensures c.in_ok-push_part.ensures
