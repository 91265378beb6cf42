use Rattle.std.proofs.Common.{refl}
use Rattle.tp_ground_bodies.proofs.OnConditions.{all_lowered, all_failed}
use Rattle.tp_ground_bodies.proofs.OnBodies.{list_lowered}
use Rattle.tp_ground_bodies.proofs.bodies.condition_at.Goals as goal

pub returns-in_err-joined : goal.returns-in_err-joined
returns-in_err-joined c = all_failed _ _ _ _ _ _ c.from_residual.ensures.1 c.in_err-joined.ensures refl

pub returns : goal.returns
returns c = all_lowered _ _ _ _ _ refl (list_lowered _ _ _ _ c.in_ok-joined.ensures)
