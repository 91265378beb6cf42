use Rattle.std.proofs.Common.{refl, ap}
use Rattle.tp_task.specs.Words.{Words}
use Rattle.tp_ground_bodies.specs.Written.{GroundExpression, GroundWrite, change_of}
use Rattle.tp_ground_bodies.specs.Mentions.{◌then◌, of_expression, a_fluent}
use Rattle.tp_ground_bodies.specs.ReadBack.{named_expression, named_write}
use Rattle.tp_ground_bodies.proofs.OnLowered.{fluent_named, first_failed, both_lowered}
use Rattle.tp_ground_bodies.proofs.effects.write.Goals as goal

pub returns-in_err-fluent : goal.returns-in_err-fluent
returns-in_err-fluent c =
    let g : Words → GroundExpression → GroundWrite = λ w v. record { change = change_of c.args.writing; fluent = w; value = v } in
    first_failed named_write fluent_named named_expression (λ (w : GroundWrite). a_fluent w.fluent then of_expression w.value) a_fluent of_expression g (λ p q. refl) _ _ _ refl _ _ _ _ c.from_residual.ensures.1 c.in_err-fluent.ensures

pub returns : goal.returns
returns c =
    let g : Words → GroundExpression → GroundWrite = λ w v. record { change = change_of c.args.writing; fluent = w; value = v } in
    both_lowered named_write fluent_named named_expression (λ (w : GroundWrite). a_fluent w.fluent then of_expression w.value) a_fluent of_expression g (λ p q. refl) _ _ _ refl _ _ _ _ _ _ (λ t. ap (λ h. record { change = h; fluent = fluent_named t c.in_ok-fluent.fluent; value = named_expression t c.in_ok-value.value }) c.change_of.ensures) c.in_ok-fluent.ensures c.in_ok-value.ensures
