use Rattle.std.proofs.Common.{refl, ap, ◌∙◌}
use Rattle.tp_ground_bodies.specs.Written.{compared, comparison_of}
use Rattle.tp_ground_bodies.specs.Mentions.{of_condition, of_expression}
use Rattle.tp_ground_bodies.specs.ReadBack.{named_condition}
use Rattle.tp_ground_bodies.proofs.OnConditions.{named_Compare}
use Rattle.tp_ground_bodies.proofs.OnExpressions.{named_box}
use Rattle.tp_ground_bodies.proofs.OnLowered.{first_failed, second_failed, both_lowered}
use Rattle.tp_ground_bodies.proofs.conditions.compared.Goals as goal

pub returns-in_err-x : goal.returns-in_err-x
returns-in_err-x c = first_failed named_condition named_box named_box of_condition of_expression of_expression (compared (comparison_of c.args.comparison)) (λ p q. refl) _ _ _ refl _ _ _ _ c.from_residual.ensures.1 c.in_err-x.ensures

pub returns-in_err-y : goal.returns-in_err-y
returns-in_err-y c = second_failed named_condition named_box named_box of_condition of_expression of_expression (compared (comparison_of c.args.comparison)) (λ p q. refl) _ _ _ refl _ _ _ _ _ _ c.from_residual-in_err-y.ensures.1 c.in_ok-x.ensures c.in_err-y.ensures

pub returns : goal.returns
returns c = both_lowered named_condition named_box named_box of_condition of_expression of_expression (compared (comparison_of c.args.comparison)) (λ p q. refl) _ _ _ refl _ _ _ _ _ _ (λ t. named_Compare t c.comparison_of.result c.in_ok-x.x c.in_ok-y.y ∙ ap (λ h. compared h (named_box t c.in_ok-x.x) (named_box t c.in_ok-y.y)) c.comparison_of.ensures) c.in_ok-x.ensures c.in_ok-y.ensures
