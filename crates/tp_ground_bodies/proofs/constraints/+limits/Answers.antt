use Rattle.std.proofs.Common.{[], refl, ap}
use Rattle.tp_syntax_ast.specs.ConstraintViews.{constraint_view}
use Rattle.tp_syntax_ast.specs.declared.constraint.DurationRule.{DurationRule}
use Rattle.tp_ground_bindings.specs.Views.{env_view}
use Rattle.tp_ground_bodies.specs.Written.{GroundExpression, comparison_of, limits_in}
use Rattle.tp_ground_bodies.specs.Mentions.{of_limit, of_each}
use Rattle.tp_ground_bodies.specs.ReadBack.{named_limit, named_expression}
use Rattle.tp_ground_bindings.proofs.Along.{next}
use Rattle.tp_ground_bodies.proofs.Stopped.{flat_stopped}
use Rattle.tp_ground_bodies.proofs.OnPartLists.{limits_of, limit_of}
use Rattle.tp_ground_bodies.proofs.OnLowered.{all_named, lowered_as, as_written, written_as, all_none, all_append, all_push}
use Rattle.tp_ground_bodies.proofs.constraints.+limits.Goals as goal

pub all_limits-returns-in_err-more : goal.all_limits-returns-in_err-more
all_limits-returns-in_err-more t c =
    let f = λ (r : DurationRule). limits_in (env_view c.args.env.now) (constraint_view r) in
    flat_stopped named_limit of_limit c.args.constraints.now c.loop-constraint.constraint-index c.constraint-item.result c.loop-constraint-test.true c.constraint-item.is _ _ _ _ _ _ _ c.from_residual.ensures.1 f refl c.loop-constraint.invariant c.in_err-more.ensures

pub all_limits-loop-constraint-preserved : goal.all_limits-loop-constraint-preserved
all_limits-loop-constraint-preserved t c =
    let f = λ (r : DurationRule). limits_in (env_view c.args.env.now) (constraint_view r) in
    all_append named_limit of_limit _ _ _ _ _ _ _ (f c.constraint-item.result) _ c.in_ok-append.ensures.items (next f c.args.constraints.now c.loop-constraint.constraint-index c.constraint-item.result c.loop-constraint-test.true c.constraint-item.is) c.loop-constraint.invariant c.in_ok-more.ensures

pub limits-returns-in-And : goal.limits-returns-in-And
limits-returns-in-And t c = written_as (all_named named_limit of_limit) (of_each of_limit) _ _ _ _ _ (limits_of (env_view c.args.env.now) c.args.constraint.now c.in-And.constraints c.deref.result.now c.in-And.is c.deref.ensures.value) c.all_limits.ensures

pub limits-returns-in_ok-push-in-Limit : goal.limits-returns-in_ok-push-in-Limit
limits-returns-in_ok-push-in-Limit t c =
    let how = comparison_of c.in-Limit.comparison in
    as_written (of_each of_limit) _ _ (limit_of (env_view c.args.env.now) c.args.constraint.now c.in-Limit.comparison c.in-Limit.value c.in-Limit.is)
    (all_push named_limit of_limit _ _ _ c.in_ok-one-in-Limit.one _ _ [] _ _ c.in_ok-push-in-Limit.ensures.items refl (all_none named_limit of_limit _ c.in_ok-one-in-Limit.one c.in_ok-one-in-Limit.ensures.items)
    (lowered_as (λ (v : GroundExpression). record { how = how; value = v }) _ (λ u. ap (λ h. record { how = h; value = named_expression u c.in_ok-value-in-Limit.value }) c.comparison_of.ensures) c.in_ok-value-in-Limit.ensures))
