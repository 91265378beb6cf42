use Rattle.std.proofs.Common.{refl}
use Rattle.tp_syntax_ast.specs.declared.action.Body.TheVariants as bodies
use Rattle.tp_ground_bindings.specs.Views.{env_view, universe_view}
use Rattle.tp_ground_bodies.proofs.OnBodies.{ends_stopped, between_stopped, whole_lowered}
use Rattle.tp_ground_bodies.proofs.bodies.durative.Goals as goal

pub returns-in_err-ends : goal.returns-in_err-ends
returns-in_err-ends c = ends_stopped (universe_view c.args.universe.now) (env_view c.args.env.now) (bodies.Durative c.args.duration.now c.args.condition.now c.args.effect.now) c.args.duration.now c.args.condition.now c.args.effect.now refl _ _ _ _ c.from_residual.ensures.1 c.in_err-ends.ensures

pub returns-in_err-between : goal.returns-in_err-between
returns-in_err-between c = between_stopped (universe_view c.args.universe.now) (env_view c.args.env.now) (bodies.Durative c.args.duration.now c.args.condition.now c.args.effect.now) c.args.duration.now c.args.condition.now c.args.effect.now refl _ _ _ _ _ c.from_residual-in_err-between.ensures.1 c.in_ok-ends.ensures.notes c.in_err-between.ensures

pub returns : goal.returns
returns c = whole_lowered (universe_view c.args.universe.now) (env_view c.args.env.now) (bodies.Durative c.args.duration.now c.args.condition.now c.args.effect.now) c.args.duration.now c.args.condition.now c.args.effect.now refl _ _ _ _ _ c.in_ok-ends.ensures c.in_ok-between.ensures
