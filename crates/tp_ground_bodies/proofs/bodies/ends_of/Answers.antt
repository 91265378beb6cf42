use Rattle.std.proofs.Common.{refl}
use Rattle.tp_syntax_ast.specs.ConstraintViews.{constraint_view}
use Rattle.tp_syntax_ast.specs.EffectViews.{timed_condition_view, timed_effect_view}
use Rattle.tp_ground_bindings.specs.Views.{env_view, universe_view}
use Rattle.tp_ground_bodies.specs.Mentions.{of_start, of_end}
use Rattle.tp_ground_bodies.proofs.OnBodies.{start_stopped, end_stopped, ends_lowered}
use Rattle.tp_ground_bodies.proofs.bodies.ends_of.Goals as goal

pub returns-in_err-first : goal.returns-in_err-first
returns-in_err-first c =
    let u = universe_view c.args.universe.now in
    let env = env_view c.args.env.now in
    start_stopped _ c.args.numbering.now _ _ _ (of_start u env (constraint_view c.args.duration.now) (timed_condition_view c.args.condition.now) (timed_effect_view c.args.effect.now)) (of_end u env (timed_condition_view c.args.condition.now) (timed_effect_view c.args.effect.now)) _ _ c.from_residual.ensures.1 c.in_err-first.ensures

pub returns-in_err-last : goal.returns-in_err-last
returns-in_err-last c =
    let u = universe_view c.args.universe.now in
    let env = env_view c.args.env.now in
    end_stopped _ _ _ _ _ (of_start u env (constraint_view c.args.duration.now) (timed_condition_view c.args.condition.now) (timed_effect_view c.args.effect.now)) (of_end u env (timed_condition_view c.args.condition.now) (timed_effect_view c.args.effect.now)) _ _ c.from_residual-in_err-last.ensures.1 c.in_ok-first.ensures.notes c.in_err-last.ensures

pub returns : goal.returns
returns c = ends_lowered _ _ _ _ _ _ _ _ _ _ refl c.in_ok-first.ensures c.in_ok-last.ensures
