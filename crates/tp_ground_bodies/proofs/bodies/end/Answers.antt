use Rattle.tp_syntax_ast.specs.EffectViews.{timed_condition_view, timed_effect_view}
use Rattle.tp_syntax_ast.specs.declared.words.TimeSpecifier.TheVariants.{AtEnd}
use Rattle.tp_ground_bindings.specs.Views.{env_view, universe_view}
use Rattle.tp_ground_bodies.specs.Written.{condition_at, simple_effects_at}
use Rattle.tp_ground_bodies.specs.Mentions.{of_condition, of_simple_effect, of_each}
use Rattle.tp_ground_bodies.specs.ReadBack.{named_event}
use Rattle.tp_ground_bodies.proofs.OnLowered.{failed, overflows_first, overflows_then}
use Rattle.tp_ground_bodies.proofs.OnBodies.{plain_lowered}
use Rattle.tp_ground_bodies.proofs.bodies.end.Goals as goal

pub returns-in_err-condition : goal.returns-in_err-condition
returns-in_err-condition c =
    let u = universe_view c.args.universe.now in
    let env = env_view c.args.env.now in
    failed named_event _ _ _ _ _ _ c.from_residual.ensures.1 (overflows_first c.args.numbering.now (of_condition (condition_at u AtEnd env (timed_condition_view c.args.condition.now))) (of_each of_simple_effect (simple_effects_at u AtEnd env (timed_effect_view c.args.effect.now))) _ c.in_err-condition.ensures)

pub returns-in_err-changes : goal.returns-in_err-changes
returns-in_err-changes c =
    let u = universe_view c.args.universe.now in
    let env = env_view c.args.env.now in
    failed named_event _ _ _ _ _ _ c.from_residual-in_err-changes.ensures.1 (overflows_then _ _ (of_condition (condition_at u AtEnd env (timed_condition_view c.args.condition.now))) (of_each of_simple_effect (simple_effects_at u AtEnd env (timed_effect_view c.args.effect.now))) _ c.in_ok-condition.ensures.notes c.in_err-changes.ensures)

pub returns : goal.returns
returns c = plain_lowered _ _ _ _ _ _ _ _ c.in_ok-condition.ensures c.in_ok-changes.ensures _ c.new.ensures.items c.event.ensures
