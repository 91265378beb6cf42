use Rattle.std.proofs.Common.{subst}
use Rattle.tp_syntax_ast.specs.CondViews.{cond_view}
use Rattle.tp_ground_bindings.specs.Bindings.{Env}
use Rattle.tp_ground_bodies.specs.Lowered.{Lowers}
use Rattle.tp_ground_bodies.specs.Mentions.{of_condition}
use Rattle.tp_ground_bodies.specs.ReadBack.{named_condition}
use Rattle.tp_ground_bindings.specs.Views.{universe_view}
use Rattle.tp_ground_bodies.specs.Written.{condition_in}
use Rattle.tp_ground_bindings.proofs.OnEnvironments.{empty_env}
use Rattle.tp_ground_bodies.proofs.conditions.closed_condition.Goals as goal

pub returns : goal.returns
returns c =
    let u = universe_view c.args.universe.now in
    let x = cond_view c.args.cond.now in
    subst (λ (env : Env). Lowers named_condition c.args.numbering.now c.condition.result c.condition.new.numbering (condition_in u env x) (of_condition (condition_in u env x))) empty_env c.condition.ensures
