use Rattle.std.proofs.Common.{ap, sym, ◌∙◌, unwrap_or}
use Rattle.tp_ground_bindings.proofs.OnEnvironments.{in_env}
use Rattle.tp_ground_bindings.proofs.environment.+object_under.Goals as goal

pub returns-in-Some : goal.returns-in-Some
returns-in-Some t c =
    ap (λ o. unwrap_or o c.args.name.now)
    (sym (in_env c.args.name.now c.args.env.now c.in-Inner.variables c.in-Inner.objects c.in-Inner.outer _ c.in-Inner.is c.in-Some.ensures))

pub returns-in-None : goal.returns-in-None
returns-in-None t c =
    c.object_under.ensures
    ∙ ap (λ o. unwrap_or o c.args.name.now)
    (sym (in_env c.args.name.now c.args.env.now c.in-Inner.variables c.in-Inner.objects c.in-Inner.outer _ c.in-Inner.is c.in-None.ensures))
