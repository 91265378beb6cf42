use Rattle.std.proofs.Common.{List, map, refl, subst}
use Rattle.tp_syntax_ast.specs.Symbols.{typed_view}
use Rattle.tp_syntax_ast.specs.DomainViews.{action_view}
use Rattle.tp_syntax_ast.specs.declared.symbols.Typed.{Typed}
use Rattle.tp_ground_bindings.specs.Bindings.{Env, bound}
use Rattle.tp_ground_bindings.specs.Views.{universe_view}
use Rattle.tp_ground_bodies.specs.Written.{body_in}
use Rattle.tp_ground_bodies.specs.Mentions.{of_body}
use Rattle.tp_ground_bodies.specs.ReadBack.{named_body}
use Rattle.tp_ground_bodies.specs.Lowered.{Lowers}
use Rattle.tp_ground.proofs.OnActions.{plain_env}
use Rattle.tp_ground.proofs.grounding.lower_under.Goals as goal

pub returns : goal.returns
returns c =
    let u = universe_view c.args.universe.now in
    let x = (action_view c.args.action.now).body in
    let names = map (λ o. o.now) c.args.objects.now in
    let P = λ (e : Env). Lowers named_body c.args.numbering.now c.body.result c.body.new.numbering (body_in u e x) (of_body u e x) in
    subst (λ (vs : List Typed). P (bound (map typed_view vs) names)) c.as_slice.ensures
    (subst P (plain_env _ _ _ names refl refl) c.body.ensures)
