use Rattle.std.proofs.Common.{List, Bor, map, subst}
use Rattle.tp_syntax_ast.specs.Symbols.{Name}
use Rattle.tp_syntax_ast.specs.DomainViews.{action_view}
use Rattle.tp_ground_bindings.specs.Bindings.{bound}
use Rattle.tp_ground_bindings.specs.Views.{universe_view}
use Rattle.tp_ground_bodies.specs.Written.{body_in}
use Rattle.tp_ground_bodies.specs.Mentions.{of_body}
use Rattle.tp_ground_bodies.specs.ReadBack.{named_body}
use Rattle.tp_ground_bodies.specs.Lowered.{Lowers}
use Rattle.tp_ground.proofs.instances.lower_one.Goals as goal

pub returns : goal.returns
returns c =
    let u = universe_view c.args.universe.now in
    let a = action_view c.args.instance.now.action.now in
    subst (λ (os : List (Bor Name)). Lowers named_body c.args.numbering.now c.lower_under.result c.lower_under.new.numbering (body_in u (bound a.parameters (map (λ o. o.now) os)) a.body) (of_body u (bound a.parameters (map (λ o. o.now) os)) a.body))
    c.deref.ensures.value c.lower_under.ensures
