use Rattle.std.proofs.Common.{List, [], ◌∷◌, ◌++◌, map, refl, sym, ap, ◌∙◌}
use Rattle.std.proofs.lemmas.List.{map-append, take_all}
use Rattle.std.proofs.lemmas.Simd.{map-map}
use Rattle.tp_ground_bindings.specs.Views.{universe_view}
use Rattle.tp_ground_bodies.specs.Written.{GroundBody}
use Rattle.tp_ground_bodies.specs.Mentions.{of_each}
use Rattle.tp_ground_bodies.specs.ReadBack.{named_body}
use Rattle.tp_ground.specs.Reached.{action_of, of_instance}
use Rattle.tp_ground.specs.Reached as reached
use Rattle.tp_ground.specs.Instances.{instance_view}
use Rattle.tp_ground.specs.declared.instances.Instance.{Instance}
use Rattle.tp_ground_bindings.proofs.Along.{map_next}
use Rattle.tp_ground_bodies.proofs.OnLowered.{lowered_none, lowered_both, lowered_same, failed}
use Rattle.tp_ground.proofs.OnActions.{every, each_next, each_stopped}
use Rattle.tp_ground.proofs.OnInstances.{each_view}
use Rattle.tp_ground.proofs.instances.lower_instances.Goals as goal

pub loop-instance-init : goal.loop-instance-init
loop-instance-init c = lowered_none _ _ [] (λ t. ap (map (named_body t)) c.in_ok-lowered.ensures.items)

pub loop-instance-preserved : goal.loop-instance-preserved
loop-instance-preserved c =
    let u = universe_view c.args.universe.now in
    let xs = c.args.some.now in
    let i = c.loop-instance.instance-index in
    let x = c.instance-item.result in
    lowered_same _ _
    (sym (map_next (λ (y : Instance). (action_of u (instance_view y)).body) xs i x c.loop-instance-test.true c.instance-item.is))
    (sym (each_next (λ (y : Instance). of_instance u (instance_view y)) xs i x c.loop-instance-test.true c.instance-item.is))
    (lowered_both {named1 = every named_body} {named2 = named_body} (λ (ys : List GroundBody) (y : GroundBody). ys ++ y ∷ []) _
    (λ t. ap (map (named_body t)) c.in_ok-push.ensures.items ∙ map-append (named_body t) _ _) c.loop-instance.invariant c.in_ok-lower_one.ensures)

pub returns-in_err-lower_one : goal.returns-in_err-lower_one
returns-in_err-lower_one c =
    let u = universe_view c.args.universe.now in
    let xs = c.args.some.now in
    failed (every named_body) _ _ _ _ _ _ c.from_residual-in_err-lower_one.ensures.1
    (each_stopped (λ (y : Instance). of_instance u (instance_view y)) xs c.loop-instance.instance-index c.instance-item.result c.loop-instance-test.true c.instance-item.is _ _ _ _ _
    (sym (each_view (of_instance u) instance_view xs)) refl c.loop-instance.invariant.notes c.in_err-lower_one.ensures)

pub returns : goal.returns
returns c =
    let u = universe_view c.args.universe.now in
    let xs = c.args.some.now in
    let ended = take_all c.loop-instance.instance-index xs c.loop-instance-test.false in
    lowered_same _ _
    (ap (map (λ (y : Instance). (action_of u (instance_view y)).body)) ended ∙ sym (map-map (λ (j : reached.Instance). (action_of u j).body) instance_view xs))
    (ap (of_each (λ (y : Instance). of_instance u (instance_view y))) ended ∙ each_view (of_instance u) instance_view xs)
    c.loop-instance.invariant
