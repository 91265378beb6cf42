use Rattle.std.proofs.Common.{refl}
use Rattle.tp_syntax_ast.specs.DomainViews.{initial_view}
use Rattle.tp_syntax_ast.specs.declared.problem.Initial.{Initial}
use Rattle.tp_ground.specs.Initially.{initial_in, named_initial, of_initial}
use Rattle.tp_ground_bindings.proofs.Along.{map_next, map_ended}
use Rattle.tp_ground_bodies.proofs.Stopped.{map_stopped}
use Rattle.tp_ground_bodies.proofs.OnLowered.{all_push, all_same}
use Rattle.tp_ground.proofs.beginning.entries.Goals as goal

pub loop-one-preserved : goal.loop-one-preserved
loop-one-preserved c =
    let f = λ (x : Initial). initial_in (initial_view x) in
    all_push named_initial of_initial _ _ _ _ _ _ _ _ _ c.in_ok-push.ensures.items (map_next f c.args.said.now c.loop-one.one-index c.one-item.result c.loop-one-test.true c.one-item.is) c.loop-one.invariant c.in_ok-entry.ensures

pub returns-in_err-entry : goal.returns-in_err-entry
returns-in_err-entry c =
    let f = λ (x : Initial). initial_in (initial_view x) in
    map_stopped named_initial of_initial c.args.said.now c.loop-one.one-index c.one-item.result c.loop-one-test.true c.one-item.is _ _ _ _ _ _ _ c.from_residual.ensures.1 f refl c.loop-one.invariant c.in_err-entry.ensures

pub returns : goal.returns
returns c =
    let f = λ (x : Initial). initial_in (initial_view x) in
    all_same named_initial of_initial _ _ _ _ _ (map_ended f c.args.said.now c.loop-one.one-index c.loop-one-test.false) c.loop-one.invariant
