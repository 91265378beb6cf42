use Rattle.std.proofs.Common.{ℕ, ◌≤◌, ◌++◌, length, get_or, sym, ap, ◌∙◌, arith, append-nil}
use Rattle.std.proofs.lemmas.List.{drop_all}
use Rattle.tp_deorder.specs.RunPlans.{moved_from}
use Rattle.tp_exec.proofs.FromPlans.{moved_more, few_events}
use Rattle.tp_exec.proofs.run_plans.moved.Goals as goal

pub loop-step-preserved : goal.loop-step-preserved
loop-step-preserved c =
    record {
      steps = moved_more c.args.task.now.actions.items (λ e. get_or c.args.moments.now e 0) _ _ _ c.loop-step.event c.in_ok-event.event c.loop-step.step-index c.args.steps.now _ c.loop-step-test.true c.loop-step.invariant.steps c.in_ok-event.ensures.steps c.in_ok-event.ensures.next;
      few = few_events c.args.task.now.actions.items (λ e. get_or c.args.moments.now e 0) c.loop-step.event c.loop-step.step-index _ c.in_ok-event.event c.loop-step.invariant.few c.in_ok-event.ensures.next;
    }

pub returns : goal.returns
returns c =
    let t = λ (e : ℕ). get_or c.args.moments.now e 0 in
    let le : length c.args.steps.now ≤ c.loop-step.step-index = omega arith in
    sym (append-nil c.loop-step.moved.items)
    ∙ (ap (λ xs. c.loop-step.moved.items ++ moved_from c.args.task.now.actions.items t c.loop-step.event xs) (sym (drop_all c.loop-step.step-index c.args.steps.now le))
    ∙ c.loop-step.invariant.steps)
