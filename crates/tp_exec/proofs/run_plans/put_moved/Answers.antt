use Rattle.std.proofs.Common.{◌≡◌, ◌+◌, ◌-◌, true, false, Some, option_map, get_or, slice_get, sym, ◌∙◌}
use Rattle.tp_deorder.specs.EventTexts.{has_two}
use Rattle.tp_exec.proofs.FromPlans.{put_none, put_one, put_two, count_none, count_one, count_two}
use Rattle.tp_exec.proofs.run_plans.put_moved.Goals as goal

pub returns-in-None-clause-steps : goal.returns-in-None-clause-steps
returns-in-None-clause-steps c = put_none (λ e. get_or c.args.moments.now e 0) c.args.event c.args.step c.args.moved.now.items _ (sym c.in-None.is ∙ c.has_two.ensures)

pub returns-in-None-clause-next : goal.returns-in-None-clause-next
returns-in-None-clause-next c = count_none c.args.event _ (sym c.in-None.is ∙ c.has_two.ensures)

pub returns-in_ok-push-in-Some-false-clause-steps : goal.returns-in_ok-push-in-Some-false-clause-steps
returns-in_ok-push-in-Some-false-clause-steps c =
    let o = slice_get c.args.task.now.actions.items c.args.step.action.0 in
    let h : Some false ≡ option_map has_two o = cc (c.in-Some-false.is, c.in-Some-false.field-0-test, c.has_two.ensures) in
    c.in_ok-push-in-Some-false.ensures.items ∙ put_one (λ e. get_or c.args.moments.now e 0) c.args.event c.args.step c.args.moved.now.items _ o h c.moment_of-tick.ensures

pub returns-in_ok-push-in-Some-false-clause-next : goal.returns-in_ok-push-in-Some-false-clause-next
returns-in_ok-push-in-Some-false-clause-next c =
    let o = slice_get c.args.task.now.actions.items c.args.step.action.0 in
    let h : Some false ≡ option_map has_two o = cc (c.in-Some-false.is, c.in-Some-false.field-0-test, c.has_two.ensures) in
    count_one c.args.event o h

pub returns-in_ok-push-in-Some-true-clause-steps : goal.returns-in_ok-push-in-Some-true-clause-steps
returns-in_ok-push-in-Some-true-clause-steps c =
    let o = slice_get c.args.task.now.actions.items c.args.step.action.0 in
    let h : Some true ≡ option_map has_two o = cc (c.in-Some-true.is, c.in-Some-true.field-0-test, c.has_two.ensures) in
    let lasts : c.saturating_sub-duration.result ≡ get_or c.args.moments.now (c.args.event + 1) 0 - get_or c.args.moments.now c.args.event 0 = rw (← c.moment_of.ensures, ← c.moment_of-tick.ensures) c.saturating_sub-duration.ensures in
    c.in_ok-push-in-Some-true.ensures.items ∙ put_two (λ e. get_or c.args.moments.now e 0) c.args.event c.args.step c.args.moved.now.items _ _ o h c.moment_of-tick.ensures lasts

pub returns-in_ok-push-in-Some-true-clause-next : goal.returns-in_ok-push-in-Some-true-clause-next
returns-in_ok-push-in-Some-true-clause-next c =
    let o = slice_get c.args.task.now.actions.items c.args.step.action.0 in
    let h : Some true ≡ option_map has_two o = cc (c.in-Some-true.is, c.in-Some-true.field-0-test, c.has_two.ensures) in
    count_two c.args.event o h
