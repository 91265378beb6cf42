use Rattle.std.proofs.Common.{◌+◌, ◌++◌, drop, get_or, Vec, Global, ap, ◌∙◌}
use Rattle.tp_task.specs.Valid.{Planned}
use Rattle.tp_happen.specs.tp_plan_text.declared.plans.Step.{Step}
use Rattle.tp_validate.specs.OfTask.{planned}
use Rattle.tp_validate.proofs.AtPlace.{with_one, with_none, found_body, no_body}
use Rattle.tp_validate.proofs.placing.planned_steps.Goals as goal
use Rattle.tp_validate.proofs.placing.planned_steps.Goals.{in-Some+in_ok-push, in_default}

pub loop-step-preserved : goal.loop-step-preserved
loop-step-preserved c =
    let bodies = c.args.task.now.actions.items in
    let steps = c.args.steps.now in
    let i = c.loop-step.step-index in
    let d : Step = record { tick = 0; action = record { 0 = 0 }; duration = 0 } in
    let s : Step = get_or steps i d in
    elim c.match-body_of.branch [
      | in-Some+in_ok-push w ↦ with_one bodies steps i d c.loop-step-test.true c.loop-step.planned.items c.match-body_of.planned.items (planned bodies steps) w.planned_step.result
          (found_body _ _ _ s _ _ w.planned_step.ensures w.in-Some.is c.body_of.ensures)
          (ap (λ (v : Vec Planned Global). v.items) w.planned-is ∙ w.in_ok-push.ensures.items)
          c.loop-step.invariant
      | in_default w ↦ ap (λ (v : Vec Planned Global). v.items ++ planned bodies (drop (i + 1) steps)) w.planned-is
          ∙ with_none bodies steps i d c.loop-step-test.true c.loop-step.planned.items (planned bodies steps) (no_body _ _ s _ w.in_default.is c.body_of.ensures) c.loop-step.invariant
    ]
