use Rattle.std.proofs.Common.{◌≡◌, ◌≤◌, true, List, length, sym, subst, ◌∙◌}
use Rattle.std.specs.List.{list_all}
use Rattle.tp_task.specs.Valid.{Planned}
use Rattle.tp_validate.specs.OfTask.{AreSteps}
use Rattle.tp_validate.proofs.Planning.{ends, steps_of}
use Rattle.tp_validate.proofs.verdicts.carry_out.Goals as goal

pub placed_events-requires-clause-few : goal.placed_events-requires-clause-few
placed_events-requires-clause-few c =
    subst (λ (ps : List Planned). length ps ≤ 512) (sym (c.deref.ensures.value ∙ c.in_ok-planned.ensures)) (steps_of c.args.task.now c.args.steps.now c.requires).few

pub placed_events-requires-clause-ends : goal.placed_events-requires-clause-ends
placed_events-requires-clause-ends c =
    subst (λ (ps : List Planned). list_all ends ps ≡ true) (sym (c.deref.ensures.value ∙ c.in_ok-planned.ensures)) (steps_of c.args.task.now c.args.steps.now c.requires).ends

pub run-requires-clause-steps : goal.run-requires-clause-steps
run-requires-clause-steps c =
    subst (λ (ps : List Planned). AreSteps c.args.task.now ps) (sym (c.deref-2.ensures.value ∙ c.in_ok-planned.ensures)) (steps_of c.args.task.now c.args.steps.now c.requires)
