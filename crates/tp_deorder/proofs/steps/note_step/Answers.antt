use Rattle.std.proofs.Common.{◌≡◌, ◌<◌, List, length, OnOk, IfErr, sym, ap, ◌∙◌, subst}
use Rattle.tp_bounds.specs.declared.Bound.{Bound}
use Rattle.tp_task.specs.Valid.{Planned}
use Rattle.tp_deorder.specs.Answers.{OnTooMany}
use Rattle.tp_deorder.proofs.OnSteps.{noted}
use Rattle.tp_deorder.proofs.steps.note_step.Goals as goal

pub returns-in_ok-note_length-in-Durative-clause-ok : goal.returns-in_ok-note_length-in-Durative-clause-ok
returns-in_ok-note_length-in-Durative-clause-ok c =
    subst (λ (bs : List Bound). OnOk c.note_invariant.result (c.note_invariant.new.bounds.items ≡ bs))
    (noted c.args.horizon c.args.ticks c.args.events.now c.args.first c.args.step.now _ _ _ _ _ c.args.bounds.now.items c.note_length.new.bounds.items (ap (λ (p : Planned). p.moment) c.step.view_is) (ap (λ (p : Planned). p.duration) c.step.view_is)
    (sym (ap (λ (p : Planned). p.body) c.step.view_is) ∙ c.in-Durative.is) c.in_ok-note_length-in-Durative.ensures)
    c.note_invariant.ensures.ok

pub returns-in_ok-note_length-in-Durative-clause-err : goal.returns-in_ok-note_length-in-Durative-clause-err
returns-in_ok-note_length-in-Durative-clause-err c =
    subst (λ (bs : List Bound). IfErr c.note_invariant.result (λ e. OnTooMany e (c.args.most < length bs)))
    (noted c.args.horizon c.args.ticks c.args.events.now c.args.first c.args.step.now _ _ _ _ _ c.args.bounds.now.items c.note_length.new.bounds.items (ap (λ (p : Planned). p.moment) c.step.view_is) (ap (λ (p : Planned). p.duration) c.step.view_is)
    (sym (ap (λ (p : Planned). p.body) c.step.view_is) ∙ c.in-Durative.is) c.in_ok-note_length-in-Durative.ensures)
    c.note_invariant.ensures.err
