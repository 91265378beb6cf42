use Rattle.std.proofs.Common.{ap}
use Rattle.tp_task.proofs.OnNumberings.{on_err, keep, keep_same, grown, more_actions, same_actions, push_words}
use Rattle.tp_task.proofs.numbering.Numbering.push_action.Goals as goal

pub returns-in_err-label-clause-unchanged : goal.returns-in_err-label-clause-unchanged
returns-in_err-label-clause-unchanged c = on_err c.from_residual.result (keep _ _ _ _ c.in_err-label.ensures.grows c.self.invariant.actions_named (ap (λ t. t.actions) c.self.view_is))

pub returns-in_err-label-clause-atoms : goal.returns-in_err-label-clause-atoms
returns-in_err-label-clause-atoms c = keep _ _ _ _ c.in_err-label.ensures.grows c.self.invariant.atoms_named (ap (λ t. t.atoms) c.self.view_is)

pub returns-in_err-label-clause-fluents : goal.returns-in_err-label-clause-fluents
returns-in_err-label-clause-fluents c = keep _ _ _ _ c.in_err-label.ensures.grows c.self.invariant.fluents_named (ap (λ t. t.fluents) c.self.view_is)

pub invariant_of-self-in_err-push : goal.invariant_of-self-in_err-push
invariant_of-self-in_err-push c =
    same_actions _ _ _ _ _ _ (grown _ _ _ _ _ _ c.self.invariant c.in_ok-label.ensures.grows c.in_ok-label.ensures.distinct) c.in_err-push.ensures.unchanged

pub returns-in_err-push-clause-unchanged : goal.returns-in_err-push-clause-unchanged
returns-in_err-push-clause-unchanged c =
    on_err c.from_residual-in_err-push.result
    (keep_same _ _ _ _ _ c.in_ok-label.ensures.grows c.self.invariant.actions_named (ap (λ t. t.actions) c.self.view_is) c.in_err-push.ensures.unchanged)

pub returns-in_err-push-clause-atoms : goal.returns-in_err-push-clause-atoms
returns-in_err-push-clause-atoms c = keep _ _ _ _ c.in_ok-label.ensures.grows c.self.invariant.atoms_named (ap (λ t. t.atoms) c.self.view_is)

pub returns-in_err-push-clause-fluents : goal.returns-in_err-push-clause-fluents
returns-in_err-push-clause-fluents c = keep _ _ _ _ c.in_ok-label.ensures.grows c.self.invariant.fluents_named (ap (λ t. t.fluents) c.self.view_is)

pub invariant_of-self-2 : goal.invariant_of-self-2
invariant_of-self-2 c =
    more_actions _ _ _ _ _ _ c.in_ok-label.label.items (grown _ _ _ _ _ _ c.self.invariant c.in_ok-label.ensures.grows c.in_ok-label.ensures.distinct) c.in_ok-label.ensures.in_range c.in_ok-push.ensures.added

pub returns-clause-actions : goal.returns-clause-actions
returns-clause-actions c =
    push_words _ _ _ _ c.in_ok-label.label.items _ _ c.in_ok-label.ensures.grows c.self.invariant.actions_named (ap (λ t. t.actions) c.self.view_is) c.in_ok-label.ensures.label c.in_ok-push.ensures.added

pub returns-clause-atoms : goal.returns-clause-atoms
returns-clause-atoms c = keep _ _ _ _ c.in_ok-label.ensures.grows c.self.invariant.atoms_named (ap (λ t. t.atoms) c.self.view_is)

pub returns-clause-fluents : goal.returns-clause-fluents
returns-clause-fluents c = keep _ _ _ _ c.in_ok-label.ensures.grows c.self.invariant.fluents_named (ap (λ t. t.fluents) c.self.view_is)
