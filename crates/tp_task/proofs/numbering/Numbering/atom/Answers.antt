use Rattle.std.proofs.Common.{ℕ, ap, map}
use Rattle.std.proofs.lemmas.Result.{MatchResult-weaker, IfOk-weaker, on_ok_weaker, on_err_weaker}
use Rattle.smallvec.specs.SmallVec.{SmallVec}
use Rattle.tp_task.proofs.OnNumberings.{on_err, keep, keep_same, grown, placed_atoms, added_words, placed_words, full_atoms}
use Rattle.tp_task.proofs.numbering.Numbering.atom.Goals as goal

pub returns-in_err-label-clause-unchanged : goal.returns-in_err-label-clause-unchanged
returns-in_err-label-clause-unchanged c = on_err c.from_residual.result (keep _ _ _ _ c.in_err-label.ensures.grows c.self.invariant.atoms_named (ap (λ t. t.atoms) c.self.view_is))

pub returns-in_err-label-clause-fluents : goal.returns-in_err-label-clause-fluents
returns-in_err-label-clause-fluents c = keep _ _ _ _ c.in_err-label.ensures.grows c.self.invariant.fluents_named (ap (λ t. t.fluents) c.self.view_is)

pub returns-in_err-label-clause-actions : goal.returns-in_err-label-clause-actions
returns-in_err-label-clause-actions c = keep _ _ _ _ c.in_err-label.ensures.grows c.self.invariant.actions_named (ap (λ t. t.actions) c.self.view_is)

pub invariant_of-self-2 : goal.invariant_of-self-2
invariant_of-self-2 c =
    placed_atoms c.place_of.result _ _ _ _ _ _ c.in_ok-label.label.items (grown _ _ _ _ _ _ c.self.invariant c.in_ok-label.ensures.grows c.in_ok-label.ensures.distinct) c.in_ok-label.ensures.in_range c.place_of.ensures.added
    (on_err_weaker c.place_of.result (ap (map (λ (l : SmallVec ℕ). l.items))) c.place_of.ensures.unchanged) c.place_of.ensures.few

pub returns-clause-atoms : goal.returns-clause-atoms
returns-clause-atoms c =
    on_ok_weaker c.place_of.result
    (added_words _ _ c.in_ok-label.label.items _ c.in_ok-label.ensures.grows c.in_ok-label.ensures.distinct c.in_ok-label.ensures.in_range c.in_ok-label.ensures.label _ _ c.self.invariant.atoms_named (ap (λ t. t.atoms) c.self.view_is) _)
    c.place_of.ensures.added

pub returns-clause-place : goal.returns-clause-place
returns-clause-place c =
    IfOk-weaker c.place_of.result _ _
    (λ i. placed_words _ _ c.in_ok-label.label.items _ c.in_ok-label.ensures.grows c.in_ok-label.ensures.distinct c.in_ok-label.ensures.in_range c.in_ok-label.ensures.label _ i)
    c.place_of.ensures.place

pub returns-clause-unchanged : goal.returns-clause-unchanged
returns-clause-unchanged c =
    on_err_weaker c.place_of.result
    (λ same. keep_same _ _ _ _ _ c.in_ok-label.ensures.grows c.self.invariant.atoms_named (ap (λ t. t.atoms) c.self.view_is) (ap (map (λ (l : SmallVec ℕ). l.items)) same))
    c.place_of.ensures.unchanged

pub returns-clause-fluents : goal.returns-clause-fluents
returns-clause-fluents c = keep _ _ _ _ c.in_ok-label.ensures.grows c.self.invariant.fluents_named (ap (λ t. t.fluents) c.self.view_is)

pub returns-clause-actions : goal.returns-clause-actions
returns-clause-actions c = keep _ _ _ _ c.in_ok-label.ensures.grows c.self.invariant.actions_named (ap (λ t. t.actions) c.self.view_is)

pub returns-clause-err : goal.returns-clause-err
returns-clause-err c =
    MatchResult-weaker c.place_of.result c.place_of.ensures.err (λ i h. h)
    (λ e. full_atoms _ _ c.in_ok-label.label.items _ c.in_ok-label.ensures.grows c.in_ok-label.ensures.distinct c.in_ok-label.ensures.in_range c.in_ok-label.ensures.label _ _ c.self.invariant.atoms_named (ap (λ t. t.atoms) c.self.view_is) _ _ _ e (ap (λ t. t.most) c.self.view_is))
