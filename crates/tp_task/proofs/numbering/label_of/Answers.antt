use Rattle.std.proofs.Common.{◌∙◌}
use Rattle.tp_task.proofs.OnLabels.{numbered_on, taken_on}
use Rattle.tp_task.proofs.Growth.{names_grow_on}
use Rattle.tp_task.proofs.numbering.label_of.Goals as goal

pub loop-word-preserved : goal.loop-word-preserved
loop-word-preserved c =
    let n = numbered_on _ _ _ _ _ _ _ c.loop-word.invariant.named_so_far c.loop-word.invariant.in_range c.in_ok-number.ensures.grows c.in_ok-number.ensures.number c.in_ok-push.ensures.ok in
    record {
      named_so_far = n.0 ∙ taken_on (λ w. w.now) c.args.words.now c.loop-word.word-index _ c.loop-word-test.true;
      in_range = n.1;
      grows = names_grow_on _ _ _ c.loop-word.invariant.grows c.in_ok-number.ensures.grows;
      distinct = c.in_ok-number.ensures.distinct;
    }
