use Rattle.std.proofs.Common.{refl, ◌∙◌}
use Rattle.tp_ground_named.specs.Groups.{behind}
use Rattle.tp_ground_named.proofs.OnPicks.{more_tails}
use Rattle.tp_ground_named.proofs.groups.groups_of.Goals as goal

pub loop-row-preserved : goal.loop-row-preserved
loop-row-preserved c = λ n.
    c.in_ok-put_row.ensures n
    ∙ more_tails n c.args.rows.now c.loop-row.row-index _ c.loop-row-test.true _ refl (behind c.loop-row.groups n) (c.loop-row.invariant n)
