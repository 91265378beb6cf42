use Rattle.std.proofs.Common.{◌≡◌, ◌<◌, length, arith, subst}
use Rattle.tp_net.specs.Links.{link_at, no_link}
use Rattle.tp_net.proofs.Spreads.{IsRelaxing, relaxing_kept, raised_state, raised_last}
use Rattle.tp_net.proofs.spread.relax.Goals as goal
use Rattle.tp_net.proofs.spread.relax.Goals.{then-link-point+then-ranks-link-eq0+then-amounts-link, then-link-point+then-ranks-link-eq0+else-amounts-link, else-link-point, else-link-point-via-then-link-point+else-ranks-link-eq0, else-link-point-via-else-link-point}

pub loop-index-preserved : goal.loop-index-preserved
loop-index-preserved c =
    let links = c.args.links.now in
    let i = c.loop-index.index in
    let amounts = c.loop-index.amounts in
    let parents = c.loop-index.parents in
    let s = c.loop-index.invariant in
    let kept = relaxing_kept links c.args.point i c.args.amounts.now c.args.ranks.now c.args.parents.now amounts parents c.if-link-point.amounts c.if-link-point.parents s in
    elim c.if-link-point.branch [
      | then-link-point+then-ranks-link-eq0+then-amounts-link w ↦
          let from_within : (link_at links i).from < length amounts = omega (arith, (c.requires.among i no_link c.loop-index-test.true).0) in
          record {
            parents_len = omega arith;
            last = raised_last links c.args.point i w.saturating_sub-amount.result amounts c.args.ranks.now parents c.if-link-point.amounts c.if-link-point.parents
                c.loop-index-test.true from_within s.parents_len c.requires.settled s.last w.if-link-point.true w.if-ranks-link-eq0.true w.saturating_sub-amount.ensures w.if-amounts-link.true w.amounts-is w.parents-is;
            state = λ seed amount before. raised_state links c.args.point i w.saturating_sub-amount.result amounts c.args.ranks.now parents c.if-link-point.amounts c.if-link-point.parents
                c.loop-index-test.true from_within s.parents_len c.requires.settled s.last w.if-link-point.true w.if-ranks-link-eq0.true w.saturating_sub-amount.ensures w.if-amounts-link.true w.amounts-is w.parents-is
                seed amount (s.state seed amount before);
          }
      | then-link-point+then-ranks-link-eq0+else-amounts-link w ↦
          kept w.amounts-is w.parents-is (λ here. omega (arith, w.saturating_sub-amount.ensures, w.if-amounts-link.false))
      | else-link-point w ↦
          elim w.else-link-point.branch [
            | else-link-point-via-then-link-point+else-ranks-link-eq0 w' ↦
                kept w.amounts-is w.parents-is (λ here. omega (arith, s.last (link_at links i).from (omega arith)))
            | else-link-point-via-else-link-point w' ↦
                kept w.amounts-is w.parents-is (λ here. absurd (w'.if-link-point.false here))
          ]
    ]

pub returns : goal.returns
returns c =
    let s = c.loop-index.invariant in
    let all : c.loop-index.index ≡ length c.args.links.now = omega arith in
    (subst (λ n. IsRelaxing c.args.links.now c.args.point n c.args.amounts.now c.args.ranks.now c.args.parents.now c.loop-index.amounts c.loop-index.parents) all s).state
