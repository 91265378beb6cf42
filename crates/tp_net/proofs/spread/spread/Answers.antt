use Rattle.std.proofs.Common.{◌≡◌, ◌+◌, length, set, subst, sym, arith, take, drop, ◌++◌}
use Rattle.tp_net.proofs.Spreads.{IsSettling, settled_state, settled_more, written_back}
use Rattle.tp_net.proofs.spread.spread.Goals as goal

pub loop-point-preserved : goal.loop-point-preserved
loop-point-preserved c =
    let links = c.args.links.now in
    let amounts = c.loop-point.amounts.items in
    let ranks = c.loop-point.ranks.items in
    let parents = c.loop-point.parents.items in
    let s = c.loop-point.invariant in
    let point = c.in-Some.point in
    let next = simp (c.deref.ensures.value, c.deref-in-loop-point.ensures.value) at c.in-Some.ensures in
    let state = settled_state links c.args.points c.args.seed c.args.amount c.loop-point.settled point amounts ranks parents s next.0 next.1 in
    let after = (simp (c.deref_mut.ensures.value, c.deref_mut-in-Some.ensures.value, c.deref-in-Some.ensures.value) at (c.relax.ensures c.args.seed c.args.amount)) state in
    let len_a : length c.relax.new.amounts ≡ length amounts = omega arith in
    let len_p : length c.relax.new.parents ≡ length parents = omega arith in
    let more = settled_more links c.args.points c.args.seed c.args.amount c.loop-point.settled point amounts ranks parents s next.0 next.1 c.relax.new.amounts c.relax.new.parents len_a len_p after in
    subst (λ xs. IsSettling links c.args.points c.args.seed c.args.amount (c.loop-point.settled + 1) xs (set ranks point (c.loop-point.settled + 1)) (take c.loop-point.parents.len (c.relax.new.parents ++ drop (length c.relax.new.parents) parents))) (sym (written_back amounts c.relax.new.amounts c.loop-point.amounts.len c.loop-point.amounts.ok.0 len_a))
    (subst (λ xs. IsSettling links c.args.points c.args.seed c.args.amount (c.loop-point.settled + 1) c.relax.new.amounts (set ranks point (c.loop-point.settled + 1)) xs) (sym (written_back parents c.relax.new.parents c.loop-point.parents.len c.loop-point.parents.ok.0 len_p)) more)
