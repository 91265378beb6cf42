use Rattle.std.proofs.Common.{ℕ, List, subst, sym}
use Rattle.tp_net.specs.Rounds.{AreHigh}
use Rattle.tp_net.proofs.Settling.{none_after}
use Rattle.tp_net.proofs.moments.solve_high.Goals as goal

pub settle_high-requires-clause-high : goal.settle_high-requires-clause-high
settle_high-requires-clause-high c =
    subst (λ (high : List ℕ). AreHigh c.args.arcs.now high) (sym c.as_mut_slice.ensures.value) (none_after c.args.arcs.now c.args.known.now c.args.amount c.requires.start.solution c.requires.start.from c.in_ok-high.high.items c.in_ok-high.ensures.len c.in_ok-high.ensures.start c.in_ok-high.ensures.each)
