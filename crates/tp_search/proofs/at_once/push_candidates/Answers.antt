use Rattle.std.proofs.Common.{◌+◌, ◌<◌, sym, subst, arith}
use Rattle.std.specs.List.{AllByRecursion}
use Rattle.tp_search.specs.Possible.{AreCandidates, AreRising, CanBegin}
use Rattle.tp_search.proofs.Begins.{more_candidates, all_begin, more_below, more_rising}
use Rattle.tp_search.proofs.at_once.push_candidates.Goals as goal

pub loop-action-preserved : goal.loop-action-preserved
loop-action-preserved c =
    let t = c.args.task.now in
    let a = c.loop-action.action in
    let found = c.loop-action.found.items in
    let wanted = c.in_ok-wanted.wanted in
    record {
      all =
          subst (AreCandidates t (a + 1)) (sym c.in_ok-push_if.ensures)
          (more_candidates t a found wanted (omega (arith, c.loop-action-test.true, c.len-count.ensures, t.actions.ok.0)) c.in_ok-wanted.ensures.no c.loop-action.invariant.all);
      no_other = subst (AllByRecursion (CanBegin t)) (sym c.in_ok-push_if.ensures) (all_begin t a found wanted c.in_ok-wanted.ensures.yes c.loop-action.invariant.no_other);
      below = subst (AllByRecursion (λ b. b < a + 1)) (sym c.in_ok-push_if.ensures) (more_below a found wanted c.loop-action.invariant.below);
      rising = subst AreRising (sym c.in_ok-push_if.ensures) (more_rising a found wanted c.loop-action.invariant.below c.loop-action.invariant.rising);
    }
