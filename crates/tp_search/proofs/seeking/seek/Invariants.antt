use Rattle.std.proofs.Common.{◌≡◌, ◌≤◌, ◌-◌}
use Rattle.std.specs.Prelude.{false}
use Rattle.tp_search.proofs.seeking.seek.Given as goal

abbrev pub invariant-loop-node : goal.invariant-loop-node
invariant-loop-node g l =
    record {
      expanded : l.expanded ≤ l.budget;
      quiet : l.progress ≡ false → l.board ≡ l.fn.board;
    }

abbrev pub decreases-loop-node : goal.decreases-loop-node
decreases-loop-node g l = l.budget - l.expanded
