use Rattle.std.proofs.Common.{◌-◌, length, take}
use Rattle.tp_search_frontier.specs.Waiting.{AreEmpty}
use Rattle.tp_search_frontier.proofs.queues.first_waiting.Given as goal

abbrev pub invariant-loop-at : goal.invariant-loop-at
invariant-loop-at l = AreEmpty (take l.at l.queues)

abbrev pub decreases-loop-at : goal.decreases-loop-at
decreases-loop-at l = length l.queues - l.at
