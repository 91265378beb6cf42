use Rattle.std.proofs.Common.{length, get_or}
use Rattle.std.specs.BinaryHeap.{heap_items, heap_len}
use Rattle.tp_repair_engine.specs.Queue.{IsQueue}
use Rattle.tp_repair_engine.proofs.queue.next_point.Given as goal

abbrev pub invariant-loop-amount : goal.invariant-loop-amount
invariant-loop-amount l = IsQueue (length l.amounts) (λ x. get_or l.amounts x 0) (λ x. get_or l.ranks x 0) (heap_items l.queue)

abbrev pub decreases-loop-amount : goal.decreases-loop-amount
decreases-loop-amount l = heap_len l.queue
