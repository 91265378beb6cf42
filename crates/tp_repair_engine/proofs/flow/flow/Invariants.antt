use Rattle.std.proofs.Common.{◌+◌, length, get_or}
use Rattle.std.specs.Prelude.{nat_eq, count_by}
use Rattle.std.specs.BinaryHeap.{heap_items}
use Rattle.tp_repair_engine.specs.Flow.{looks_at}
use Rattle.tp_repair_engine.specs.Potential.{link_in}
use Rattle.tp_repair_engine.specs.Store.{keys_of}
use Rattle.tp_repair_engine.specs.Queue.{IsQueue}
use Rattle.tp_repair_engine.specs.Work.{IsOrder}
use Rattle.tp_repair_engine.proofs.Flows.{IsOnward}
use Rattle.tp_repair_engine.proofs.flow.flow.Given as goal

abbrev pub invariant-loop-point : goal.invariant-loop-point
invariant-loop-point l = record {
  onward : IsOnward (link_in l.direction l.potential.store.now l.potential.moments.now) (keys_of l.direction l.potential.store.now) (λ x. get_or l.fn.work.amounts.items x 0) (length l.potential.moments.now) (length l.fn.work.order.items + count_by (λ r. nat_eq r 0) l.fn.work.ranks.items) (length l.work.order.items) (looks_at (keys_of l.direction l.potential.store.now) (λ x. get_or l.fn.work.ranks.items x 0) (length l.potential.moments.now) + l.looks) l.work.amounts.items l.work.ranks.items l.work.parents.items;
  order : IsOrder l.work.ranks.items l.work.order.items;
  queue : IsQueue (length l.potential.moments.now) (λ x. get_or l.work.amounts.items x 0) (λ x. get_or l.work.ranks.items x 0) (heap_items l.work.queue);
}

abbrev pub decreases-loop-point : goal.decreases-loop-point
decreases-loop-point l = count_by (λ r. nat_eq r 0) l.work.ranks.items
