use Rattle.std.proofs.Common.{◌≡◌, ◌<◌, [], ℕ, length, get_or}
use Rattle.std.specs.BinaryHeap.{heap_items, IsHeap}
use Rattle.tp_repair_engine.specs.Queue.{by_amount}
use Rattle.tp_repair_engine.specs.Work.{HasPlaces}
use Rattle.tp_repair_engine.proofs.tighten.wipe.Given as goal

abbrev pub invariant-loop-point : goal.invariant-loop-point
invariant-loop-point l = record {
  places : HasPlaces l.points l.work;
  order : length l.work.order.items ≡ 0;
  queue : heap_items l.work.queue ≡ [];
  heap : IsHeap by_amount (heap_items l.work.queue);
  nothing : (x : ℕ) → x < l.point → get_or l.work.amounts.items x 0 ≡ 0;
  unsettled : (x : ℕ) → x < l.point → get_or l.work.ranks.items x 0 ≡ 0;
}
