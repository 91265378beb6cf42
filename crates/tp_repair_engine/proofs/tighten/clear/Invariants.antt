use Rattle.std.proofs.Common.{◌≡◌, ◌-◌, ◌<◌, ◌≤◌, [], ℕ, length, get_or}
use Rattle.std.specs.Prelude.{All}
use Rattle.std.specs.BinaryHeap.{heap_items, IsHeap}
use Rattle.tp_repair_engine.specs.Queue.{by_amount}
use Rattle.tp_repair_engine.specs.Work.{HasPlaces}
use Rattle.tp_repair_engine.proofs.tighten.clear.Given as goal

abbrev pub invariant-loop-point : goal.invariant-loop-point
invariant-loop-point l = record {
  places : HasPlaces l.points l.work;
  ended : (x : ℕ) → get_or l.work.ranks.items x 0 ≡ 0 → get_or l.work.amounts.items x 0 ≡ 0;
  above : (x : ℕ) → get_or l.work.ranks.items x 0 ≤ length l.work.order.items;
  within : All (λ x. x < l.points) l.work.order.items;
  each : (x : ℕ) → 0 < get_or l.work.ranks.items x 0 → get_or l.work.order.items (get_or l.work.ranks.items x 0 - 1) 0 ≡ x;
  queue : heap_items l.work.queue ≡ [];
  heap : IsHeap by_amount (heap_items l.work.queue);
}

abbrev pub decreases-loop-point : goal.decreases-loop-point
decreases-loop-point l = goal.left-loop-point l
