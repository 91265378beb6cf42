use Rattle.std.proofs.Common.{◌≡◌, ◌<◌, ◌≤◌, ℕ, length, get_or}
use Rattle.std.specs.BinaryHeap.{heap_items}
use Rattle.tp_net.specs.declared.spread.Link.{Link}
use Rattle.tp_repair_engine.specs.Flow.{link_of}
use Rattle.tp_repair_engine.specs.Store.{arc_along, keys_in, half_at}
use Rattle.tp_repair_engine.specs.Queue.{IsQueue}
use Rattle.tp_repair_engine.proofs.Flows.{IsFlowing}
use Rattle.tp_repair_engine.proofs.flow.relax.Given as goal

abbrev pub invariant-loop-half : goal.invariant-loop-half
invariant-loop-half l = record {
  looks_is : l.looks ≡ l.half-index;
  parents_len : length l.parents ≡ length l.fn.parents;
  last : (x : ℕ) → 0 < get_or l.ranks x 0 → get_or l.amounts l.point 0 ≤ get_or l.amounts x 0;
  flowing : (link : ℕ → Link) → ((j : ℕ) → j < length l.list → link (half_at l.list j).key ≡ link_of l.direction (λ x. get_or l.potential.moments.now x 0) (arc_along l.direction l.point (half_at l.list j))) → IsFlowing link (keys_in l.list) l.point l.half-index l.fn.amounts l.ranks l.fn.parents l.amounts l.parents;
  queue : IsQueue (length l.potential.moments.now) (λ x. get_or l.amounts x 0) (λ x. get_or l.ranks x 0) (heap_items l.queue);
}
