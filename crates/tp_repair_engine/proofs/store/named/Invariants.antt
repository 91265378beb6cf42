use Rattle.std.proofs.Common.{◌≡◌, ◌∷◌, take, map}
use Rattle.std.specs.Prelude.{None, slice_index_or}
use Rattle.tp_repair_engine.specs.Store.{name_in}
use Rattle.tp_repair_engine.proofs.store.named.Given as goal

abbrev pub invariant-loop-key : goal.invariant-loop-key
invariant-loop-key l = l.edges.items ≡ l.fn.first ∷ map (λ k. name_in (slice_index_or l.store.nodes.slots k None)) (take l.key-index l.path)
