use Rattle.std.proofs.Common.{◌≡◌, ℕ, length}
use Rattle.tp_repair_engine.specs.declared.store.Direction.{Direction}
use Rattle.tp_repair_engine.specs.declared.store.Direction.TheVariants.{Up, Down}
use Rattle.tp_repair_engine.specs.Store.{AreHalves, SamePoints, keys_of}
use Rattle.tp_repair_engine.specs.Engine.{AreMapped}
use Rattle.tp_repair_engine.proofs.Floors.{node_upto}
use Rattle.tp_repair_engine.proofs.change.set_floors.Given as goal

abbrev pub invariant-loop-e : goal.invariant-loop-e
invariant-loop-e l = record {
  points : SamePoints l.fn.store l.store;
  halves_in : AreHalves Up l.store.nodes.slots l.store.into.items;
  halves_out : AreHalves Down l.store.nodes.slots l.store.out.items;
  degrees : (d : Direction) (y : ℕ) → length (keys_of d l.store y) ≡ length (keys_of d l.fn.store y);
  mapped : AreMapped (node_upto l.e l.now l.lags) l.fn.store.nodes.slots l.store.nodes.slots;
}
