use Rattle.std.proofs.Common.{◌≡◌, set, w64}
use Rattle.std.specs.Prelude.{Some, None, slice_index_or}
use mir.Val.{to_z, of_z}
use Rattle.tp_repair_engine.specs.declared.store.Node.{Node}
use Rattle.tp_repair_engine.specs.declared.store.Direction.TheVariants.{Up, Down}
use Rattle.tp_repair_engine.specs.Store.{weighed}
use Rattle.tp_repair_engine.proofs.Halves.{near_within, halves_weighed, slot_written, slot_other}
use Rattle.tp_repair_engine.proofs.store.set_edge.Goals as goal

pub weigh_half-requires-clause-point : goal.weigh_half-requires-clause-point
weigh_half-requires-clause-point c =
    let s = c.args.store.now in
    near_within Up s.nodes.slots s.into.items c.args.key c.index-node.result.now c.requires.halves_in c.index-node.ensures

pub weigh_half-requires-2-clause-point : goal.weigh_half-requires-2-clause-point
weigh_half-requires-2-clause-point c =
    let s = c.args.store.now in
    near_within Down s.nodes.slots s.out.items c.args.key c.index-node.result.now c.requires.halves_out c.index-node.ensures

pub returns-clause-halves_in : goal.returns-clause-halves_in
returns-clause-halves_in c =
    let s = c.args.store.now in
    let n : Node = c.index-node.result.now in
    let m : Node = weighed c.args.name (to_z w64 (of_z w64 c.args.weight)) n in
    let slots' = set s.nodes.slots c.args.key (Some m) in
    let now : slice_index_or slots' c.args.key None ≡ Some m = slot_written s.nodes.slots c.args.key n m c.index-node.ensures in
    halves_weighed Up s.nodes.slots slots' s.into.items c.weigh_half.new.lists.items c.args.key n c.args.name (to_z w64 (of_z w64 c.args.weight)) c.requires.halves_in c.index-node.ensures now
    (slot_other s.nodes.slots c.args.key m) c.weigh_half.ensures.lens c.weigh_half.ensures.here c.weigh_half.ensures.stay

pub returns-clause-halves_out : goal.returns-clause-halves_out
returns-clause-halves_out c =
    let s = c.args.store.now in
    let n : Node = c.index-node.result.now in
    let m : Node = weighed c.args.name (to_z w64 (of_z w64 c.args.weight)) n in
    let slots' = set s.nodes.slots c.args.key (Some m) in
    let now : slice_index_or slots' c.args.key None ≡ Some m = slot_written s.nodes.slots c.args.key n m c.index-node.ensures in
    halves_weighed Down s.nodes.slots slots' s.out.items c.weigh_half-2.new.lists.items c.args.key n c.args.name (to_z w64 (of_z w64 c.args.weight)) c.requires.halves_out c.index-node.ensures now
    (slot_other s.nodes.slots c.args.key m) c.weigh_half-2.ensures.lens c.weigh_half-2.ensures.here c.weigh_half-2.ensures.stay
