use Rattle.tp_repair_engine.specs.declared.store.Direction.TheVariants.{Up, Down}
use Rattle.tp_repair_engine.proofs.Halves.{near_within, halves_left, halves_but_moved}
use Rattle.tp_repair_engine.proofs.store.remove.Goals as goal

pub take_out-requires-clause-point : goal.take_out-requires-clause-point
take_out-requires-clause-point c =
    let s = c.args.store.now in
    near_within Up s.nodes.slots s.into.items c.args.key c.remove-node.result c.requires.halves_in c.remove-node.ensures.value

pub take_out-requires-clause-halves : goal.take_out-requires-clause-halves
take_out-requires-clause-halves c =
    let s = c.args.store.now in
    halves_left Up s.nodes.slots c.remove-node.new.self.slots s.into.items c.args.key c.remove-node.result c.requires.halves_in c.remove-node.ensures.value
    c.remove-node.ensures.updates.changed c.remove-node.ensures.updates.others

pub take_out-requires-2-clause-point : goal.take_out-requires-2-clause-point
take_out-requires-2-clause-point c =
    let s = c.args.store.now in
    near_within Down s.nodes.slots s.out.items c.args.key c.remove-node.result c.requires.halves_out c.remove-node.ensures.value

pub take_out-requires-2-clause-halves : goal.take_out-requires-2-clause-halves
take_out-requires-2-clause-halves c =
    let s = c.args.store.now in
    let left = halves_left Down s.nodes.slots c.remove-node.new.self.slots s.out.items c.args.key c.remove-node.result c.requires.halves_out c.remove-node.ensures.value
    c.remove-node.ensures.updates.changed c.remove-node.ensures.updates.others in
    halves_but_moved Down Up c.remove-node.new.self.slots c.take_out.new.nodes.slots s.out.items (λ m n e. e) c.take_out.ensures.moved c.remove-node.result.arc.from c.remove-node.result.place_out left
