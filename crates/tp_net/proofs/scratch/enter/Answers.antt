use Rattle.tp_bounds.proofs.HeldMaps.{held_inserted}
use Rattle.tp_net.proofs.scratch.enter.Goals as goal

pub returns-clause-bounds : goal.returns-clause-bounds
returns-clause-bounds c = held_inserted c.args.bounds.now c.insert.new.self c.args.id.0 c.args.bound c.in_ok-insert.ensures.updates.0
