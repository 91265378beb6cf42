use Rattle.std.proofs.Common.{◌≡◌, slice_index_or, None, rules, arith}
use Rattle.std.proofs.lemmas.Grind.{common_steps}
use Rattle.tp_agents.proofs.Decoupling.{interface_iff}
use Rattle.tp_agents.proofs.divided.Split.interval.Goals as goal

pub returns-clause-interface : goal.returns-clause-interface
returns-clause-interface c =
    let value : c.flatten.result ≡ slice_index_or c.args.self.now.intervals.items c.args.e None = first_of (search rules, grind (arith, common_steps)) in
    interface_iff _ _ _ _ c.args.self.now.split c.events-events.ensures.lawful c.args.e c.flatten.result value
