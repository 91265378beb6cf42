use Rattle.std.proofs.Common.{map}
use Rattle.tp_agents.proofs.Words.{AreRead}
use Rattle.tp_agents.proofs.reading.read_owners.Given as goal

abbrev pub invariant-loop-word : goal.invariant-loop-word
invariant-loop-word l = AreRead (map (λ w. w.now) l.yielded) l.agents.items
