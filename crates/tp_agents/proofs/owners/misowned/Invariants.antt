use Rattle.std.proofs.Common.{◌≡◌, ℕ, ◌<◌, true}
use Rattle.tp_agents.specs.Owners.{has_agent}
use Rattle.tp_agents.proofs.owners.misowned.Given as goal

abbrev pub invariant-loop-e : goal.invariant-loop-e
invariant-loop-e l = (d : ℕ) → d < l.e → has_agent l.owners d ≡ true
