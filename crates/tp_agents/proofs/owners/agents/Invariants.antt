use Rattle.std.proofs.Common.{◌≡◌, max, drop}
use Rattle.tp_agents.specs.Owners.{agent_count}
use Rattle.tp_agents.proofs.owners.agents.Given as goal

abbrev pub invariant-loop-agent : goal.invariant-loop-agent
invariant-loop-agent l = max l.count (agent_count (drop l.agent-index l.owners)) ≡ agent_count l.owners
