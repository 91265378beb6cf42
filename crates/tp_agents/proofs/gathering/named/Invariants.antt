use Rattle.std.proofs.Common.{◌≡◌, ◌++◌, map, take, drop}
use Rattle.tp_agents.specs.Answers.{as_own}
use Rattle.tp_agents.proofs.gathering.named.Given as goal

abbrev pub invariant-loop-k : goal.invariant-loop-k
invariant-loop-k l =
    l.reason.edges.items ≡ map (as_own l.id) (take l.k l.fn.reason.edges.items) ++ drop l.k l.fn.reason.edges.items
