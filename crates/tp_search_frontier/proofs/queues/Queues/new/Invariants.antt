use Rattle.std.proofs.Common.{◌≡◌, [], replicate}
use Rattle.tp_search_frontier.proofs.queues.Queues.new.Given as goal

abbrev pub invariant-loop : goal.invariant-loop
invariant-loop l = l.queues.items ≡ replicate l.counter []
