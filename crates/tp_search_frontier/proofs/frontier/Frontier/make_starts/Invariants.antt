use Rattle.tp_search_frontier.specs.Waiting.{GoesOn}
use Rattle.tp_search_frontier.proofs.frontier.Frontier.make_starts.Given as goal

abbrev pub invariant-loop-choice : goal.invariant-loop-choice
invariant-loop-choice l = GoesOn l.fn.self l.self
