use Rattle.std.proofs.Common.{subst, take}
use Rattle.tp_search_frontier.specs.Waiting.{AreEmpty}
use Rattle.tp_search_frontier.proofs.Waiting.{empty_set}
use Rattle.tp_search_frontier.proofs.queues.Queues.take.Goals as goal

pub invariant_of-self : goal.invariant_of-self
invariant_of-self c =
    empty_set c.self.inside.queues.items c.first_waiting-lacking.result c.take-node.new.self
    (subst (λ qs. AreEmpty (take c.first_waiting-lacking.result qs)) c.deref.ensures.value c.first_waiting-lacking.ensures.empty)
