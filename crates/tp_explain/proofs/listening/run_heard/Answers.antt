use Rattle.tp_explain.proofs.CallsHeard.{heard_ends}
use Rattle.tp_explain.proofs.listening.run_heard.Goals as goal

pub returns-clause-ends : goal.returns-clause-ends
returns-clause-ends g c =
    heard_ends (λ heard. heard.writer) g.W.Write.contents g.V.Write.contents _ _ _ _ _ c.run_streams.result.status _ c.run_streams.result.output _ _ _
    c.unheard.ensures.status c.unheard.ensures.output c.unheard.ensures.faults c.run_streams.ensures.ends
