use Rattle.std.proofs.Common.{arith}
use Rattle.tp_agents.specs.Answers.{as_own}
use Rattle.tp_agents.proofs.Lists.{named_more}
use Rattle.tp_agents.proofs.gathering.named.Goals as goal

pub loop-k-preserved : goal.loop-k-preserved
loop-k-preserved c =
    named_more (as_own c.args.id) c.args.reason.edges.items c.loop-k.reason.edges.items c.loop-k.k c.index.result.now c.owned.result
    (omega (arith, c.args.reason.edges.ok.0)) c.loop-k.invariant c.index.ensures c.owned.ensures
