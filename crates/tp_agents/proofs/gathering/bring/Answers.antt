use Rattle.std.proofs.Common.{sym, subst}
use Rattle.tp_bounds.specs.Changes.{with_bound, proposing}
use Rattle.tp_net.specs.Faults.{Refutes, IsNew}
use Rattle.tp_agents.specs.Answers.{Contradicts}
use Rattle.tp_agents.proofs.OnSettings.{contradicts_own}
use Rattle.tp_agents.proofs.gathering.bring.Goals as goal

pub returns-in-Err-Conflict-clause-err : goal.returns-in-Err-Conflict-clause-err
returns-in-Err-Conflict-clause-err g c =
    let h : Refutes IsNew (proposing (g.N.Net.seen c.args.net.now) c.args.bound) (with_bound (g.N.Net.seen c.args.net.now) c.args.id.0 c.args.bound) c.in-Err-Conflict.reason.edges.items = rw c.in-Err-Conflict.field-0-is at c.in-Err-Conflict.ensures.exact in
    subst (Contradicts (with_bound (g.N.Net.seen c.args.net.now) c.args.id.0 c.args.bound)) (sym c.named.ensures)
    (contradicts_own (g.N.Net.seen c.args.net.now) c.args.id c.args.bound c.requires.unused c.in-Err-Conflict.reason.edges.items h)
