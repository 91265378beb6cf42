use Rattle.std.proofs.Common.{arith}
use Rattle.tp_net.proofs.Settling.{lifted_more}
use Rattle.tp_net.proofs.rounds.lift.Goals as goal

pub returns-clause-rose : goal.returns-clause-rose
returns-clause-rose c = λ is. lifted_more c.args.low.now c.args.arc.from c.gap-wanted.result c.requires.joins.0 (omega arith)
