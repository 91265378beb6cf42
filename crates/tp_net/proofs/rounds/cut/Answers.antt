use Rattle.std.proofs.Common.{arith}
use Rattle.tp_net.proofs.Settling.{fallen_less}
use Rattle.tp_net.proofs.rounds.cut.Goals as goal

pub returns-clause-fell : goal.returns-clause-fell
returns-clause-fell c = λ is. fallen_less c.args.high.now c.args.arc.to c.latest-allowed.result c.requires.joins.1 (omega arith)
