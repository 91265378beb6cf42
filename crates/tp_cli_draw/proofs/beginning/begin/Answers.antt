use Rattle.std.proofs.Common.{subst, sym}
use Rattle.tp_exec_machine.specs.Machine.{IsFresh}
use Rattle.tp_exec_machine.proofs.Ready.{fresh_new}
use Rattle.tp_cli_draw.proofs.beginning.begin.Goals as goal

pub from_plan-requires-clause-fresh : goal.from_plan-requires-clause-fresh
from_plan-requires-clause-fresh c = subst IsFresh (sym c.in_ok-net.ensures.setting) (fresh_new _ _)
