use Rattle.std.proofs.Common.{subst, sym}
use Rattle.tp_exec_machine.specs.Machine.{IsFresh}
use Rattle.tp_exec_machine.proofs.Ready.{fresh_new}
use Rattle.tp_net_tests.proofs.looks.two_events.Goals as goal

pub bare-requires-clause-fresh : goal.bare-requires-clause-fresh
bare-requires-clause-fresh c = subst IsFresh (sym c.in_ok-net.ensures.setting) (fresh_new _ _)
