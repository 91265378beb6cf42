use Rattle.std.proofs.Common.{sym, subst, ap, ◌∙◌}
use Rattle.tp_bounds.specs.Changes.{with_lag}
use Rattle.tp_exec_machine.specs.Machine.{IsFresh}
use Rattle.tp_exec_machine.proofs.Ready.{fresh_new, fresh_lagged}
use Rattle.tp_exec_tests.proofs.again.networks.repaired.Goals as goal

pub bare-requires-clause-fresh : goal.bare-requires-clause-fresh
bare-requires-clause-fresh c =
    subst IsFresh (sym (c.set_lag.ensures.set ∙ ap (λ s. with_lag s 0 3) c.in_ok-net.ensures.setting)) (fresh_lagged _ 0 3 (fresh_new 2 100))
