use Rattle.std.proofs.Common.{sym, subst}
use Rattle.tp_exec_machine.specs.Machine.{IsFresh}
use Rattle.tp_exec_machine.proofs.Ready.{fresh_new}
use Rattle.tp_journal_pairs.proofs.SoundLemmas.{bare_is_new}
use Rattle.tp_journal_tests.proofs.failing.sessions.headed.Goals as goal

pub returns-clause-new : goal.returns-clause-new
returns-clause-new c =
    bare_is_new c.bare.result _ _ (subst IsFresh (sym c.in_ok-net.ensures) (fresh_new _ _)) c.bare.ensures
