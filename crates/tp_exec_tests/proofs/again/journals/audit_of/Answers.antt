use Rattle.std.proofs.Common.{sym, subst}
use Rattle.tp_exec_machine.specs.Machine.{IsFresh}
use Rattle.tp_exec_machine.proofs.Ready.{fresh_new}
use Rattle.tp_journal_pairs.proofs.SoundLemmas.{bare_is_new}
use Rattle.tp_exec_tests.proofs.again.journals.audit_of.Goals as goal

pub audit-requires-clause-new : goal.audit-requires-clause-new
audit-requires-clause-new c =
    bare_is_new c.bare-executive.result _ _ (subst IsFresh (sym c.in_ok-net.ensures) (fresh_new 2 100)) c.bare-executive.ensures
