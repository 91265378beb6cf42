use Rattle.tp_journal.proofs.Accepted.{run_accepted}
use Rattle.tp_journal.proofs.laws.journals_are_accepted.Goals as goal

pub returns : goal.returns
returns c = run_accepted
