use Rattle.tp_journal.proofs.Accepted.{written_accepted}
use Rattle.tp_journal.proofs.laws.written_journals_are_accepted.Goals as goal

pub returns : goal.returns
returns c = written_accepted
