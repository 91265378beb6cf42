use Rattle.tp_journal.proofs.OneRuns.{never_wrong}
use Rattle.tp_journal.proofs.laws.journals_are_never_wrong.Goals as goal

pub returns : goal.returns
returns c = never_wrong
