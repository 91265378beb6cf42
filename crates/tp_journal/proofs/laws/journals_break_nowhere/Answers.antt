use Rattle.tp_journal.proofs.WholeLines.{never_breaks}
use Rattle.tp_journal.proofs.laws.journals_break_nowhere.Goals as goal

pub returns : goal.returns
returns c = never_breaks
