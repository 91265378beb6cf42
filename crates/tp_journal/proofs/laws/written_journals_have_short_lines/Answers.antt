use Rattle.tp_journal.proofs.Accepted.{written_short}
use Rattle.tp_journal.proofs.laws.written_journals_have_short_lines.Goals as goal

pub returns : goal.returns
returns c = written_short
