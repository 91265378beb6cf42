use Rattle.tp_journal.proofs.LineSizes.{journal_short}
use Rattle.tp_journal.proofs.laws.journals_have_short_lines.Goals as goal

pub returns : goal.returns
returns c = journal_short
