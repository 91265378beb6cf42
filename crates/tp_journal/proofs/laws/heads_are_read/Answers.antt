use Rattle.tp_journal.proofs.HeadForms.{head_read}
use Rattle.tp_journal.proofs.laws.heads_are_read.Goals as goal

pub returns : goal.returns
returns c = head_read
