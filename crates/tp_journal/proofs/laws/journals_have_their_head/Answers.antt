use Rattle.tp_journal.proofs.OtherHeads.{never_other}
use Rattle.tp_journal.proofs.laws.journals_have_their_head.Goals as goal

pub returns : goal.returns
returns c = never_other
