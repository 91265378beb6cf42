use Rattle.tp_journal.proofs.HeadForms.{journal_read}
use Rattle.tp_journal.proofs.laws.journals_have_the_form.Goals as goal

pub returns : goal.returns
returns c = journal_read
