use Rattle.tp_journal.proofs.PairForms.{pairs_form}
use Rattle.tp_journal.proofs.laws.pairs_have_the_form.Goals as goal

pub returns : goal.returns
returns c = pairs_form
