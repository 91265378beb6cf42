use Rattle.tp_journal.proofs.AnswerForms.{has_the_form}
use Rattle.tp_journal.proofs.laws.answers_have_the_form.Goals as goal

pub returns : goal.returns
returns c = has_the_form
