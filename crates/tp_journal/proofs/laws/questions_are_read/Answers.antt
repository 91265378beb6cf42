use Rattle.tp_journal.proofs.AnswerForms.{question_read}
use Rattle.tp_journal.proofs.laws.questions_are_read.Goals as goal

pub returns : goal.returns
returns c = question_read
