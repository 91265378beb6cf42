use Rattle.tp_plan_text.proofs.OnWritten.{forms_written}
use Rattle.tp_plan_text.proofs.forms.forms_are_written.Goals as goal

pub returns : goal.returns
returns c = forms_written
