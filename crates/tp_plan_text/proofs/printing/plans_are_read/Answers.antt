use Rattle.tp_plan_text.proofs.OnPrinted.{plans_read}
use Rattle.tp_plan_text.proofs.printing.plans_are_read.Goals as goal

pub returns : goal.returns
returns c = plans_read
