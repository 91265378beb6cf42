use Rattle.tp_plan_text.proofs.OnForms.{names_seen}
use Rattle.tp_plan_text.proofs.forms.are_names.Goals as goal

pub returns-in-len1-up : goal.returns-in-len1-up
returns-in-len1-up c = names_seen _ _ c.in-len1-up.len_at_least c.all_names.ensures
