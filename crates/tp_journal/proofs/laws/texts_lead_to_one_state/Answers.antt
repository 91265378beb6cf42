use Rattle.tp_journal.proofs.OneRuns.{one_state}
use Rattle.tp_journal.proofs.laws.texts_lead_to_one_state.Goals as goal

pub returns : goal.returns
returns c = one_state
