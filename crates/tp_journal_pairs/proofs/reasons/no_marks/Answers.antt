use Rattle.tp_journal_pairs.proofs.MarkLemmas.{all_false}
use Rattle.tp_journal_pairs.proofs.reasons.no_marks.Goals as goal

pub returns : goal.returns
returns c = λ k. all_false 1_025 k
