use Rattle.tp_journal_pairs.proofs.WriteLemmas.{new_in_force}
use Rattle.tp_journal_pairs.proofs.page.head_text.Goals as goal

pub head_on_page-requires : goal.head_on_page-requires
head_on_page-requires g c = new_in_force c.args.executive.now c.requires
