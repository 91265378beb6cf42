use Rattle.tp_text.proofs.OnTrees.{spells_one_tree}
use Rattle.tp_text.proofs.law.one_tree.Goals as goal

pub returns : goal.returns
returns c = spells_one_tree
