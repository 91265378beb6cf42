use Rattle.tp_repair.proofs.LookLemmas.{add_looks_little}
use Rattle.tp_repair.proofs.looks.adds_look_at_few_edges.Goals as goal

pub returns : goal.returns
returns c = add_looks_little
