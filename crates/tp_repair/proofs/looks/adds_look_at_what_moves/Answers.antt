use Rattle.tp_repair.proofs.LookLemmas.{add_looks_nearby}
use Rattle.tp_repair.proofs.looks.adds_look_at_what_moves.Goals as goal

pub returns : goal.returns
returns c = add_looks_nearby
