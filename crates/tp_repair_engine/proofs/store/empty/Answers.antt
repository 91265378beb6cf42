use Rattle.tp_repair_engine.specs.declared.store.Direction.TheVariants.{Up, Down}
use Rattle.tp_repair_engine.proofs.Halves.{halves_none, none_at}
use Rattle.tp_repair_engine.proofs.store.empty.Goals as goal

pub returns-clause-halves_in : goal.returns-clause-halves_in
returns-clause-halves_in c = halves_none Up _ c.in_ok-into.into.items (none_at _ c.new.ensures.empty) c.in_ok-into.ensures.empty

pub returns-clause-halves_out : goal.returns-clause-halves_out
returns-clause-halves_out c = halves_none Down _ c.in_ok-out.out.items (none_at _ c.new.ensures.empty) c.in_ok-out.ensures.empty
