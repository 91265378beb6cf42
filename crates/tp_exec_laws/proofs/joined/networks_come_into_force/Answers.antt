use Rattle.std.proofs.Common.{length, None, refl}
use Rattle.std.proofs.lemmas.List.{length-replicate}
use Rattle.tp_bounds.specs.Changes.{fresh}
use Rattle.tp_exec_laws.proofs.NetsInForce.{come_into_force}
use Rattle.tp_exec_laws.proofs.joined.networks_come_into_force.Goals as goal

pub returns-clause-over : goal.returns-clause-over
returns-clause-over c = λ s n events horizon. come_into_force s n events horizon

pub returns-clause-alone : goal.returns-clause-alone
returns-clause-alone c = λ n.
    come_into_force (fresh (length n.events.items) n.horizon) n (length-replicate (length n.events.items) None) refl
