use Rattle.std.proofs.Common.{sym}
use Rattle.tp_agents.proofs.Apart.{all_known}
use Rattle.tp_agents.proofs.interleaving.perform_each.Goals as goal

pub perform_known-requires : goal.perform_known-requires
perform_known-requires g c = all_known _ 0 _ (sym c.in_default.ensures)
