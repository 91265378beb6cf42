use Rattle.tp_agents.proofs.Apart.{keeps_apart}
use Rattle.tp_agents.proofs.interleaving.executives_keep_apart.Goals as goal

pub returns : goal.returns
returns c = keeps_apart
