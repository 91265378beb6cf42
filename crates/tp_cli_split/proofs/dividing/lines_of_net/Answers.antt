use Rattle.std.proofs.Common.{subst, sym}
use Rattle.tp_agents.specs.Splits.{IsUnbegun}
use Rattle.tp_cli_split.proofs.SplitLemmas.{net_unbegun}
use Rattle.tp_cli_split.proofs.dividing.lines_of_net.Goals as goal

pub lines_of-requires : goal.lines_of-requires
lines_of-requires g c = subst IsUnbegun (sym c.in-Ok.ensures) (net_unbegun c.args.network.now)
