-- Whether runs are joined.
use Rattle.std.proofs.Common.{◌≡◌, ℕ, ◌<◌, ◌≤◌, List, length, get_or, arith}
use Rattle.tp_exec_machine.specs.declared.command.Report.{Report}
use Rattle.tp_agents.specs.Owners.{agent_count}
use Rattle.tp_agents.specs.Joined.{IsComplete, AreComplete}

pub all_complete : (owners : List ℕ) (reports : List Report) (k : ℕ) → length reports ≡ agent_count owners → length reports ≤ k → ((j : ℕ) (d : Report) → j < k → IsComplete (get_or reports j d)) → AreComplete owners reports
all_complete owners reports k count to each = (count, λ j d lt. each j d (omega arith))
