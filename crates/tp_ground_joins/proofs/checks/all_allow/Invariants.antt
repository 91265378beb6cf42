use Rattle.std.proofs.Common.{◌≡◌, drop, map}
use Rattle.tp_ground_joins.specs.Checks.{all_allow}
use Rattle.tp_ground_joins.specs.Views.{keyed_view}
use Rattle.tp_ground_joins.proofs.checks.all_allow.Given as goal

abbrev pub invariant-loop-check : goal.invariant-loop-check
invariant-loop-check l = all_allow (drop l.check-index l.checks) (map keyed_view l.row) ≡ all_allow l.checks (map keyed_view l.row)
