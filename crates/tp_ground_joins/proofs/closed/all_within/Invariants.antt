use Rattle.std.proofs.Common.{◌≡◌, drop}
use Rattle.std.specs.List.{list_all}
use Rattle.tp_task.specs.Rounds.{set_of}
use Rattle.tp_ground_joins.specs.Closed.{is_within}
use Rattle.tp_ground_joins.proofs.closed.all_within.Given as goal

abbrev pub invariant-loop-body : goal.invariant-loop-body
invariant-loop-body l = list_all (is_within (set_of l.reach)) (drop l.body-index l.bodies) ≡ list_all (is_within (set_of l.reach)) l.bodies
