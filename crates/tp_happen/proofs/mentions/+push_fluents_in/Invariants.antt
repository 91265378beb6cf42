use Rattle.std.proofs.Common.{◌≡◌, ◌++◌, drop}
use Rattle.std.specs.List.{flat_map}
use Rattle.tp_task.specs.State.{fluents_in}
use Rattle.tp_happen.proofs.mentions.+push_fluents_in.Given as goal

abbrev pub invariant-push_fluents_in_each-loop-c : goal.invariant-push_fluents_in_each-loop-c
invariant-push_fluents_in_each-loop-c l = (l.into.items ++ flat_map fluents_in (drop l.c-index l.conds)) ≡ (l.initial.into.items ++ flat_map fluents_in l.conds)
