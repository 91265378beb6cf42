use Rattle.std.proofs.Common.{◌≡◌, ◌++◌, drop}
use Rattle.std.specs.List.{flat_map}
use Rattle.tp_task.specs.State.{atoms_in}
use Rattle.tp_happen.proofs.mentions.+push_atoms.Given as goal

abbrev pub invariant-push_atoms_of_each-loop-c : goal.invariant-push_atoms_of_each-loop-c
invariant-push_atoms_of_each-loop-c l = (l.into.items ++ flat_map atoms_in (drop l.c-index l.conds)) ≡ (l.initial.into.items ++ flat_map atoms_in l.conds)
