-- What is left mentions it if anything does.
use Rattle.std.proofs.Common.{◌≡◌, drop}
use Rattle.std.specs.List.{list_any}
use Rattle.tp_task.specs.State.{atoms_in}
use Rattle.tp_task.specs.Event.{has}
use Rattle.tp_happen.proofs.interfere.+mentions_atom.Given as goal

abbrev pub invariant-some_mentions_atom-loop-c : goal.invariant-some_mentions_atom-loop-c
invariant-some_mentions_atom-loop-c l = list_any (λ c. has (atoms_in c) l.atom) (drop l.c-index l.conds) ≡ list_any (λ c. has (atoms_in c) l.atom) l.conds
