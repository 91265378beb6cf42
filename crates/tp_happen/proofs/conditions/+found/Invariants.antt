-- What is found so far and what is left give the whole.
use Rattle.std.proofs.Common.{◌≡◌, drop}
use Rattle.tp_happen.specs.Judged.{of_all, of_any, of_both, of_either}
use Rattle.tp_happen.specs.Stored.{state_of}
use Rattle.tp_happen.proofs.conditions.+found.Given as goal

abbrev pub decreases-found : goal.decreases-found
decreases-found l = goal.size-found l

abbrev pub invariant-loop-c : goal.invariant-loop-c
invariant-loop-c l = of_both l.all (of_all (state_of l.state) (drop l.c-index l.c-items)) ≡ of_all (state_of l.state) l.c-items

abbrev pub invariant-loop-c-2 : goal.invariant-loop-c-2
invariant-loop-c-2 l = of_either l.any (of_any (state_of l.state) (drop l.c-index l.c-items)) ≡ of_any (state_of l.state) l.c-items
