use Rattle.tp_task.specs.Adding.{Adds}
use Rattle.tp_task.specs.Rounds.{acts_of_bodies}
use Rattle.tp_task.proofs.rounds.spread.Given as goal

abbrev pub invariant-loop : goal.invariant-loop
invariant-loop l = Adds (acts_of_bodies l.actions) l.initial.reach l.reach
