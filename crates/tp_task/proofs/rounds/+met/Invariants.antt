-- What is left decides, since all before was of the kind that doesn't.
use Rattle.std.proofs.Common.{◌≡◌, drop}
use Rattle.tp_task.specs.Reach as spec
use Rattle.tp_task.specs.Rounds.{set_of, over}
use Rattle.tp_task.proofs.rounds.+met.Given as goal

abbrev pub invariant-are_met-loop-c : goal.invariant-are_met-loop-c
invariant-are_met-loop-c l = over l.all (λ c. spec.met (set_of l.reach) l.positive c) (drop l.c-index l.conds) ≡ over l.all (λ c. spec.met (set_of l.reach) l.positive c) l.conds
