-- What the writes so far, told by the table, and those that are left mix is what all of them mix.
use Rattle.std.proofs.Common.{◌≡◌, ◌||◌, None, get_or, drop}
use Rattle.tp_task.specs.Event.{mixes_in}
use Rattle.tp_happen.proofs.OnClashes.{some_clashes}
use Rattle.tp_happen.proofs.clashes.mixes.Given as goal

abbrev pub invariant-loop-effect : goal.invariant-loop-effect
invariant-loop-effect l = (some_clashes (λ f. get_or l.table f None) (drop l.effect-index l.effects) || mixes_in (drop l.effect-index l.effects)) ≡ mixes_in l.effects
