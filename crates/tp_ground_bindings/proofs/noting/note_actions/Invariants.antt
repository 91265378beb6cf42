use Rattle.std.proofs.Common.{◌≡◌}
use Rattle.tp_ground_bindings.specs.Views.{universe_view}
use Rattle.tp_ground_bindings.proofs.noting.note_actions.Given as goal

abbrev pub invariant-loop-action : goal.invariant-loop-action
invariant-loop-action l = universe_view l.universe ≡ universe_view l.initial.universe
