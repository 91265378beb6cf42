use Rattle.std.proofs.Common.{◌≡◌}
use Rattle.tp_ground_bindings.specs.Views.{universe_view}
use Rattle.tp_ground_bindings.proofs.noting.note_variables.Given as goal

abbrev pub invariant-loop-variable : goal.invariant-loop-variable
invariant-loop-variable l = universe_view l.universe ≡ universe_view l.initial.universe
