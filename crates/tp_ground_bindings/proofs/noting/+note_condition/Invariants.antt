use Rattle.std.proofs.Common.{◌≡◌}
use Rattle.tp_ground_bindings.specs.Views.{universe_view}
use Rattle.tp_ground_bindings.proofs.noting.+note_condition.Given as goal

abbrev pub invariant-note_conditions-loop-cond : goal.invariant-note_conditions-loop-cond
invariant-note_conditions-loop-cond l = universe_view l.universe ≡ universe_view l.initial.universe
