use Rattle.std.proofs.Common.{◌≡◌}
use Rattle.tp_ground_bindings.specs.Views.{universe_view}
use Rattle.tp_ground_bindings.proofs.noting.+note_part.Given as goal

abbrev pub invariant-note_parts-loop-part : goal.invariant-note_parts-loop-part
invariant-note_parts-loop-part g l = universe_view l.universe ≡ universe_view l.initial.universe
