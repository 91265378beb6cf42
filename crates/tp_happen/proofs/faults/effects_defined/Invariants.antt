use Rattle.std.proofs.Common.{◌≡◌, ◌&&◌, ◌||◌, is_some, drop}
use Rattle.std.specs.List.{list_all}
use Rattle.tp_task.specs.State.{value}
use Rattle.tp_task.specs.Happens.{is_assign}
use Rattle.tp_happen.specs.Small.{values_small}
use Rattle.tp_happen.specs.Stored.{state_of}
use Rattle.tp_happen.proofs.faults.effects_defined.Given as goal

abbrev pub invariant-loop-effect : goal.invariant-loop-effect
invariant-loop-effect l =
    record {
      defined : (l.all && list_all (λ w. is_some (value (state_of l.state) l.duration w.value) && (is_assign w.change || is_some ((state_of l.state).number w.fluent))) (drop l.effect-index l.effects)) ≡ list_all (λ w. is_some (value (state_of l.state) l.duration w.value) && (is_assign w.change || is_some ((state_of l.state).number w.fluent))) l.effects;
      small : list_all (λ w. values_small (state_of l.state) l.duration w.value) (drop l.effect-index l.effects) ≡ list_all (λ w. values_small (state_of l.state) l.duration w.value) l.effects;
    }
