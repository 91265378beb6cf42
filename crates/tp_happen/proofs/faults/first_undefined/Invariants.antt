use Rattle.std.proofs.Common.{◌≡◌, not, drop}
use Rattle.std.specs.List.{list_all, position_from}
use Rattle.tp_task.specs.Happens.{is_defined}
use Rattle.tp_happen.specs.Stored.{state_of}
use Rattle.tp_happen.specs.Terms.{terms_small}
use Rattle.tp_happen.proofs.faults.first_undefined.Given as goal

abbrev pub invariant-loop-i : goal.invariant-loop-i
invariant-loop-i l =
    record {
      first : position_from (λ t. not (is_defined l.state.scale (state_of l.state) t)) l.i (drop l.i l.events) ≡ position_from (λ t. not (is_defined l.state.scale (state_of l.state) t)) 0 l.events;
      small : list_all (terms_small l.state.scale (state_of l.state)) (drop l.i l.events) ≡ list_all (terms_small l.state.scale (state_of l.state)) l.events;
    }
