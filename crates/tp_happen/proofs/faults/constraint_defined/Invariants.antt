use Rattle.std.proofs.Common.{◌≡◌, ◌&&◌, is_some, drop, None}
use Rattle.std.specs.List.{list_all}
use Rattle.tp_task.specs.State.{value}
use Rattle.tp_happen.specs.Small.{values_small}
use Rattle.tp_happen.specs.Stored.{state_of}
use Rattle.tp_happen.proofs.faults.constraint_defined.Given as goal

abbrev pub invariant-loop-limit : goal.invariant-loop-limit
invariant-loop-limit l =
    record {
      defined : (l.all && list_all (λ x. is_some (value (state_of l.state) None x.value)) (drop l.limit-index l.constraint)) ≡ list_all (λ x. is_some (value (state_of l.state) None x.value)) l.constraint;
      small : list_all (λ x. values_small (state_of l.state) None x.value) (drop l.limit-index l.constraint) ≡ list_all (λ x. values_small (state_of l.state) None x.value) l.constraint;
    }
