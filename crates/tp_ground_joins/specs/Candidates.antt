-- Lists that have each binding under which an action may happen.
use Rattle.std.specs.Prelude.{◌≡◌, true, List}
use Rattle.tp_syntax_ast.specs.Actions.{Action}
use Rattle.tp_syntax_ast.specs.Problems.{Initial}
use Rattle.tp_task.specs.Bounds.{In}
use Rattle.tp_ground_bindings.specs.Bindings.{Universe}
use Rattle.tp_ground.specs.Reached.{Instance, instances}
use Rattle.tp_ground_joins.specs.Levels.{may_be}

-- each binding of some actions under which the action may happen
abbrev pub HasAllOf : Universe → List Action → List Initial → List Action → List Instance → Type 0
HasAllOf u as_ is some xs =
    (i : Instance)
    → In i (instances u some) → may_be as_ is i.action i.objects ≡ true → In i xs
