use Rattle.std.proofs.Common.{◌≡◌, true}
use Rattle.std.specs.List.{list_all}
use Rattle.tp_task_tests.specs.OfTask.{has_event}
use Rattle.tp_task_tests.proofs.happenings.events_of.Given as goal

abbrev pub invariant-loop-name : goal.invariant-loop-name
invariant-loop-name l = list_all (λ e. has_event l.task e.event) l.events.items ≡ true
