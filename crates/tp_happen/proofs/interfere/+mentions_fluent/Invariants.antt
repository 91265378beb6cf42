-- What is left mentions it if anything does.
use Rattle.std.proofs.Common.{◌≡◌, drop}
use Rattle.std.specs.List.{list_any}
use Rattle.tp_task.specs.State.{fluents_in}
use Rattle.tp_task.specs.Event.{has}
use Rattle.tp_happen.proofs.interfere.+mentions_fluent.Given as goal

abbrev pub invariant-some_mentions_fluent-loop-c : goal.invariant-some_mentions_fluent-loop-c
invariant-some_mentions_fluent-loop-c l = list_any (λ c. has (fluents_in c) l.fluent) (drop l.c-index l.conds) ≡ list_any (λ c. has (fluents_in c) l.fluent) l.conds
