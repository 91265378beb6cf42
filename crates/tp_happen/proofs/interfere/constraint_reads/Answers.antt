use Rattle.std.proofs.Common.{◌∙◌, sym, ap}
use Rattle.std.specs.List.{list_any}
use Rattle.tp_task.specs.State.{fluents_of}
use Rattle.tp_task.specs.Event.{has}
use Rattle.tp_happen.proofs.Meets.{has_flat_map}
use Rattle.tp_happen.proofs.interfere.constraint_reads.Goals as goal

pub returns : goal.returns
returns c = c.some_limit_reads.ensures ∙ (ap (list_any (λ l. has (fluents_of l.value) c.args.fluent)) c.deref.ensures.value ∙ sym (has_flat_map (λ l. fluents_of l.value) c.args.event.now.constraint.items c.args.fluent))
