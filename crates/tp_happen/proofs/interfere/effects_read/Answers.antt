use Rattle.std.proofs.Common.{◌∙◌, sym, ap}
use Rattle.std.specs.List.{list_any}
use Rattle.tp_task.specs.State.{fluents_of}
use Rattle.tp_task.specs.Event.{has}
use Rattle.tp_happen.proofs.Meets.{has_flat_map}
use Rattle.tp_happen.proofs.interfere.effects_read.Goals as goal

pub returns : goal.returns
returns c = c.some_effect_reads.ensures ∙ (ap (list_any (λ w. has (fluents_of w.value) c.args.fluent)) c.deref.ensures.value ∙ sym (has_flat_map (λ w. fluents_of w.value) c.args.event.now.writes.items c.args.fluent))
