use Rattle.std.proofs.Common.{◌∙◌, sym, ap}
use Rattle.std.specs.List.{list_any}
use Rattle.tp_task.specs.Event.{has, fluents_read}
use Rattle.tp_happen.proofs.Meets.{meets_map}
use Rattle.tp_happen.proofs.interfere.writes_read.Goals as goal

pub returns : goal.returns
returns c = c.some_is_read.ensures ∙ (ap (list_any (λ w. has (fluents_read c.args.b.now) w.fluent)) c.deref.ensures.value ∙ sym (meets_map (λ w. w.fluent) c.args.a.now.writes.items (fluents_read c.args.b.now)))
