use Rattle.std.proofs.Common.{◌&&◌, not, ◌∙◌, sym, ap}
use Rattle.std.specs.List.{list_any}
use Rattle.tp_task.specs.Event.{has, is_additive, fluents_written}
use Rattle.tp_happen.proofs.Meets.{meets_filter}
use Rattle.tp_happen.proofs.interfere.sets_written.Goals as goal

pub returns : goal.returns
returns c = c.some_set_is_written.ensures ∙ (ap (list_any (λ w. not (is_additive w.change) && has (fluents_written c.args.b.now) w.fluent)) c.deref.ensures.value ∙ sym (meets_filter (λ w. w.fluent) (λ w. not (is_additive w.change)) c.args.a.now.writes.items (fluents_written c.args.b.now)))
