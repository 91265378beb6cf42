use Rattle.std.proofs.Common.{◌==◌, ◌∙◌, sym, ap}
use Rattle.std.specs.List.{list_any}
use Rattle.tp_happen.proofs.Meets.{written_is}
use Rattle.tp_happen.proofs.interfere.writes.Goals as goal

pub returns : goal.returns
returns c = c.some_effect_writes.ensures ∙ (ap (list_any (λ w. w.fluent == c.args.fluent)) c.deref.ensures.value ∙ sym (written_is c.args.event.now c.args.fluent))
