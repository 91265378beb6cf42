use Rattle.std.proofs.Common.{sym, ap₂, ◌∙◌}
use Rattle.tp_search.specs.Possible.{both_interfere}
use Rattle.tp_search.proofs.rows.interfere.Goals as goal

pub returns-in-Some-Some : goal.returns-in-Some-Some
returns-in-Some-Some c = c.interferes.ensures ∙ ap₂ both_interfere (sym c.in-Some-Some.is-0 ∙ c.event-first.ensures.value) (sym c.in-Some-Some.is-1 ∙ c.event-second.ensures.value)
