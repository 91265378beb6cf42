use Rattle.std.proofs.Common.{sym, ◌∙◌}
use Rattle.std.proofs.lemmas.Result.{IfOk-weaker}
use Rattle.tp_search.specs.Sides.{AreSides, AreSidesOf}
use Rattle.tp_search.proofs.OnSides.{sides_of_action, no_sides}
use Rattle.tp_search.proofs.sides.sides_of.Goals as goal

pub returns-in-Some : goal.returns-in-Some
returns-in-Some c =
    let t = c.args.task.now in
    let only = c.in-Some.only in
    IfOk-weaker c.sides_of_event.result (λ v. AreSides only v.items) (λ v. AreSidesOf t c.args.action v.items)
    (λ v h. sides_of_action t c.args.action only v.items (sym c.in-Some.is ∙ c.event.ensures.value) h) c.sides_of_event.ensures

pub returns-in-None : goal.returns-in-None
returns-in-None c = no_sides c.args.task.now c.args.action _ (sym c.in-None.is ∙ c.event.ensures.value) c.new.ensures.items
