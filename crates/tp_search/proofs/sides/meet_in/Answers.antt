use Rattle.std.proofs.Common.{◌≡◌, sym, ap, ◌∙◌}
use Rattle.std.proofs.lemmas.Result.{IfOk-weaker}
use Rattle.tp_happen.specs.Meetings.{meet}
use Rattle.tp_search.specs.Possible.{only_event}
use Rattle.tp_search.specs.Sides.{meet_with}
use Rattle.tp_search.proofs.sides.meet_in.Goals as goal

pub returns-in-Some : goal.returns-in-Some
returns-in-Some c e is =
    let way = c.args.side.now.way in
    let only = c.in-Some.only in
    IfOk-weaker c.meets.result (λ b. b ≡ meet way e only) (λ b. b ≡ meet_with way e (only_event c.args.task.now c.args.other))
    (λ b h. h ∙ ap (meet_with way e) (sym c.in-Some.is ∙ c.event.ensures.value)) (c.meets.ensures e is)

pub returns-in-None : goal.returns-in-None
returns-in-None c e is = ap (meet_with c.args.side.now.way e) (sym c.in-None.is ∙ c.event.ensures.value)
