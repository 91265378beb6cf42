use Rattle.std.proofs.Common.{◌≡◌, true, sym, subst, ◌∙◌}
use Rattle.std.proofs.lemmas.Result.{IfOk-weaker}
use Rattle.tp_happen.specs.Stored.{state_of}
use Rattle.tp_search.specs.AtOnce.{CanHappen}
use Rattle.tp_search.specs.Possible.{CanBegin, alone}
use Rattle.tp_search.proofs.Begins.{single_can}
use Rattle.tp_search.proofs.at_once.can_begin.Goals as goal

pub returns-in-Some-clause-yes : goal.returns-in-Some-clause-yes
returns-in-Some-clause-yes c =
    let t = c.args.task.now in
    let a = c.args.action in
    let state = c.args.state.now in
    let only = c.in-Some.only in
    IfOk-weaker c.happens_alone.result (λ r. r ≡ true → CanHappen state.scale (state_of state) (alone only)) (λ r. r ≡ true → CanBegin t a)
    (λ r can yes. single_can t a only (sym c.in-Some.is ∙ c.event.ensures.value) (subst (λ s. CanHappen s.scale (state_of s) (alone only)) c.requires (can yes))) c.happens_alone.ensures.yes
