use Rattle.std.proofs.Common.{◌≡◌, true, sym, ap, subst, ◌∙◌}
use Rattle.tp_validate.specs.OfTask.{IsOfTask}
use Rattle.tp_search.specs.Plans.{is_plan_within}
use Rattle.tp_search.proofs.Within.{is_plan, is_of_task, certifies, each_found}
use Rattle.tp_search.proofs.certify.certified.Goals as goal

pub new-requires : goal.new-requires
new-requires c =
    let t = c.args.task.now in
    is_plan t c.args.horizon c.args.steps.items (sym (ap (is_plan_within t c.args.horizon) c.deref.ensures.value) ∙ (sym c.is_plan_within.ensures ∙ c.if-is_plan_within.true))

pub judged-requires : goal.judged-requires
judged-requires c =
    let t = c.args.task.now in
    subst (IsOfTask t) (sym c.new.ensures) (is_of_task t c.args.horizon c.args.steps.items (sym (ap (is_plan_within t c.args.horizon) c.deref.ensures.value) ∙ (sym c.is_plan_within.ensures ∙ c.if-is_plan_within.true)))

pub returns-then-is_plan_within : goal.returns-then-is_plan_within
returns-then-is_plan_within c =
    let t = c.args.task.now in
    let h = c.args.horizon in
    let within : is_plan_within t h c.new.result ≡ true = subst (λ xs. is_plan_within t h xs ≡ true) (sym c.new.ensures) (sym (ap (is_plan_within t h) c.deref.ensures.value) ∙ (sym c.is_plan_within.ensures ∙ c.if-is_plan_within.true)) in
    each_found _ _ (λ v p. certifies t h c.new.result within v p) c.judged.result c.judged.ensures
