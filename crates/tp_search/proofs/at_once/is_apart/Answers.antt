use Rattle.std.proofs.Common.{◌≡◌, false, ◌||◌, not, sym, ap, ap₂, subst, ◌∙◌, arith}
use Rattle.std.specs.List.{list_any}
use Rattle.std.proofs.lemmas.List.{take_all}
use Rattle.std.proofs.lemmas.List.Folds.{list_any_more, list_any_at}
use Rattle.tp_search.specs.Possible.{interfere}
use Rattle.tp_search.proofs.at_once.is_apart.Goals as goal

pub loop-other-preserved : goal.loop-other-preserved
loop-other-preserved c among h i =
    list_any_more (λ b. interfere c.args.task.now b c.args.action) c.args.chosen.now c.loop-other.other-index 0 (omega arith)
    ∙ ap₂ ◌||◌ (c.loop-other.invariant among h i) (sym (c.meet.ensures among h i) ∙ c.if-meet.false)

pub returns-then-meet : goal.returns-then-meet
returns-then-meet c among h i =
    ap not (sym (list_any_at (λ b. interfere c.args.task.now b c.args.action) c.args.chosen.now c.loop-other.other-index 0 (omega arith) (sym (c.meet.ensures among h i) ∙ c.if-meet.true)))

pub returns : goal.returns
returns c among h i =
    ap not (sym (subst (λ xs. list_any (λ b. interfere c.args.task.now b c.args.action) xs ≡ false) (take_all c.loop-other.other-index c.args.chosen.now (omega (arith, c.loop-other-test.false))) (c.loop-other.invariant among h i)))
