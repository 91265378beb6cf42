use Rattle.std.proofs.Common.{rules, tests, [], sym, subst, ◌∙◌}
use Rattle.std.proofs.lemmas.Iterator.Splits.{YieldsList-from_slice_split}
use Rattle.std.proofs.lemmas.Iterator.Consumers.{YieldsList-at, YieldsList-end}
use Rattle.tp_agents.specs.Texts.{is_blank, TellsWord}
use Rattle.tp_agents.proofs.Words.{AreRead, read_none, blank_more, number_more, read_all, other_next}
use Rattle.tp_agents.proofs.reading.read_owners.Goals as goal

pub loop-word-init : goal.loop-word-init
loop-word-init c = subst (AreRead []) (sym c.new-agents.ensures.items) read_none

pub loop-word-preserved-then-is_empty : goal.loop-word-preserved-then-is_empty
loop-word-preserved-then-is_empty c =
    blank_more (λ w. w.now) c.loop-word.yielded c.in-Some.word c.loop-word.agents.items
    (sym c.is_empty.ensures ∙ c.if-is_empty.true) c.loop-word.invariant

pub loop-word-preserved : goal.loop-word-preserved
loop-word-preserved c =
    subst (AreRead _) (sym c.in_ok-push-in-Some-number.ensures.items)
    (number_more (λ w. w.now) c.loop-word.yielded c.in-Some.word c.loop-word.agents.items c.in-Some-number.agent
    (sym c.is_empty.ensures ∙ c.if-is_empty.false) (sym c.number.ensures ∙ c.in-Some-number.is) c.loop-word.invariant)

pub returns-in-None-number-clause-err : goal.returns-in-None-number-clause-err
returns-in-None-number-clause-err c =
    other_next
    (YieldsList-at c.into_iter-word-iterator.ensures.into_iter_gives
    (YieldsList-from_slice_split _ is_blank c.args.text.now (c.split-word-items.ensures.rest ∙ c.as_bytes.ensures.value)
    c.split-word-items.ensures.done c.split-word-items.ensures.closure (λ x b q k. search (rules, tests))))
    c.loop-word.yielded _ c.loop-word.yielded_by _ _ c.in-Some.word c.in-Some.is c.next.ensures.steps
    c.loop-word.agents.items (sym c.is_empty.ensures ∙ c.if-is_empty.false) (sym c.number.ensures ∙ c.in-None-number.is)
    c.loop-word.invariant c.other_word.result (subst (λ k. TellsWord k c.other_word.result) (cc) c.other_word.ensures)

pub returns-clause-ok : goal.returns-clause-ok
returns-clause-ok c =
    let all = YieldsList-end
    (YieldsList-at c.into_iter-word-iterator.ensures.into_iter_gives
    (YieldsList-from_slice_split _ is_blank c.args.text.now (c.split-word-items.ensures.rest ∙ c.as_bytes.ensures.value)
    c.split-word-items.ensures.done c.split-word-items.ensures.closure (λ x b q k. search (rules, tests))))
    c.loop-word.yielded _ c.loop-word.yielded_by _ _ c.in-None.is c.next.ensures.steps in
    read_all c.args.text.now _ c.new.result all.0 (subst (AreRead _) (cc) c.loop-word.invariant)
