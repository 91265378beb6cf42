use Rattle.std.proofs.Common.{◌≡◌, ◌<◌, ℕ, List, false, true, length, get_or, set, sym, subst, ◌∙◌, rules, arith}
use Rattle.std.proofs.lemmas.List.{get_or_read}
use Rattle.tp_exec_machine.specs.Orders.{AreListed}
use Rattle.tp_exec_machine.proofs.Listed.{listed_more, marked_here, marked_still}
use Rattle.tp_exec_machine.proofs.firsts.put_once.Goals as goal
use Rattle.tp_exec_machine.proofs.firsts.put_once.Goals.{else-place-len-via-then-place-len+else-not-index, else-place-len-via-else-place-len}

pub returns-in_ok-push-clause-listed : goal.returns-in_ok-push-clause-listed
returns-in_ok-push-clause-listed c =
    let there = c.args.there.now.items in
    let lt : c.args.place < length there = omega (arith, c.if-place-len.true, c.len.ensures, c.args.there.now.ok.0) in
    let free : get_or there c.args.place false ≡ false = search rules in
    subst (λ (xs : List ℕ). AreListed (set there c.args.place true) xs) (sym c.in_ok-push.ensures.items)
    (listed_more there c.args.order.now.items c.args.place c.requires lt free)

pub returns-in_ok-push-clause-here : goal.returns-in_ok-push-clause-here
returns-in_ok-push-clause-here c = λ lt. marked_here c.args.there.now.items c.args.place lt

pub returns-in_ok-push-clause-stays : goal.returns-in_ok-push-clause-stays
returns-in_ok-push-clause-stays c =
    let lt : c.args.place < length c.args.there.now.items = omega (arith, c.if-place-len.true, c.len.ensures, c.args.there.now.ok.0) in
    λ p h. marked_still c.args.there.now.items c.args.place p lt h

pub returns-else-place-len-clause-here : goal.returns-else-place-len-clause-here
returns-else-place-len-clause-here c =
    elim c.else-place-len.branch [
      | else-place-len-via-then-place-len+else-not-index w ↦ λ lt. (let is : w.index.result.now ≡ true = search rules in sym (get_or_read c.args.there.now.items c.args.place w.index.result.now lt w.index.ensures false) ∙ is)
      | else-place-len-via-else-place-len w ↦ λ lt. absurd (let no : ⊥ = omega (arith, lt, w.if-place-len.false, c.len.ensures, c.args.there.now.ok.0) in no)
    ]
