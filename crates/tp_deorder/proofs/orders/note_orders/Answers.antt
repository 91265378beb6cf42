use Rattle.std.proofs.Common.{◌≡◌, ◌<◌, ◌++◌, List, length, OnOk, IfErr, ap, ◌∙◌, subst}
use Rattle.tp_bounds.specs.declared.Bound.{Bound}
use Rattle.tp_deorder.specs.Answers.{OnTooMany}
use Rattle.tp_deorder.specs.Kept.{rows_of}
use Rattle.tp_deorder.proofs.OnRows.{kept_told}
use Rattle.tp_deorder.proofs.orders.note_orders.Goals as goal

pub returns-clause-ok : goal.returns-clause-ok
returns-clause-ok c =
    subst (λ (bs : List Bound). OnOk c.note_each.result (c.note_each.new.bounds.items ≡ c.args.bounds.now.items ++ bs))
    (kept_told c.args.events.now c.requires.numbered c.deref.result.now (ap rows_of c.deref.ensures.value ∙ c.in_ok-rows.ensures)) c.note_each.ensures.ok

pub returns-clause-err : goal.returns-clause-err
returns-clause-err c =
    subst (λ (bs : List Bound). IfErr c.note_each.result (λ e. OnTooMany e (c.args.most < length (c.args.bounds.now.items ++ bs))))
    (kept_told c.args.events.now c.requires.numbered c.deref.result.now (ap rows_of c.deref.ensures.value ∙ c.in_ok-rows.ensures)) c.note_each.ensures.err
