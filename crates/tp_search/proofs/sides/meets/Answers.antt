use Rattle.std.proofs.Common.{◌≡◌, true, false, sym, ap, subst, ◌∙◌}
use Rattle.std.specs.List.{list_any}
use Rattle.tp_happen.specs.Sets.{has_number}
use Rattle.tp_search.proofs.OnSides.{met_by_other, done_by_other}
use Rattle.tp_search.proofs.sides.meets.Goals as goal

pub returns-then-has_any : goal.returns-then-has_any
returns-then-has_any c e is =
    met_by_other e c.args.other.now c.args.side.now is
    (subst (λ ns. list_any (has_number c.args.side.now.done) ns ≡ true) (c.deref.ensures.value ∙ c.in_ok-met.ensures) (sym c.has_any.ensures ∙ c.if-has_any.true))

pub returns : goal.returns
returns c e is =
    c.has_any-2.ensures
    ∙ (ap (list_any (has_number c.args.side.now.met)) (c.deref-2.ensures.value ∙ c.in_ok-done.ensures)
    ∙ done_by_other e c.args.other.now c.args.side.now is
    (subst (λ ns. list_any (has_number c.args.side.now.done) ns ≡ false) (c.deref.ensures.value ∙ c.in_ok-met.ensures) (sym c.has_any.ensures ∙ c.if-has_any.false)))
