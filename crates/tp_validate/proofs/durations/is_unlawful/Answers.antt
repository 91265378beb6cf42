use Rattle.std.proofs.Common.{◌≡◌, true, not, ◌&&◌, nat_le, None, is_some, List, sym, ap, ◌∙◌}
use Rattle.std.specs.List.{list_all}
use Rattle.tp_task.specs.declared.events.Limit.{Limit}
use Rattle.tp_task.specs.State.{value}
use Rattle.tp_task.specs.Verdict.{is_unlawful}
use Rattle.tp_happen.specs.Stored.{state_of}
use Rattle.tp_validate.specs.Constraints.{limit_holds}
use Rattle.tp_validate.proofs.Lawful.{unlawful_is}
use Rattle.tp_validate.proofs.durations.is_unlawful.Goals as goal

pub returns-in_ok-lawful-in-Durative-clause-ok : goal.returns-in_ok-lawful-in-Durative-clause-ok
returns-in_ok-lawful-in-Durative-clause-ok c =
    let s = c.args.state.now in
    let defined : list_all (λ (l : Limit). is_some (value (state_of s) None l.value)) c.in-Durative.start.constraint.items ≡ true =
    ap (λ (ls : List Limit). list_all (λ (l : Limit). is_some (value (state_of s) None l.value)) ls) (sym c.deref.ensures.value) ∙ (sym c.in_ok-constraint_defined-in-Durative.ensures.ok ∙ c.if-not-branch.false)
    in
    ap not (c.in_ok-lawful-in-Durative.ensures.ok ∙ ap (λ (ls : List Limit). nat_le 1 c.args.ticks && list_all (limit_holds s.scale (state_of s) c.args.ticks) ls) c.deref-in-Durative.ensures.value)
    ∙ (sym (unlawful_is s.scale (state_of s) c.args.ticks c.in-Durative.start c.in-Durative.field-1 c.in-Durative.field-2 defined)
    ∙ ap (is_unlawful s.scale (state_of s) c.args.ticks) (sym c.in-Durative.is))
