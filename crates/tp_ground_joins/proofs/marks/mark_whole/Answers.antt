use Rattle.std.proofs.Common.{◌<◌, ℕ, Bool, List, map, sym, ap, subst, ◌∙◌}
use Rattle.tp_syntax_ast.specs.DomainViews.{initial_view}
use Rattle.tp_task.specs.declared.events.Body.{Body}
use Rattle.tp_ground_bindings.specs.Views.{universe_view}
use Rattle.tp_ground.specs.Initially.{true_at}
use Rattle.tp_ground.specs.declared.beginning.NumberedInitial.{NumberedInitial}
use Rattle.tp_ground.specs.Instances.{instance_view}
use Rattle.tp_ground_joins.specs.Closed.{AreMarkedFrom}
use Rattle.tp_ground_joins.proofs.OnClosed.{marked_from}
use Rattle.tp_ground_joins.proofs.marks.mark_whole.Goals as goal

pub returns : goal.returns
returns c = λ are.
    let t = c.number_all.new.numbering in
    let l = c.in_ok-lowered.lowered in
    let first = c.in_ok-first.first.items in
    let marks = c.in_ok-marked.field-0.marks.items in
    marked_from (universe_view c.args.universe.now) (map initial_view c.args.initial.now) (map instance_view c.args.some.now) t l c.in_ok-lowered.ensures first
    (c.in_ok-first.ensures.length ∙ c.atom_count.ensures.count)
    (λ j lt. c.in_ok-first.ensures.truths j (subst (λ (n : ℕ). j < n) (sym c.atom_count.ensures.count) lt) ∙ ap (λ (es : List NumberedInitial). true_at es j) c.deref.ensures.value)
    marks
    (subst (λ (bs : List Body). AreMarkedFrom first bs marks) c.as_slice-bodies.ensures.value
    (subst (λ (fs : List Bool). AreMarkedFrom fs c.as_slice-bodies.result.now marks) c.as_slice-told.ensures.value (c.in_ok-marked.ensures are)))
