use Rattle.std.proofs.Common.{Bool, List, map, ap₂, subst, ◌∙◌}
use Rattle.tp_syntax_ast.specs.DomainViews.{action_view, initial_view}
use Rattle.tp_ground_bindings.specs.Rows.{names_of}
use Rattle.tp_ground_bindings.specs.Views.{universe_view}
use Rattle.tp_ground.specs.Instances.{instance_view}
use Rattle.tp_ground.specs.declared.instances.Instance as code
use Rattle.tp_ground_joins.specs.Closed.{AreMarked}
use Rattle.tp_ground_joins.specs.Joined.{picked, words_seen}
use Rattle.tp_ground_joins.proofs.OnPicked.{useful_of}
use Rattle.tp_ground_joins.proofs.joined.useful_among.Goals as goal

pub returns : goal.returns
returns c = λ are.
    let u = universe_view c.args.universe.now in
    let is = map initial_view c.args.initial.now in
    let marks = c.in_ok-marked.marked.marks.items in
    useful_of u (map action_view c.args.actions.now) is c.in_ok-found.found.items marks (map names_of c.in_ok-words.words.items) c.in_ok-found.ensures
    (subst (λ (ys : List code.Instance). AreMarked u is (map instance_view ys) marks) c.as_slice-some.ensures.value (c.in_ok-marked.ensures are))
    (c.in_ok-words.ensures ∙ ap₂ (λ (ms : List Bool) (ys : List code.Instance). picked words_seen ms ys) c.as_slice-marks.ensures.value c.as_slice-some.ensures.value)
