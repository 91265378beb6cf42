use Rattle.std.proofs.Common.{List, Vec, Global, map, sym, ap, subst, ◌∙◌}
use Rattle.std.specs.Option.{IfSome}
use Rattle.std.specs.Borrow.{Bor}
use Rattle.tp_syntax_ast.specs.DomainViews.{action_view, initial_view}
use Rattle.tp_syntax_ast.specs.declared.term.Atom.{Atom}
use Rattle.tp_task.specs.Bounds.{In}
use Rattle.tp_ground_laws.specs.Needed.{needed}
use Rattle.tp_ground_joins.specs.Facts.{fact_seen}
use Rattle.tp_ground_joins.specs.Levels.{AreStatic, IsStatic}
use Rattle.tp_ground_joins.specs.declared.levels.Static.{Static}
use Rattle.tp_ground_joins.proofs.OnLevels.{got_in, static_holds, more_static}
use Rattle.tp_ground_joins.proofs.levels.statics_of.Goals as goal
use Rattle.tp_ground_joins.proofs.levels.statics_of.Goals.{in-Some+in_ok-push-in-Some, in-None}

pub loop-atom-preserved : goal.loop-atom-preserved
loop-atom-preserved c =
    let as_ = map action_view c.args.actions.now in
    let is = map initial_view c.args.entries.now in
    let a = action_view c.args.action.now in
    let f = fact_seen c.atom-item.result in
    let own : In f (needed a.body) =
    subst (In f) (ap (λ (xs : List (Bor Atom)). map fact_seen xs) c.as_slice-atoms.ensures.value ∙ c.in_ok-needed.ensures) (got_in fact_seen c.as_slice-atoms.result.now c.loop-atom.atom-index c.atom-item.result c.loop-atom-test.true c.atom-item.is) in
    elim c.match-branch-3.branch [
      | in-Some+in_ok-push-in-Some w ↦
          subst (AreStatic as_ is a) (sym (ap (λ (v : Vec Static Global). v.items) w.statics-is ∙ w.in_ok-push-in-Some.ensures.items))
          (more_static as_ is a c.loop-atom.statics.items w.in-Some.one c.loop-atom.invariant
          (static_holds as_ is a f w.in-Some.one (subst (λ o. IfSome o (IsStatic as_ is f)) w.in-Some.is c.in_ok-one.ensures) own))
      | in-None w ↦ subst (λ (v : Vec Static Global). AreStatic as_ is a v.items) (sym w.statics-is) c.loop-atom.invariant
    ]
