use Rattle.std.proofs.Common.{ℕ, List, [], ◌∷◌, ◌++◌, Vec, Global, map, sym, ap, subst, ◌∙◌}
use Rattle.tp_syntax_ast.specs.Symbols.{typed_view}
use Rattle.tp_syntax_ast.specs.Terms.{term_view}
use Rattle.tp_ground_joins.specs.Levels.{AreSame}
use Rattle.tp_ground_joins.proofs.OnLevels.{more_columns}
use Rattle.tp_ground_joins.proofs.levels.columns_of.Goals as goal
use Rattle.tp_ground_joins.proofs.levels.columns_of.Goals.{in-Some+then-place-many+in_ok-push-in-Some+in_ok-push-in-Some-2, in-Some+else-place-many, in-None}

pub loop-column-preserved : goal.loop-column-preserved
loop-column-preserved c =
    let ps = map typed_view c.args.parameters.now in
    let terms = c.args.terms.now in
    let args = map term_view terms in
    let many = c.args.many in
    let items : Vec ℕ Global → List ℕ = λ v. v.items in
    elim c.match-place_in.branch [
      | in-Some+then-place-many+in_ok-push-in-Some+in_ok-push-in-Some-2 w ↦
          subst (AreSame ps args many c.match-place_in.columns.items) (sym (ap items w.places-is ∙ w.in_ok-push-in-Some-2.ensures.items))
          (subst (λ cs. AreSame ps args many cs (c.loop-column.places.items ++ w.in-Some.place ∷ [])) (sym (ap items w.columns-is ∙ w.in_ok-push-in-Some.ensures.items))
          (more_columns ps terms many c.loop-column.columns.items c.loop-column.places.items c.loop-column.column w.in-Some.place c.index-terms-column.result c.loop-column.invariant c.loop-column-test.true c.index-terms-column.is (sym c.place_in.ensures ∙ w.in-Some.is) w.if-place-many.true))
      | in-Some+else-place-many w ↦
          subst (AreSame ps args many c.match-place_in.columns.items) (sym (ap items w.places-is)) (subst (λ cs. AreSame ps args many cs c.loop-column.places.items) (sym (ap items w.columns-is)) c.loop-column.invariant)
      | in-None w ↦
          subst (AreSame ps args many c.match-place_in.columns.items) (sym (ap items w.places-is)) (subst (λ cs. AreSame ps args many cs c.loop-column.places.items) (sym (ap items w.columns-is)) c.loop-column.invariant)
    ]
