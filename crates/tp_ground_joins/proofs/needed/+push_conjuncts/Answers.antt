use Rattle.std.proofs.Common.{List, ◌++◌, map, take, sym, ap, ◌∙◌, append_assoc}
use Rattle.std.specs.List.{flat_map}
use Rattle.std.proofs.lemmas.Result.{on_ok_weaker}
use Rattle.tp_syntax_ast.specs.Terms.{Fact}
use Rattle.tp_syntax_ast.specs.CondViews.{cond_view}
use Rattle.tp_syntax_ast.specs.declared.cond.Cond.{Cond}
use Rattle.tp_ground_bindings.proofs.Along.{next}
use Rattle.tp_ground_laws.specs.Needed.{conjuncts}
use Rattle.tp_ground_joins.specs.Facts.{fact_seen}
use Rattle.tp_ground_joins.proofs.OnParts.{conjuncts_And}
use Rattle.tp_ground_joins.proofs.needed.+push_conjuncts.Goals as goal

pub push_all_conjuncts-loop-cond-preserved : goal.push_all_conjuncts-loop-cond-preserved
push_all_conjuncts-loop-cond-preserved t c =
    let f : Cond → List Fact = λ x. conjuncts (cond_view x) in
    c.in_ok-push_conjuncts.ensures ∙ ap (λ (fs : List Fact). fs ++ f c.cond-item.result) c.loop-cond.invariant
    ∙ append_assoc (map fact_seen c.args.into.now.items) (flat_map f (take c.loop-cond.cond-index c.args.conds.now)) (f c.cond-item.result) ∙ ap (λ (fs : List Fact). map fact_seen c.args.into.now.items ++ fs) (sym (next f c.args.conds.now c.loop-cond.cond-index c.cond-item.result c.loop-cond-test.true c.cond-item.is))

pub push_conjuncts-returns-in-And : goal.push_conjuncts-returns-in-And
push_conjuncts-returns-in-And t c =
    on_ok_weaker c.push_all_conjuncts.result (λ h. h ∙ ap (λ (fs : List Fact). map fact_seen c.args.into.now.items ++ fs) (conjuncts_And _ c.in-And.conds c.deref.result.now c.in-And.is c.deref.ensures.value)) c.push_all_conjuncts.ensures
