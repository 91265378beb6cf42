use Rattle.std.proofs.Common.{List, ◌++◌, map, take, sym, ap, ◌∙◌, append_assoc}
use Rattle.std.specs.List.{flat_map}
use Rattle.std.proofs.lemmas.Result.{on_ok_weaker}
use Rattle.tp_syntax_ast.specs.Terms.{Fact}
use Rattle.tp_syntax_ast.specs.EffectViews.{timed_condition_view}
use Rattle.tp_syntax_ast.specs.declared.cond.Cond.{Cond}
use Rattle.tp_syntax_ast.specs.declared.joined.Joined.{Joined}
use Rattle.tp_syntax_ast.specs.declared.timed.Timed.{Timed}
use Rattle.tp_ground_bindings.proofs.Along.{next}
use Rattle.tp_ground_laws.specs.Needed.{timed_conjuncts}
use Rattle.tp_ground_joins.specs.Facts.{fact_seen}
use Rattle.tp_ground_joins.proofs.OnParts.{timed_And}
use Rattle.tp_ground_joins.proofs.needed.+push_timed.Goals as goal

pub push_all_timed-loop-part-preserved : goal.push_all_timed-loop-part-preserved
push_all_timed-loop-part-preserved t c =
    let f : Joined (Timed Cond) → List Fact = λ x. timed_conjuncts (timed_condition_view x) in
    c.in_ok-push_timed.ensures ∙ ap (λ (fs : List Fact). fs ++ f c.part-item.result) c.loop-part.invariant
    ∙ append_assoc (map fact_seen c.args.into.now.items) (flat_map f (take c.loop-part.part-index c.args.parts.now)) (f c.part-item.result) ∙ ap (λ (fs : List Fact). map fact_seen c.args.into.now.items ++ fs) (sym (next f c.args.parts.now c.loop-part.part-index c.part-item.result c.loop-part-test.true c.part-item.is))

pub push_timed-returns-in-And : goal.push_timed-returns-in-And
push_timed-returns-in-And t c =
    on_ok_weaker c.push_all_timed.result (λ h. h ∙ ap (λ (fs : List Fact). map fact_seen c.args.into.now.items ++ fs) (timed_And _ c.in-And.parts c.deref.result.now c.in-And.is c.deref.ensures.value)) c.push_all_timed.ensures
