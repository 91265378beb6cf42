use Rattle.std.proofs.Common.{List, Bor, map, ◌+◌, ◌++◌, refl, sym, ap, ◌∙◌}
use Rattle.tp_syntax_ast.specs.Terms.{term_view}
use Rattle.tp_syntax_ast.specs.Symbols.{Name, typed_view}
use Rattle.tp_syntax_ast.specs.CondViews.{cond_view}
use Rattle.tp_syntax_ast.specs.declared.symbols.Typed.{Typed}
use Rattle.tp_syntax_ast.specs.declared.cond.Cond as syntax
use Rattle.tp_ground_bindings.specs.Bindings.{Env, bound, bindings}
use Rattle.tp_ground_bindings.proofs.Visited.{next_of, none_of}
use Rattle.tp_ground_bindings.specs.Views.{env_view, universe_view}
use Rattle.tp_ground_bodies.specs.Written.{GroundCondition, negation, either, condition_in, conditions_from, all_of, any_of, inner}
use Rattle.tp_ground_bodies.specs.Lowered.{IsLowered}
use Rattle.tp_ground_bodies.specs.Mentions.{of_condition}
use Rattle.tp_ground_bodies.specs.ReadBack.{named_condition}
use Rattle.tp_ground_bindings.proofs.Along.{map_next, map_ended}
use Rattle.tp_ground_bodies.proofs.Stopped.{map_stopped, map_stopped_as}
use Rattle.tp_ground_bodies.proofs.OnInner.{map_under, inner_env}
use Rattle.tp_ground_bodies.proofs.OnConditions.{and_of, or_of, imply_of, forall_of, exists_of, same_of, named_Not, all_lowered, any_lowered, all_failed, any_failed, same_lowered, either_mentions}
use Rattle.tp_ground_bodies.proofs.OnLowered.{lowered_as, as_written, written_as, all_push, all_same, first_failed, second_failed, both_lowered}
use Rattle.tp_ground_bodies.proofs.conditions.+condition.Goals as goal

pub conditions-loop-cond-preserved : goal.conditions-loop-cond-preserved
conditions-loop-cond-preserved t c =
    let f = λ (x : syntax.Cond). condition_in (universe_view c.args.universe.now) (env_view c.args.env.now) (cond_view x) in
    all_push named_condition of_condition _ _ _ _ _ _ _ _ _ c.in_ok-push.ensures.items (map_next f c.args.conds.now c.loop-cond.cond-index c.cond-item.result c.loop-cond-test.true c.cond-item.is) c.loop-cond.invariant c.in_ok-condition.ensures

pub conditions-returns-in_err-condition : goal.conditions-returns-in_err-condition
conditions-returns-in_err-condition t c =
    let f = λ (x : syntax.Cond). condition_in (universe_view c.args.universe.now) (env_view c.args.env.now) (cond_view x) in
    map_stopped named_condition of_condition c.args.conds.now c.loop-cond.cond-index c.cond-item.result c.loop-cond-test.true c.cond-item.is _ _ _ _ _ _ _ c.from_residual-in_err-condition.ensures.1 f refl c.loop-cond.invariant c.in_err-condition.ensures

pub conditions-returns : goal.conditions-returns
conditions-returns t c =
    let f = λ (x : syntax.Cond). condition_in (universe_view c.args.universe.now) (env_view c.args.env.now) (cond_view x) in
    all_same named_condition of_condition _ _ _ _ _ (map_ended f c.args.conds.now c.loop-cond.cond-index c.loop-cond-test.false) c.loop-cond.invariant

pub under_each-rows-preserved : goal.under_each-rows-preserved
under_each-rows-preserved t c =
    let u = universe_view c.args.universe.now in
    let x = cond_view c.args.cond.now in
    let vs = map typed_view c.args.variables.now in
    let xs = bindings u vs in
    let i = c.rows.invariant.0 in
    let row : List Name = map (λ (o : Bor Name). o.now) c.advance.new.self.row.items in
    let at = next_of xs i row _ _ c.rows.invariant.1 (c.advance.ensures.some c.rows-test.true) in
    let names = ap (map (λ (o : Bor Name). o.now)) c.deref.ensures.value in
    let f = λ (b : List Name). condition_in u (bound vs b ++ env_view c.args.env.now) x in (
      i + 1,
      at.left,
      all_push named_condition of_condition _ _ _ _ _ _ _ _ _ c.in_ok-push.ensures.items (map_next f xs i row at.lt at.item) c.rows.invariant.2
          (as_written of_condition _ _ (ap (λ (e : Env). condition_in u e x) (sym (inner_env _ _ _ row names))) c.in_ok-condition.ensures),
    )

pub under_each-returns-in_err-condition : goal.under_each-returns-in_err-condition
under_each-returns-in_err-condition t c =
    let u = universe_view c.args.universe.now in
    let x = cond_view c.args.cond.now in
    let env = env_view c.args.env.now in
    let vs = map typed_view c.args.variables.now in
    let xs = bindings u vs in
    let i = c.rows.invariant.0 in
    let row : List Name = map (λ (o : Bor Name). o.now) c.advance.new.self.row.items in
    let at = next_of xs i row _ _ c.rows.invariant.1 (c.advance.ensures.some c.rows-test.true) in
    let names = ap (map (λ (o : Bor Name). o.now)) c.deref.ensures.value in
    let f = λ (b : List Name). condition_in u (bound vs b ++ env) x in
    map_stopped_as named_condition of_condition xs i row at.lt at.item _ _ _ _ _ _ _ c.from_residual-in_err-condition.ensures.1 f _ (ap (λ (e : Env). condition_in u e x) (inner_env _ _ _ row names))
    (sym (map_under env vs u (λ (e : Env). condition_in u e x))) c.rows.invariant.2 c.in_err-condition.ensures

pub under_each-returns : goal.under_each-returns
under_each-returns t c =
    let u = universe_view c.args.universe.now in
    let x = cond_view c.args.cond.now in
    let env = env_view c.args.env.now in
    let vs = map typed_view c.args.variables.now in
    let xs = bindings u vs in
    let f = λ (b : List Name). condition_in u (bound vs b ++ env) x in
    let ended = none_of xs c.rows.invariant.0 _ c.rows.invariant.1 (c.advance.ensures.none c.rows-test.false) in
    all_same named_condition of_condition _ _ _ _ _ (map_ended f xs c.rows.invariant.0 ended ∙ map_under env vs u (λ (e : Env). condition_in u e x)) c.rows.invariant.2

pub negated-returns : goal.negated-returns
negated-returns t c = lowered_as negation _ (λ u. named_Not u _ ∙ ap (λ z. negation (named_condition u z)) c.in_ok-new.ensures.ok) c.in_ok-lowered.ensures

pub conjunction-returns-in_err-conditions : goal.conjunction-returns-in_err-conditions
conjunction-returns-in_err-conditions t c = all_failed _ _ _ _ _ _ c.from_residual.ensures.1 c.in_err-conditions.ensures refl

pub conjunction-returns : goal.conjunction-returns
conjunction-returns t c = all_lowered _ _ _ _ _ refl c.in_ok-conditions.ensures

pub disjunction-returns-in_err-conditions : goal.disjunction-returns-in_err-conditions
disjunction-returns-in_err-conditions t c = any_failed _ _ _ _ _ _ c.from_residual.ensures.1 c.in_err-conditions.ensures refl

pub disjunction-returns : goal.disjunction-returns
disjunction-returns t c = any_lowered _ _ _ _ _ refl c.in_ok-conditions.ensures

pub for_all-returns-in_err-under_each : goal.for_all-returns-in_err-under_each
for_all-returns-in_err-under_each t c =
    let u = universe_view c.args.universe.now in
    let env = env_view c.args.env.now in
    let f = λ (e : Env). condition_in u e (cond_view c.args.cond.now) in
    all_failed _ _ _ _ _ _ c.from_residual.ensures.1 c.in_err-under_each.ensures
    refl

pub for_all-returns : goal.for_all-returns
for_all-returns t c =
    let u = universe_view c.args.universe.now in
    let env = env_view c.args.env.now in
    let f = λ (e : Env). condition_in u e (cond_view c.args.cond.now) in
    all_lowered _ _ _ _ _
    refl
    c.in_ok-under_each.ensures

pub for_some-returns-in_err-under_each : goal.for_some-returns-in_err-under_each
for_some-returns-in_err-under_each t c =
    let u = universe_view c.args.universe.now in
    let env = env_view c.args.env.now in
    let f = λ (e : Env). condition_in u e (cond_view c.args.cond.now) in
    any_failed _ _ _ _ _ _ c.from_residual.ensures.1 c.in_err-under_each.ensures
    refl

pub for_some-returns : goal.for_some-returns
for_some-returns t c =
    let u = universe_view c.args.universe.now in
    let env = env_view c.args.env.now in
    let f = λ (e : Env). condition_in u e (cond_view c.args.cond.now) in
    any_lowered _ _ _ _ _
    refl
    c.in_ok-under_each.ensures

pub condition-returns-in-And : goal.condition-returns-in-And
condition-returns-in-And t c = written_as named_condition of_condition _ _ _ _ _ (and_of (universe_view c.args.universe.now) (env_view c.args.env.now) c.args.cond.now c.in-And.conds c.deref.result.now c.in-And.is c.deref.ensures.value) c.conjunction.ensures

pub condition-returns-in-Or : goal.condition-returns-in-Or
condition-returns-in-Or t c = written_as named_condition of_condition _ _ _ _ _ (or_of (universe_view c.args.universe.now) (env_view c.args.env.now) c.args.cond.now c.in-Or.conds c.deref-in-Or.result.now c.in-Or.is c.deref-in-Or.ensures.value) c.disjunction.ensures

pub condition-returns-in_err-first-in-Imply : goal.condition-returns-in_err-first-in-Imply
condition-returns-in_err-first-in-Imply t c =
    let u = universe_view c.args.universe.now in
    let env = env_view c.args.env.now in
    first_failed named_condition named_condition named_condition of_condition of_condition of_condition either either_mentions _ _ _ (imply_of u env c.args.cond.now c.in-Imply.a c.in-Imply.b c.deref-in-Imply.result.now c.in-Imply.b.value c.in-Imply.is c.deref-in-Imply.ensures refl) _ _ _ _ c.from_residual.ensures.1 c.in_err-first-in-Imply.ensures

pub condition-returns-in_err-second-in-Imply : goal.condition-returns-in_err-second-in-Imply
condition-returns-in_err-second-in-Imply t c =
    let u = universe_view c.args.universe.now in
    let env = env_view c.args.env.now in
    second_failed named_condition named_condition named_condition of_condition of_condition of_condition either either_mentions _ _ _ (imply_of u env c.args.cond.now c.in-Imply.a c.in-Imply.b c.deref-in-Imply.result.now c.deref-in-Imply-2.result.now c.in-Imply.is c.deref-in-Imply.ensures c.deref-in-Imply-2.ensures) _ _ _ _ _ _ c.from_residual-in_err-second-in-Imply.ensures.1 c.in_ok-first-in-Imply.ensures c.in_err-second-in-Imply.ensures

pub condition-returns-in_ok-either-in-Imply : goal.condition-returns-in_ok-either-in-Imply
condition-returns-in_ok-either-in-Imply t c =
    let u = universe_view c.args.universe.now in
    let env = env_view c.args.env.now in
    both_lowered named_condition named_condition named_condition of_condition of_condition of_condition either either_mentions _ _ _ (imply_of u env c.args.cond.now c.in-Imply.a c.in-Imply.b c.deref-in-Imply.result.now c.deref-in-Imply-2.result.now c.in-Imply.is c.deref-in-Imply.ensures c.deref-in-Imply-2.ensures) _ _ _ _ _ _ c.in_ok-either-in-Imply.ensures c.in_ok-first-in-Imply.ensures c.in_ok-second-in-Imply.ensures

pub condition-returns-in-Forall : goal.condition-returns-in-Forall
condition-returns-in-Forall t c = written_as named_condition of_condition _ _ _ _ _ (forall_of (universe_view c.args.universe.now) (env_view c.args.env.now) c.args.cond.now c.in-Forall.variables c.in-Forall.inner c.as_slice.result.now c.deref-in-Forall.result.now c.in-Forall.is c.as_slice.ensures c.deref-in-Forall.ensures) c.for_all.ensures

pub condition-returns-in-Exists : goal.condition-returns-in-Exists
condition-returns-in-Exists t c = written_as named_condition of_condition _ _ _ _ _ (exists_of (universe_view c.args.universe.now) (env_view c.args.env.now) c.args.cond.now c.in-Exists.variables c.in-Exists.inner c.as_slice-in-Exists.result.now c.deref-in-Exists.result.now c.in-Exists.is c.as_slice-in-Exists.ensures c.deref-in-Exists.ensures) c.for_some.ensures

pub condition-returns-in-Same : goal.condition-returns-in-Same
condition-returns-in-Same t c = as_written of_condition _ _ (same_of (universe_view c.args.universe.now) (env_view c.args.env.now) c.args.cond.now c.in-Same.a c.in-Same.b c.in-Same.is) (same_lowered _ _ (env_view c.args.env.now) (term_view c.in-Same.a) (term_view c.in-Same.b) c.same.ensures)
