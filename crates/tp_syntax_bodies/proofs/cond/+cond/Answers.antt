use Rattle.std.proofs.Common.{◌-◌, List, length, take, drop, Some, map, option_map, ap, sym, subst, ◌++◌, ◌∙◌}
use Rattle.std.proofs.lemmas.List.{map-append}
use Rattle.std.proofs.lemmas.Bool.{eqb-true, eqb-false}
use Rattle.std.proofs.lemmas.Result.{err_from_is_err_and}
use Rattle.tp_text.specs.Shapes.{Shape}
use Rattle.tp_text.specs.Trees.{shape_of}
use Rattle.tp_syntax_scope.specs.ScopeViews.{scope_view, symbols_of}
use Rattle.tp_syntax_ast.specs.Symbols.{typed_view, Declared, Symbols}
use Rattle.tp_syntax_ast.specs.Terms.{shapes}
use Rattle.tp_syntax_ast.specs.Gives.{◌>>=◌, Fails}
use Rattle.tp_syntax_ast.specs.declared.symbols.Typed.{Typed}
use Rattle.tp_syntax_ast.proofs.Loops.{goes_on, fails, ends}
use Rattle.tp_syntax_ast.proofs.OnGives.{fails_bind, gives_same, fails_map}
use Rattle.tp_syntax_ast.specs.Conditions.{combined, bound, condition_of, only_condition}
use Rattle.tp_syntax_ast.specs.CondViews.{cond_view}
use Rattle.tp_syntax_ast.proofs.OnLists.{a_word, empty_list, list_first, word_first}
use Rattle.tp_syntax_ast.proofs.OnConds.{and_none, each_condition, at_word, at_nothing, at_list, at_joined, at_bound, at_simple, bound_none, bound_first, only_none, only_one, only_many}
use Rattle.tp_syntax_bodies.proofs.cond.+cond.Goals as goal

pub read_cond-returns-in-Word : goal.read_cond-returns-in-Word
read_cond-returns-in-Word t c =
    let σ = symbols_of c.args.scope.now in
    let scope = scope_view c.args.scope.now in
    let f = λ (s : Shape). condition_of σ scope s in
    a_word f _ _ c.in-Word.is ∙ at_word σ scope _

pub read_cond-returns-in_default : goal.read_cond-returns-in_default
read_cond-returns-in_default t c =
    let σ = symbols_of c.args.scope.now in
    let scope = scope_view c.args.scope.now in
    let f = λ (s : Shape). condition_of σ scope s in
    empty_list f _ _ _ c.as_slice.result.now c.in-List.is c.as_slice.ensures.value c.in_default.len_below ∙ at_nothing σ scope ∙ ap Some (and_none c.new.result c.new.ensures.items)

pub read_cond-returns-in_default-first : goal.read_cond-returns-in_default-first
read_cond-returns-in_default-first t c =
    let σ = symbols_of c.args.scope.now in
    let scope = scope_view c.args.scope.now in
    let f = λ (s : Shape). condition_of σ scope s in
    list_first f _ _ _ c.as_slice.result.now c.first-item.result _ _ c.in-List.is c.as_slice.ensures.value c.in-len1-up.len_at_least c.first-item.is c.in_default-first.is ∙ at_list σ scope _ _

pub read_cond-returns-in_err-conds-in-Joined : goal.read_cond-returns-in_err-conds-in-Joined
read_cond-returns-in_err-conds-in-Joined t c =
    let σ = symbols_of c.args.scope.now in
    let scope = scope_view c.args.scope.now in
    let f = λ (s : Shape). condition_of σ scope s in
    let is = word_first f _ _ _ c.as_slice.result.now c.first-item.result _ c.in-List.is c.as_slice.ensures.value c.in-len1-up.len_at_least c.first-item.is c.in-Word-first.is ∙ at_joined σ scope _ _ c.cond_word_of-head.result c.kind_of.result c.cond_word_of-head.ensures c.kind_of.ensures c.in-Joined.is in
    let p = err_from_is_err_and c.from_residual.result c.from_residual.ensures.1 in
    rw (p.1, p.2) (subst (λ o. Fails c.in_err-conds-in-Joined.field-0.0 o) (sym is) (fails_bind c.in_err-conds-in-Joined.field-0.0 _ _ c.in_err-conds-in-Joined.ensures))

pub read_cond-returns-in_ok-conds-in-Joined : goal.read_cond-returns-in_ok-conds-in-Joined
read_cond-returns-in_ok-conds-in-Joined t c =
    let σ = symbols_of c.args.scope.now in
    let scope = scope_view c.args.scope.now in
    let f = λ (s : Shape). condition_of σ scope s in
    let is = word_first f _ _ _ c.as_slice.result.now c.first-item.result _ c.in-List.is c.as_slice.ensures.value c.in-len1-up.len_at_least c.first-item.is c.in-Word-first.is ∙ at_joined σ scope _ _ c.cond_word_of-head.result c.kind_of.result c.cond_word_of-head.ensures c.kind_of.ensures c.in-Joined.is in
    gives_same cond_view _ _ _ (is ∙ ap (λ o. o >>= combined c.cond_word_of-head.result) c.in_ok-conds-in-Joined.ensures) c.combined.ensures

pub read_cond-returns-in-Bound : goal.read_cond-returns-in-Bound
read_cond-returns-in-Bound t c =
    let σ = symbols_of c.args.scope.now in
    let scope = scope_view c.args.scope.now in
    let f = λ (s : Shape). condition_of σ scope s in
    let is = word_first f _ _ _ c.as_slice.result.now c.first-item.result _ c.in-List.is c.as_slice.ensures.value c.in-len1-up.len_at_least c.first-item.is c.in-Word-first.is ∙ at_bound σ scope _ _ c.cond_word_of-head.result c.kind_of.result c.cond_word_of-head.ensures c.kind_of.ensures c.in-Bound.is in
    gives_same cond_view _ _ _ is c.read_bound.ensures

pub read_cond-returns-in-Simple : goal.read_cond-returns-in-Simple
read_cond-returns-in-Simple t c =
    let σ = symbols_of c.args.scope.now in
    let scope = scope_view c.args.scope.now in
    let f = λ (s : Shape). condition_of σ scope s in
    let is = word_first f _ _ _ c.as_slice.result.now c.first-item.result _ c.in-List.is c.as_slice.ensures.value c.in-len1-up.len_at_least c.first-item.is c.in-Word-first.is ∙ at_simple σ scope _ _ c.cond_word_of-head.result c.kind_of.result c.cond_word_of-head.ensures c.kind_of.ensures c.in-Simple.is in
    gives_same cond_view _ _ _ is c.simple.ensures

pub read_conds-returns-in_err-read_cond : goal.read_conds-returns-in_err-read_cond
read_conds-returns-in_err-read_cond t c =
    let each = each_condition (symbols_of c.args.scope.now) (scope_view c.args.scope.now) in
    let p = err_from_is_err_and c.from_residual.result c.from_residual.ensures.1 in
    rw (p.1, p.2) (fails each c.in_err-read_cond.field-0.0 _ c.args.trees.now c.loop-tree.tree-index c.tree-item.result _ c.loop-tree-test.true c.tree-item.is c.in_err-read_cond.ensures c.loop-tree.invariant)

pub read_conds-loop-tree-preserved : goal.read_conds-loop-tree-preserved
read_conds-loop-tree-preserved t c =
    let each = each_condition (symbols_of c.args.scope.now) (scope_view c.args.scope.now) in
    goes_on each _ _ c.args.trees.now c.loop-tree.tree-index c.tree-item.result _ _ c.loop-tree-test.true c.tree-item.is c.in_ok-read_cond.ensures
    (ap (map cond_view) c.in_ok-push.ensures.items ∙ map-append cond_view _ _)
    c.loop-tree.invariant

pub read_conds-returns : goal.read_conds-returns
read_conds-returns t c =
    let each = each_condition (symbols_of c.args.scope.now) (scope_view c.args.scope.now) in
    ends each _ c.args.trees.now c.loop-tree.tree-index _ c.loop-tree-test.false c.loop-tree.invariant

pub read_bound-returns-in_default : goal.read_bound-returns-in_default
read_bound-returns-in_default t c =
    let σ = symbols_of c.args.scope.now in
    let scope = scope_view c.args.scope.now in
    bound_none σ scope c.args.head c.args.args.now c.in_default.len_below

pub read_bound-returns-in_err-vars : goal.read_bound-returns-in_err-vars
read_bound-returns-in_err-vars t c =
    let σ = symbols_of c.args.scope.now in
    let scope = scope_view c.args.scope.now in
    let p = err_from_is_err_and c.from_residual.result c.from_residual.ensures.1 in
    rw (p.1, p.2) (subst (λ o. Fails c.in_err-vars.field-0.0 o) (sym (bound_first σ scope c.args.head c.args.args.now c.list-item.result c.in-len1-up.len_at_least c.list-item.is)) (fails_bind c.in_err-vars.field-0.0 _ _ c.in_err-vars.ensures))

pub read_bound-returns-in_default-body : goal.read_bound-returns-in_default-body
read_bound-returns-in_default-body t c =
    let σ = symbols_of c.args.scope.now in
    let scope = scope_view c.args.scope.now in
    let h = c.args.head in
    let vs : List Declared = map typed_view c.in_ok-vars.vars.items in
    let ys = take (length c.args.args.now - 1) (drop 1 c.args.args.now) in
    let read = bound_first σ scope h c.args.args.now c.list-item.result c.in-len1-up.len_at_least c.list-item.is ∙ ap (λ o. o >>= λ (ws : List Declared). option_map (bound h ws) (only_condition σ (ws ++ scope) (shapes ys))) c.in_ok-vars.ensures in
    read ∙ ap (option_map (bound h vs)) (only_none σ (vs ++ scope) ys c.in_default-body.len_below)

pub read_bound-returns-then-not-is_empty : goal.read_bound-returns-then-not-is_empty
read_bound-returns-then-not-is_empty t c =
    let σ = symbols_of c.args.scope.now in
    let scope = scope_view c.args.scope.now in
    let h = c.args.head in
    let vs : List Declared = map typed_view c.in_ok-vars.vars.items in
    let ys = take (length c.args.args.now - 1) (drop 1 c.args.args.now) in
    let read = bound_first σ scope h c.args.args.now c.list-item.result c.in-len1-up.len_at_least c.list-item.is ∙ ap (λ o. o >>= λ (ws : List Declared). option_map (bound h ws) (only_condition σ (ws ++ scope) (shapes ys))) c.in_ok-vars.ensures in
    read ∙ ap (option_map (bound h vs)) (only_many σ (vs ++ scope) ys (eqb-false _ 0 (sym c.is_empty.ensures ∙ c.if-not-is_empty.true)))

pub read_bound-returns-in_err-inner : goal.read_bound-returns-in_err-inner
read_bound-returns-in_err-inner t c =
    let σ = symbols_of c.args.scope.now in
    let scope = scope_view c.args.scope.now in
    let h = c.args.head in
    let vs : List Declared = map typed_view c.in_ok-vars.vars.items in
    let ys = take (length c.args.args.now - 1) (drop 1 c.args.args.now) in
    let read = bound_first σ scope h c.args.args.now c.list-item.result c.in-len1-up.len_at_least c.list-item.is ∙ ap (λ o. o >>= λ (ws : List Declared). option_map (bound h ws) (only_condition σ (ws ++ scope) (shapes ys))) c.in_ok-vars.ensures in
    let p = err_from_is_err_and c.from_residual-in_err-inner.result c.from_residual-in_err-inner.ensures.1 in
    let same = only_one σ (vs ++ scope) ys c.tree-item.result c.in-len1-up-body.len_at_least c.tree-item.is (eqb-true (length (take (length ys - 1) (drop 1 ys))) 0 (sym c.is_empty.ensures ∙ c.if-not-is_empty.false)) ∙ ap (λ (τ : Symbols). condition_of τ (vs ++ scope) (shape_of c.tree-item.result)) (sym c.inside-wider.ensures.symbols) ∙ ap (λ (ds : List Declared). condition_of (symbols_of c.inside-wider.result) ds (shape_of c.tree-item.result)) (sym (c.inside-wider.ensures.view ∙ ap (λ (ts : List Typed). map typed_view ts ++ scope) c.in_ok-known.ensures.items)) in
    rw (p.1, p.2) (subst (λ o. Fails c.in_err-inner.field-0.0 o) (sym (read ∙ ap (option_map (bound h vs)) same)) (fails_map (bound h vs) c.in_err-inner.field-0.0 _ c.in_err-inner.ensures))

pub read_bound-returns : goal.read_bound-returns
read_bound-returns t c =
    let σ = symbols_of c.args.scope.now in
    let scope = scope_view c.args.scope.now in
    let h = c.args.head in
    let vs : List Declared = map typed_view c.in_ok-vars.vars.items in
    let ys = take (length c.args.args.now - 1) (drop 1 c.args.args.now) in
    let read = bound_first σ scope h c.args.args.now c.list-item.result c.in-len1-up.len_at_least c.list-item.is ∙ ap (λ o. o >>= λ (ws : List Declared). option_map (bound h ws) (only_condition σ (ws ++ scope) (shapes ys))) c.in_ok-vars.ensures in
    gives_same cond_view c.bound.result _ _ (read ∙ ap (option_map (bound h vs)) (only_one σ (vs ++ scope) ys c.tree-item.result c.in-len1-up-body.len_at_least c.tree-item.is (eqb-true (length (take (length ys - 1) (drop 1 ys))) 0 (sym c.is_empty.ensures ∙ c.if-not-is_empty.false)) ∙ ap (λ (τ : Symbols). condition_of τ (vs ++ scope) (shape_of c.tree-item.result)) (sym c.inside-wider.ensures.symbols) ∙ ap (λ (ds : List Declared). condition_of (symbols_of c.inside-wider.result) ds (shape_of c.tree-item.result)) (sym (c.inside-wider.ensures.view ∙ ap (λ (ts : List Typed). map typed_view ts ++ scope) c.in_ok-known.ensures.items)) ∙ c.in_ok-inner.ensures)
    ∙ ap (λ (ts : List Typed). Some (bound h (map typed_view ts) (cond_view c.in_ok-inner.inner))) (sym (c.into_items.ensures ∙ c.in_ok-known.ensures.items))) c.bound.ensures
