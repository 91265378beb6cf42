use Rattle.std.proofs.Common.{◌-◌, List, length, take, drop, Some, map, option_map, ap, sym, ◌++◌, ◌∙◌}
use Rattle.std.proofs.lemmas.List.{map-append}
use Rattle.std.proofs.lemmas.Bool.{eqb-true, eqb-false}
use Rattle.std.proofs.lemmas.Result.{err_from_is_err_and}
use Rattle.tp_text.specs.Shapes.{Shape}
use Rattle.tp_text.specs.Trees.{shape_of}
use Rattle.tp_syntax_ast.specs.Gives.{◌>>=◌}
use Rattle.tp_syntax_scope.specs.ScopeViews.{scope_view, symbols_of}
use Rattle.tp_syntax_ast.specs.Symbols.{typed_view, Declared, Symbols}
use Rattle.tp_syntax_ast.specs.Terms.{shapes}
use Rattle.tp_syntax_ast.specs.Parts.{Joined, all_parts, for_each, one, parts, joined_of, only_part}
use Rattle.tp_syntax_ast.specs.PartViews.{joined_view}
use Rattle.tp_syntax_ast.specs.declared.symbols.Typed.{Typed}
use Rattle.tp_syntax_ast.proofs.Loops.{goes_on, fails, ends}
use Rattle.tp_syntax_ast.proofs.OnGives.{fails_bind, fails_map, fails_same, gives_same}
use Rattle.tp_syntax_ast.proofs.OnLists.{a_word, empty_list, list_first, word_first}
use Rattle.tp_syntax_ast.proofs.OnParts.{and_view, and_none, forall_view, one_view, each_part, at_word, at_nothing, at_list, by_joint, bound_none, bound_first, only_none, only_one, only_many}
use Rattle.tp_syntax_bodies.proofs.joined.+joined.Goals as goal

pub read_joined-returns-in-Word : goal.read_joined-returns-in-Word
read_joined-returns-in-Word g t c =
    let σ = symbols_of c.args.scope.now in
    let read = g.P.Inner.spelled σ c.args.duration in
    let scope = scope_view c.args.scope.now in
    let f = λ (s : Shape). joined_of σ.types read scope s in
    a_word f _ _ c.in-Word.is ∙ at_word σ.types read scope _

pub read_joined-returns-in_default : goal.read_joined-returns-in_default
read_joined-returns-in_default g t c =
    let σ = symbols_of c.args.scope.now in
    let read = g.P.Inner.spelled σ c.args.duration in
    let scope = scope_view c.args.scope.now in
    let f = λ (s : Shape). joined_of σ.types read scope s in
    empty_list f _ _ _ c.as_slice.result.now c.in-List.is c.as_slice.ensures.value c.in_default.len_below ∙ at_nothing σ.types read scope ∙ ap Some (and_none g.P.Inner.seen c.new.result c.new.ensures.items)

pub read_joined-returns-in_default-first : goal.read_joined-returns-in_default-first
read_joined-returns-in_default-first g t c =
    let σ = symbols_of c.args.scope.now in
    let read = g.P.Inner.spelled σ c.args.duration in
    let scope = scope_view c.args.scope.now in
    let f = λ (s : Shape). joined_of σ.types read scope s in
    list_first f _ _ _ c.as_slice.result.now c.first-item.result _ _ c.in-List.is c.as_slice.ensures.value c.in-len1-up.len_at_least c.first-item.is c.in_default-first.is ∙ at_list σ.types read scope _ _

pub read_joined-returns-in_err-parts-in-And : goal.read_joined-returns-in_err-parts-in-And
read_joined-returns-in_err-parts-in-And g t c =
    let σ = symbols_of c.args.scope.now in
    let read = g.P.Inner.spelled σ c.args.duration in
    let scope = scope_view c.args.scope.now in
    let f = λ (s : Shape). joined_of σ.types read scope s in
    let is = word_first f _ _ _ c.as_slice.result.now c.first-item.result _ c.in-List.is c.as_slice.ensures.value c.in-len1-up.len_at_least c.first-item.is c.in-Word-first.is ∙ by_joint σ.types read scope _ _ c.joint_of.result _ c.joint_of.ensures c.in-And.is in
    let p = err_from_is_err_and c.from_residual.result c.from_residual.ensures.1 in
    rw (p.1, p.2) (fails_same c.in_err-parts-in-And.field-0.0 _ _ is (fails_map (λ (ps : List (Joined g.P.Inner.Seen)). all_parts (parts ps)) c.in_err-parts-in-And.field-0.0 _ c.in_err-parts-in-And.ensures))

pub read_joined-returns-in_ok-parts-in-And : goal.read_joined-returns-in_ok-parts-in-And
read_joined-returns-in_ok-parts-in-And g t c =
    let σ = symbols_of c.args.scope.now in
    let read = g.P.Inner.spelled σ c.args.duration in
    let scope = scope_view c.args.scope.now in
    let f = λ (s : Shape). joined_of σ.types read scope s in
    let is = word_first f _ _ _ c.as_slice.result.now c.first-item.result _ c.in-List.is c.as_slice.ensures.value c.in-len1-up.len_at_least c.first-item.is c.in-Word-first.is ∙ by_joint σ.types read scope _ _ c.joint_of.result _ c.joint_of.ensures c.in-And.is in
    is ∙ ap (option_map (λ (ps : List (Joined g.P.Inner.Seen)). all_parts (parts ps))) c.in_ok-parts-in-And.ensures ∙ ap Some (sym (and_view g.P.Inner.seen c.in_ok-parts-in-And.parts))

pub read_joined-returns-in-Forall : goal.read_joined-returns-in-Forall
read_joined-returns-in-Forall g t c =
    let σ = symbols_of c.args.scope.now in
    let read = g.P.Inner.spelled σ c.args.duration in
    let scope = scope_view c.args.scope.now in
    let f = λ (s : Shape). joined_of σ.types read scope s in
    let is = word_first f _ _ _ c.as_slice.result.now c.first-item.result _ c.in-List.is c.as_slice.ensures.value c.in-len1-up.len_at_least c.first-item.is c.in-Word-first.is ∙ by_joint σ.types read scope _ _ c.joint_of.result _ c.joint_of.ensures c.in-Forall.is in
    gives_same (joined_view g.P.Inner.seen) _ _ _ is c.read_bound.ensures

pub read_joined-returns-in_err-read-in-One : goal.read_joined-returns-in_err-read-in-One
read_joined-returns-in_err-read-in-One g t c =
    let σ = symbols_of c.args.scope.now in
    let read = g.P.Inner.spelled σ c.args.duration in
    let scope = scope_view c.args.scope.now in
    let f = λ (s : Shape). joined_of σ.types read scope s in
    let is = word_first f _ _ _ c.as_slice.result.now c.first-item.result _ c.in-List.is c.as_slice.ensures.value c.in-len1-up.len_at_least c.first-item.is c.in-Word-first.is ∙ by_joint σ.types read scope _ _ c.joint_of.result _ c.joint_of.ensures c.in-One.is in
    let p = err_from_is_err_and c.from_residual-in_err-read-in-One.result c.from_residual-in_err-read-in-One.ensures.1 in
    rw (p.1, p.2) (fails_same c.in_err-read-in-One.field-0.0 _ _ is (fails_map one c.in_err-read-in-One.field-0.0 _ c.in_err-read-in-One.ensures))

pub read_joined-returns-in_ok-read-in-One : goal.read_joined-returns-in_ok-read-in-One
read_joined-returns-in_ok-read-in-One g t c =
    let σ = symbols_of c.args.scope.now in
    let read = g.P.Inner.spelled σ c.args.duration in
    let scope = scope_view c.args.scope.now in
    let f = λ (s : Shape). joined_of σ.types read scope s in
    let is = word_first f _ _ _ c.as_slice.result.now c.first-item.result _ c.in-List.is c.as_slice.ensures.value c.in-len1-up.len_at_least c.first-item.is c.in-Word-first.is ∙ by_joint σ.types read scope _ _ c.joint_of.result _ c.joint_of.ensures c.in-One.is in
    is ∙ ap (option_map one) c.in_ok-read-in-One.ensures ∙ ap Some (sym (one_view g.P.Inner.seen _))

pub read_parts-returns-in_err-read_joined : goal.read_parts-returns-in_err-read_joined
read_parts-returns-in_err-read_joined g t c =
    let σ = symbols_of c.args.scope.now in
    let each = each_part σ.types (g.P.Inner.spelled σ c.args.duration) (scope_view c.args.scope.now) in
    let p = err_from_is_err_and c.from_residual.result c.from_residual.ensures.1 in
    rw (p.1, p.2) (fails each c.in_err-read_joined.field-0.0 _ c.args.trees.now c.loop-tree.tree-index c.tree-item.result _ c.loop-tree-test.true c.tree-item.is c.in_err-read_joined.ensures c.loop-tree.invariant)

pub read_parts-loop-tree-preserved : goal.read_parts-loop-tree-preserved
read_parts-loop-tree-preserved g t c =
    let σ = symbols_of c.args.scope.now in
    let each = each_part σ.types (g.P.Inner.spelled σ c.args.duration) (scope_view c.args.scope.now) in
    goes_on each _ _ c.args.trees.now c.loop-tree.tree-index c.tree-item.result _ _ c.loop-tree-test.true c.tree-item.is c.in_ok-read_joined.ensures
    (ap (map (joined_view g.P.Inner.seen)) c.in_ok-push.ensures.items ∙ map-append (joined_view g.P.Inner.seen) _ _)
    c.loop-tree.invariant

pub read_parts-returns : goal.read_parts-returns
read_parts-returns g t c =
    let σ = symbols_of c.args.scope.now in
    let each = each_part σ.types (g.P.Inner.spelled σ c.args.duration) (scope_view c.args.scope.now) in
    ends each _ c.args.trees.now c.loop-tree.tree-index _ c.loop-tree-test.false c.loop-tree.invariant

pub read_bound-returns-in_default : goal.read_bound-returns-in_default
read_bound-returns-in_default g t c =
    let σ = symbols_of c.args.scope.now in
    bound_none σ.types (g.P.Inner.spelled σ c.args.duration) (scope_view c.args.scope.now) c.args.args.now c.in_default.len_below

pub read_bound-returns-in_err-vars : goal.read_bound-returns-in_err-vars
read_bound-returns-in_err-vars g t c =
    let σ = symbols_of c.args.scope.now in
    let read = g.P.Inner.spelled σ c.args.duration in
    let scope = scope_view c.args.scope.now in
    let p = err_from_is_err_and c.from_residual.result c.from_residual.ensures.1 in
    rw (p.1, p.2) (fails_same c.in_err-vars.field-0.0 _ _ (bound_first σ.types read scope c.args.args.now c.list-item.result c.in-len1-up.len_at_least c.list-item.is) (fails_bind c.in_err-vars.field-0.0 _ _ c.in_err-vars.ensures))

pub read_bound-returns-in_default-body : goal.read_bound-returns-in_default-body
read_bound-returns-in_default-body g t c =
    let σ = symbols_of c.args.scope.now in
    let read = g.P.Inner.spelled σ c.args.duration in
    let scope = scope_view c.args.scope.now in
    let vs : List Declared = map typed_view c.in_ok-vars.vars.items in
    let ys = take (length c.args.args.now - 1) (drop 1 c.args.args.now) in
    let first = bound_first σ.types read scope c.args.args.now c.list-item.result c.in-len1-up.len_at_least c.list-item.is ∙ ap (λ o. o >>= λ (ws : List Declared). option_map (for_each ws) (only_part σ.types read (ws ++ scope) (shapes ys))) c.in_ok-vars.ensures in
    first ∙ ap (option_map (for_each vs)) (only_none σ.types read (vs ++ scope) ys c.in_default-body.len_below)

pub read_bound-returns-then-not-is_empty : goal.read_bound-returns-then-not-is_empty
read_bound-returns-then-not-is_empty g t c =
    let σ = symbols_of c.args.scope.now in
    let read = g.P.Inner.spelled σ c.args.duration in
    let scope = scope_view c.args.scope.now in
    let vs : List Declared = map typed_view c.in_ok-vars.vars.items in
    let ys = take (length c.args.args.now - 1) (drop 1 c.args.args.now) in
    let first = bound_first σ.types read scope c.args.args.now c.list-item.result c.in-len1-up.len_at_least c.list-item.is ∙ ap (λ o. o >>= λ (ws : List Declared). option_map (for_each ws) (only_part σ.types read (ws ++ scope) (shapes ys))) c.in_ok-vars.ensures in
    first ∙ ap (option_map (for_each vs)) (only_many σ.types read (vs ++ scope) ys (eqb-false _ 0 (sym c.is_empty.ensures ∙ c.if-not-is_empty.true)))

pub read_bound-returns-in_err-inner : goal.read_bound-returns-in_err-inner
read_bound-returns-in_err-inner g t c =
    let σ = symbols_of c.args.scope.now in
    let read = g.P.Inner.spelled σ c.args.duration in
    let scope = scope_view c.args.scope.now in
    let vs : List Declared = map typed_view c.in_ok-vars.vars.items in
    let ys = take (length c.args.args.now - 1) (drop 1 c.args.args.now) in
    let first = bound_first σ.types read scope c.args.args.now c.list-item.result c.in-len1-up.len_at_least c.list-item.is ∙ ap (λ o. o >>= λ (ws : List Declared). option_map (for_each ws) (only_part σ.types read (ws ++ scope) (shapes ys))) c.in_ok-vars.ensures in
    let p = err_from_is_err_and c.from_residual-in_err-inner.result c.from_residual-in_err-inner.ensures.1 in
    let same = only_one σ.types read (vs ++ scope) ys c.tree-item.result c.in-len1-up-body.len_at_least c.tree-item.is (eqb-true (length (take (length ys - 1) (drop 1 ys))) 0 (sym c.is_empty.ensures ∙ c.if-not-is_empty.false)) ∙ ap (λ (τ : Symbols). joined_of τ.types (g.P.Inner.spelled τ c.args.duration) (vs ++ scope) (shape_of c.tree-item.result)) (sym c.inside-wider.ensures.symbols) ∙ ap (λ (ds : List Declared). joined_of (symbols_of c.inside-wider.result).types (g.P.Inner.spelled (symbols_of c.inside-wider.result) c.args.duration) ds (shape_of c.tree-item.result)) (sym (c.inside-wider.ensures.view ∙ ap (λ (ts : List Typed). map typed_view ts ++ scope) c.in_ok-known.ensures.items)) in
    rw (p.1, p.2) (fails_same c.in_err-inner.field-0.0 _ _ (first ∙ ap (option_map (for_each vs)) same) (fails_map (for_each vs) c.in_err-inner.field-0.0 _ c.in_err-inner.ensures))

pub read_bound-returns : goal.read_bound-returns
read_bound-returns g t c =
    let σ = symbols_of c.args.scope.now in
    let read = g.P.Inner.spelled σ c.args.duration in
    let scope = scope_view c.args.scope.now in
    let vs : List Declared = map typed_view c.in_ok-vars.vars.items in
    let ys = take (length c.args.args.now - 1) (drop 1 c.args.args.now) in
    let first = bound_first σ.types read scope c.args.args.now c.list-item.result c.in-len1-up.len_at_least c.list-item.is ∙ ap (λ o. o >>= λ (ws : List Declared). option_map (for_each ws) (only_part σ.types read (ws ++ scope) (shapes ys))) c.in_ok-vars.ensures in
    let same = only_one σ.types read (vs ++ scope) ys c.tree-item.result c.in-len1-up-body.len_at_least c.tree-item.is (eqb-true (length (take (length ys - 1) (drop 1 ys))) 0 (sym c.is_empty.ensures ∙ c.if-not-is_empty.false)) ∙ ap (λ (τ : Symbols). joined_of τ.types (g.P.Inner.spelled τ c.args.duration) (vs ++ scope) (shape_of c.tree-item.result)) (sym c.inside-wider.ensures.symbols) ∙ ap (λ (ds : List Declared). joined_of (symbols_of c.inside-wider.result).types (g.P.Inner.spelled (symbols_of c.inside-wider.result) c.args.duration) ds (shape_of c.tree-item.result)) (sym (c.inside-wider.ensures.view ∙ ap (λ (ts : List Typed). map typed_view ts ++ scope) c.in_ok-known.ensures.items)) in
    first ∙ ap (option_map (for_each vs)) (same ∙ c.in_ok-inner.ensures)
    ∙ ap Some (sym (forall_view g.P.Inner.seen c.into_items.result c.in_ok-new.field-0 ∙ ap (λ (ts : List Typed). for_each (map typed_view ts) (joined_view g.P.Inner.seen c.in_ok-new.field-0.value)) (c.into_items.ensures ∙ c.in_ok-known.ensures.items) ∙ ap (for_each vs) (ap (joined_view g.P.Inner.seen) c.in_ok-new.ensures.ok)))
