use Rattle.std.proofs.Common.{Some, map, option_map, ap, sym, subst, ◌∙◌}
use Rattle.std.proofs.lemmas.List.{map-append}
use Rattle.std.proofs.lemmas.Result.{err_from_is_err_and}
use Rattle.tp_text.specs.Shapes.{Shape}
use Rattle.tp_syntax_scope.specs.ScopeViews.{scope_view, symbols_of}
use Rattle.tp_syntax_ast.specs.Gives.{◌>>=◌, Fails}
use Rattle.tp_syntax_ast.proofs.Loops.{goes_on, fails, ends}
use Rattle.tp_syntax_ast.proofs.OnGives.{fails_bind, gives_same, fails_map}
use Rattle.tp_syntax_ast.specs.Expressions.{terms_for, fluent, computed, expression_of}
use Rattle.tp_syntax_ast.specs.ExprViews.{expr_view}
use Rattle.tp_syntax_ast.proofs.OnLists.{a_word, empty_list, list_first, word_first}
use Rattle.tp_syntax_ast.proofs.OnExpressions.{each_expression, at_word, at_nothing, at_list, at_operator, at_fluent, fluent_view}
use Rattle.tp_syntax_bodies.proofs.expr.+expr.Goals as goal

pub read_expr-returns-in-Word : goal.read_expr-returns-in-Word
read_expr-returns-in-Word t c =
    let σ = symbols_of c.args.scope.now in
    let may = terms_for (scope_view c.args.scope.now) c.args.duration in
    let f = λ (s : Shape). expression_of σ may s in
    gives_same expr_view _ _ _ (a_word f _ _ c.in-Word.is ∙ at_word σ may _) c.word_expression.ensures

pub read_expr-returns-in_default : goal.read_expr-returns-in_default
read_expr-returns-in_default t c =
    let σ = symbols_of c.args.scope.now in
    let may = terms_for (scope_view c.args.scope.now) c.args.duration in
    let f = λ (s : Shape). expression_of σ may s in
    empty_list f _ _ _ c.as_slice.result.now c.in-List.is c.as_slice.ensures.value c.in_default.len_below ∙ at_nothing σ may

pub read_expr-returns-in_default-first : goal.read_expr-returns-in_default-first
read_expr-returns-in_default-first t c =
    let σ = symbols_of c.args.scope.now in
    let may = terms_for (scope_view c.args.scope.now) c.args.duration in
    let f = λ (s : Shape). expression_of σ may s in
    list_first f _ _ _ c.as_slice.result.now c.first-item.result _ _ c.in-List.is c.as_slice.ensures.value c.in-len1-up.len_at_least c.first-item.is c.in_default-first.is ∙ at_list σ may _ _

pub read_expr-returns-in_err-exprs : goal.read_expr-returns-in_err-exprs
read_expr-returns-in_err-exprs t c =
    let σ = symbols_of c.args.scope.now in
    let may = terms_for (scope_view c.args.scope.now) c.args.duration in
    let f = λ (s : Shape). expression_of σ may s in
    let is = word_first f _ _ _ c.as_slice.result.now c.first-item.result _ c.in-List.is c.as_slice.ensures.value c.in-len1-up.len_at_least c.first-item.is c.in-Word-first.is ∙ at_operator σ may _ _ c.operator_of-operator.result c.operator_of-operator.ensures (sym c.is_operator.ensures ∙ c.if-is_operator.true) in
    let p = err_from_is_err_and c.from_residual.result c.from_residual.ensures.1 in
    rw (p.1, p.2) (subst (λ o. Fails c.in_err-exprs.field-0.0 o) (sym is) (fails_bind c.in_err-exprs.field-0.0 _ _ c.in_err-exprs.ensures))

pub read_expr-returns-in_err-atom : goal.read_expr-returns-in_err-atom
read_expr-returns-in_err-atom t c =
    let σ = symbols_of c.args.scope.now in
    let may = terms_for (scope_view c.args.scope.now) c.args.duration in
    let f = λ (s : Shape). expression_of σ may s in
    let is = word_first f _ _ _ c.as_slice.result.now c.first-item.result _ c.in-List.is c.as_slice.ensures.value c.in-len1-up.len_at_least c.first-item.is c.in-Word-first.is ∙ at_fluent σ may _ _ c.operator_of-operator.result c.operator_of-operator.ensures (sym c.is_operator.ensures ∙ c.if-is_operator.false) in
    let p = err_from_is_err_and c.from_residual-in_err-atom.result c.from_residual-in_err-atom.ensures.1 in
    rw (p.1, p.2) (subst (λ o. Fails c.in_err-atom.field-0.0 o) (sym is) (fails_map fluent c.in_err-atom.field-0.0 _ c.in_err-atom.ensures))

pub read_expr-returns-in_ok-exprs : goal.read_expr-returns-in_ok-exprs
read_expr-returns-in_ok-exprs t c =
    let σ = symbols_of c.args.scope.now in
    let may = terms_for (scope_view c.args.scope.now) c.args.duration in
    let f = λ (s : Shape). expression_of σ may s in
    let is = word_first f _ _ _ c.as_slice.result.now c.first-item.result _ c.in-List.is c.as_slice.ensures.value c.in-len1-up.len_at_least c.first-item.is c.in-Word-first.is ∙ at_operator σ may _ _ c.operator_of-operator.result c.operator_of-operator.ensures (sym c.is_operator.ensures ∙ c.if-is_operator.true) in
    gives_same expr_view _ _ _ (is ∙ ap (λ o. o >>= computed c.operator_of-operator.result) c.in_ok-exprs.ensures) c.computed.ensures

pub read_expr-returns-in_ok-atom : goal.read_expr-returns-in_ok-atom
read_expr-returns-in_ok-atom t c =
    let σ = symbols_of c.args.scope.now in
    let may = terms_for (scope_view c.args.scope.now) c.args.duration in
    let f = λ (s : Shape). expression_of σ may s in
    let is = word_first f _ _ _ c.as_slice.result.now c.first-item.result _ c.in-List.is c.as_slice.ensures.value c.in-len1-up.len_at_least c.first-item.is c.in-Word-first.is ∙ at_fluent σ may _ _ c.operator_of-operator.result c.operator_of-operator.ensures (sym c.is_operator.ensures ∙ c.if-is_operator.false) in
    is ∙ ap (option_map fluent) c.in_ok-atom.ensures ∙ ap Some (sym (fluent_view c.in_ok-atom.atom))

pub read_exprs-returns-in_err-read_expr : goal.read_exprs-returns-in_err-read_expr
read_exprs-returns-in_err-read_expr t c =
    let each = each_expression (symbols_of c.args.scope.now) (terms_for (scope_view c.args.scope.now) c.args.duration) in
    let p = err_from_is_err_and c.from_residual.result c.from_residual.ensures.1 in
    rw (p.1, p.2) (fails each c.in_err-read_expr.field-0.0 _ c.args.trees.now c.loop-tree.tree-index c.tree-item.result _ c.loop-tree-test.true c.tree-item.is c.in_err-read_expr.ensures c.loop-tree.invariant)

pub read_exprs-loop-tree-preserved : goal.read_exprs-loop-tree-preserved
read_exprs-loop-tree-preserved t c =
    let each = each_expression (symbols_of c.args.scope.now) (terms_for (scope_view c.args.scope.now) c.args.duration) in
    goes_on each _ _ c.args.trees.now c.loop-tree.tree-index c.tree-item.result _ _ c.loop-tree-test.true c.tree-item.is c.in_ok-read_expr.ensures
    (ap (map expr_view) c.in_ok-push.ensures.items ∙ map-append expr_view _ _)
    c.loop-tree.invariant

pub read_exprs-returns : goal.read_exprs-returns
read_exprs-returns t c =
    let each = each_expression (symbols_of c.args.scope.now) (terms_for (scope_view c.args.scope.now) c.args.duration) in
    ends each _ c.args.trees.now c.loop-tree.tree-index _ c.loop-tree-test.false c.loop-tree.invariant
