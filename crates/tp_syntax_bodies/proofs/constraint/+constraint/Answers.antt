use Rattle.std.proofs.Common.{◌-◌, List, length, take, drop, Some, map, option_map, ap, sym, ◌∙◌}
use Rattle.std.proofs.lemmas.List.{map-append}
use Rattle.std.proofs.lemmas.Bool.{eqb-true, eqb-false}
use Rattle.std.proofs.lemmas.Result.{err_from_is_err_and}
use Rattle.tp_text.specs.Shapes.{Shape}
use Rattle.tp_syntax_scope.specs.ScopeViews.{scope_view, symbols_of}
use Rattle.tp_syntax_ast.specs.Effects.{Constraint, all_constraints, constraints_in, constraint_of}
use Rattle.tp_syntax_ast.specs.ConstraintViews.{constraint_view}
use Rattle.tp_syntax_ast.proofs.Loops.{goes_on, fails, ends}
use Rattle.tp_syntax_ast.proofs.OnGives.{fails_map, fails_same, gives_same, fails_with}
use Rattle.tp_syntax_ast.proofs.OnLists.{a_word, empty_list, list_first, word_first}
use Rattle.tp_syntax_bodies.proofs.OnConstraints.{and_view, and_none, each_constraint, at_word, at_nothing, at_list, by_form, start_none, start_first, only_none, only_one, only_many}
use Rattle.tp_syntax_bodies.proofs.constraint.+constraint.Goals as goal

pub read_constraint-returns-in-Word : goal.read_constraint-returns-in-Word
read_constraint-returns-in-Word t c =
    let σ = symbols_of c.args.scope.now in
    let scope = scope_view c.args.scope.now in
    let f = λ (s : Shape). constraint_of σ scope s in
    a_word f _ _ c.in-Word.is ∙ at_word σ scope _

pub read_constraint-returns-in_default : goal.read_constraint-returns-in_default
read_constraint-returns-in_default t c =
    let σ = symbols_of c.args.scope.now in
    let scope = scope_view c.args.scope.now in
    let f = λ (s : Shape). constraint_of σ scope s in
    empty_list f _ _ _ c.as_slice.result.now c.in-List.is c.as_slice.ensures.value c.in_default.len_below ∙ at_nothing σ scope ∙ ap Some (and_none c.new.result c.new.ensures.items)

pub read_constraint-returns-in_default-first : goal.read_constraint-returns-in_default-first
read_constraint-returns-in_default-first t c =
    let σ = symbols_of c.args.scope.now in
    let scope = scope_view c.args.scope.now in
    let f = λ (s : Shape). constraint_of σ scope s in
    list_first f _ _ _ c.as_slice.result.now c.first-item.result _ _ c.in-List.is c.as_slice.ensures.value c.in-len1-up.len_at_least c.first-item.is c.in_default-first.is ∙ at_list σ scope _ _

pub read_constraint-returns-in_err-constraints-in-And : goal.read_constraint-returns-in_err-constraints-in-And
read_constraint-returns-in_err-constraints-in-And t c =
    let σ = symbols_of c.args.scope.now in
    let scope = scope_view c.args.scope.now in
    let f = λ (s : Shape). constraint_of σ scope s in
    let is = word_first f _ _ _ c.as_slice.result.now c.first-item.result _ c.in-List.is c.as_slice.ensures.value c.in-len1-up.len_at_least c.first-item.is c.in-Word-first.is ∙ by_form σ scope _ _ c.constraint_form_of.result _ c.constraint_form_of.ensures c.in-And.is in
    let p = err_from_is_err_and c.from_residual.result c.from_residual.ensures.1 in
    rw (p.1, p.2) (fails_same c.in_err-constraints-in-And.field-0.0 _ _ is (fails_map (λ (rs : List Constraint). all_constraints (constraints_in rs)) c.in_err-constraints-in-And.field-0.0 _ c.in_err-constraints-in-And.ensures))

pub read_constraint-returns-in_ok-constraints-in-And : goal.read_constraint-returns-in_ok-constraints-in-And
read_constraint-returns-in_ok-constraints-in-And t c =
    let σ = symbols_of c.args.scope.now in
    let scope = scope_view c.args.scope.now in
    let f = λ (s : Shape). constraint_of σ scope s in
    let is = word_first f _ _ _ c.as_slice.result.now c.first-item.result _ c.in-List.is c.as_slice.ensures.value c.in-len1-up.len_at_least c.first-item.is c.in-Word-first.is ∙ by_form σ scope _ _ c.constraint_form_of.result _ c.constraint_form_of.ensures c.in-And.is in
    is ∙ ap (option_map (λ (rs : List Constraint). all_constraints (constraints_in rs))) c.in_ok-constraints-in-And.ensures ∙ ap Some (sym (and_view c.in_ok-constraints-in-And.constraints))

pub read_constraint-returns-in-At : goal.read_constraint-returns-in-At
read_constraint-returns-in-At t c =
    let σ = symbols_of c.args.scope.now in
    let scope = scope_view c.args.scope.now in
    let f = λ (s : Shape). constraint_of σ scope s in
    let is = word_first f _ _ _ c.as_slice.result.now c.first-item.result _ c.in-List.is c.as_slice.ensures.value c.in-len1-up.len_at_least c.first-item.is c.in-Word-first.is ∙ by_form σ scope _ _ c.constraint_form_of.result _ c.constraint_form_of.ensures c.in-At.is in
    gives_same constraint_view _ _ _ is c.read_start.ensures

pub read_constraint-returns-in-Limit : goal.read_constraint-returns-in-Limit
read_constraint-returns-in-Limit t c =
    let σ = symbols_of c.args.scope.now in
    let scope = scope_view c.args.scope.now in
    let f = λ (s : Shape). constraint_of σ scope s in
    let is = word_first f _ _ _ c.as_slice.result.now c.first-item.result _ c.in-List.is c.as_slice.ensures.value c.in-len1-up.len_at_least c.first-item.is c.in-Word-first.is ∙ by_form σ scope _ _ c.constraint_form_of.result _ c.constraint_form_of.ensures c.in-Limit.is in
    gives_same constraint_view _ _ _ is c.limited.ensures

pub read_constraints-returns-in_err-read_constraint : goal.read_constraints-returns-in_err-read_constraint
read_constraints-returns-in_err-read_constraint t c =
    let each = each_constraint (symbols_of c.args.scope.now) (scope_view c.args.scope.now) in
    let p = err_from_is_err_and c.from_residual.result c.from_residual.ensures.1 in
    rw (p.1, p.2) (fails each c.in_err-read_constraint.field-0.0 _ c.args.trees.now c.loop-tree.tree-index c.tree-item.result _ c.loop-tree-test.true c.tree-item.is c.in_err-read_constraint.ensures c.loop-tree.invariant)

pub read_constraints-loop-tree-preserved : goal.read_constraints-loop-tree-preserved
read_constraints-loop-tree-preserved t c =
    let each = each_constraint (symbols_of c.args.scope.now) (scope_view c.args.scope.now) in
    goes_on each _ _ c.args.trees.now c.loop-tree.tree-index c.tree-item.result _ _ c.loop-tree-test.true c.tree-item.is c.in_ok-read_constraint.ensures
    (ap (map constraint_view) c.in_ok-push.ensures.items ∙ map-append constraint_view _ _)
    c.loop-tree.invariant

pub read_constraints-returns : goal.read_constraints-returns
read_constraints-returns t c =
    let each = each_constraint (symbols_of c.args.scope.now) (scope_view c.args.scope.now) in
    ends each _ c.args.trees.now c.loop-tree.tree-index _ c.loop-tree-test.false c.loop-tree.invariant

pub read_start-returns-in_default : goal.read_start-returns-in_default
read_start-returns-in_default t c = start_none (symbols_of c.args.scope.now) (scope_view c.args.scope.now) c.args.args.now c.in_default.len_below

pub read_start-returns-then-not-is_start : goal.read_start-returns-then-not-is_start
read_start-returns-then-not-is_start t c =
    let σ = symbols_of c.args.scope.now in
    let scope = scope_view c.args.scope.now in
    fails_with c.specifier_fault.result _ (start_first σ scope c.args.args.now c.moment-item.result _ c.in-len1-up.len_at_least c.moment-item.is (sym c.is_start.ensures ∙ c.if-not-is_start.true))

pub read_start-returns-in_default-body : goal.read_start-returns-in_default-body
read_start-returns-in_default-body t c =
    let σ = symbols_of c.args.scope.now in
    let scope = scope_view c.args.scope.now in
    start_first σ scope c.args.args.now c.moment-item.result _ c.in-len1-up.len_at_least c.moment-item.is (sym c.is_start.ensures ∙ c.if-not-is_start.false)
    ∙ only_none σ scope (take (length c.args.args.now - 1) (drop 1 c.args.args.now)) c.in_default-body.len_below

pub read_start-returns-then-not-is_empty : goal.read_start-returns-then-not-is_empty
read_start-returns-then-not-is_empty t c =
    let σ = symbols_of c.args.scope.now in
    let scope = scope_view c.args.scope.now in
    let ys = take (length c.args.args.now - 1) (drop 1 c.args.args.now) in
    start_first σ scope c.args.args.now c.moment-item.result _ c.in-len1-up.len_at_least c.moment-item.is (sym c.is_start.ensures ∙ c.if-not-is_start.false)
    ∙ only_many σ scope ys (eqb-false _ 0 (sym c.is_empty.ensures ∙ c.if-not-is_empty.true))

pub read_start-returns : goal.read_start-returns
read_start-returns t c =
    let σ = symbols_of c.args.scope.now in
    let scope = scope_view c.args.scope.now in
    let ys = take (length c.args.args.now - 1) (drop 1 c.args.args.now) in
    gives_same constraint_view _ _ _
    (start_first σ scope c.args.args.now c.moment-item.result _ c.in-len1-up.len_at_least c.moment-item.is (sym c.is_start.ensures ∙ c.if-not-is_start.false)
    ∙ only_one σ scope ys c.tree-item.result c.in-len1-up-body.len_at_least c.tree-item.is (eqb-true (length (take (length ys - 1) (drop 1 ys))) 0 (sym c.is_empty.ensures ∙ c.if-not-is_empty.false)))
    c.read_constraint.ensures
