use Rattle.std.proofs.Common.{◌-◌, List, Option, Some, length, take, drop, map, option_map, string_bytes, ap, sym, ◌∙◌}
use Rattle.std.proofs.lemmas.Result.{err_from_is_err_and}
use Rattle.tp_text.specs.Shapes.{Shapes}
use Rattle.tp_syntax_ast.specs.Gives.{◌>>=◌}
use Rattle.tp_syntax_ast.specs.Terms.{shapes}
use Rattle.tp_syntax_ast.specs.Actions.{Field, action_of, body_of}
use Rattle.tp_syntax.specs.Fields.{field_view, checked_fields}
use Rattle.tp_syntax_ast.specs.Symbols.{Name, Declared, typed_view, Symbols}
use Rattle.tp_syntax_scope.specs.SymbolViews.{symbols_view}
use Rattle.tp_syntax_ast.specs.DomainViews.{body_view}
use Rattle.tp_syntax_ast.specs.declared.symbols.Typed.{Typed}
use Rattle.tp_syntax_ast.proofs.OnGives.{fails_same, fails_bind, fails_map}
use Rattle.tp_syntax_ast.proofs.OnFirsts.{no_trees, a_first_word, a_first_list}
use Rattle.tp_syntax.proofs.OnActions.{no_action, no_name, by_name, after_name, after_fields, after_parameters, with_body}
use Rattle.tp_syntax.proofs.action_reader.read_action.Goals as goal

pub returns-in_default : goal.returns-in_default
returns-in_default c = let f = λ (ss : Shapes). action_of (symbols_view c.args.symbols.now) c.args.lasts ss in
    no_trees f c.args.trees.now c.in_default.len_below ∙ no_action (symbols_view c.args.symbols.now) c.args.lasts

pub returns-in_default-first : goal.returns-in_default-first
returns-in_default-first c = let f = λ (ss : Shapes). action_of (symbols_view c.args.symbols.now) c.args.lasts ss in
    a_first_list f c.args.trees.now c.first-item.result _ _ c.in-len1-up.len_at_least c.first-item.is c.in_default-first.is ∙ no_name (symbols_view c.args.symbols.now) c.args.lasts _ _

pub returns-in_err-name : goal.returns-in_err-name
returns-in_err-name c =
    let σ = symbols_view c.args.symbols.now in
    let lasts = c.args.lasts in
    let f = λ (ss : Shapes). action_of σ lasts ss in
    let rest = shapes (take (length c.args.trees.now - 1) (drop 1 c.args.trees.now)) in
    let is = a_first_word f c.args.trees.now c.first-item.result _ c.in-len1-up.len_at_least c.first-item.is c.in-Word.is ∙ by_name σ lasts _ rest in
    let p = err_from_is_err_and c.from_residual.result c.from_residual.ensures.1 in
    rw (p.1, p.2) (fails_same c.in_err-name.field-0.0 _ _ is (fails_bind c.in_err-name.field-0.0 _ (after_name σ lasts rest) c.in_err-name.ensures))

pub returns-in_err-fields : goal.returns-in_err-fields
returns-in_err-fields c =
    let σ = symbols_view c.args.symbols.now in
    let lasts = c.args.lasts in
    let f = λ (ss : Shapes). action_of σ lasts ss in
    let rest = shapes (take (length c.args.trees.now - 1) (drop 1 c.args.trees.now)) in
    let n : Name = string_bytes c.in_ok-name.name in
    let is = a_first_word f c.args.trees.now c.first-item.result _ c.in-len1-up.len_at_least c.first-item.is c.in-Word.is ∙ by_name σ lasts _ rest ∙ ap (λ (o : Option Name). o >>= after_name σ lasts rest) c.in_ok-name.ensures in
    let p = err_from_is_err_and c.from_residual-in_err-fields.result c.from_residual-in_err-fields.ensures.1 in
    rw (p.1, p.2) (fails_same c.in_err-fields.field-0.0 _ _ is (fails_bind c.in_err-fields.field-0.0 (checked_fields lasts rest) (after_fields σ lasts n) c.in_err-fields.ensures))

pub returns-in_err-parameters : goal.returns-in_err-parameters
returns-in_err-parameters c =
    let σ = symbols_view c.args.symbols.now in
    let lasts = c.args.lasts in
    let f = λ (ss : Shapes). action_of σ lasts ss in
    let rest = shapes (take (length c.args.trees.now - 1) (drop 1 c.args.trees.now)) in
    let n : Name = string_bytes c.in_ok-name.name in
    let is = a_first_word f c.args.trees.now c.first-item.result _ c.in-len1-up.len_at_least c.first-item.is c.in-Word.is ∙ by_name σ lasts _ rest ∙ ap (λ (o : Option Name). o >>= after_name σ lasts rest) c.in_ok-name.ensures
    ∙ ap (λ (o : Option (List Field)). o >>= after_fields σ lasts n) c.in_ok-fields.ensures ∙ ap (after_fields σ lasts n) (sym (ap (map field_view) c.deref.ensures.value)) in
    let p = err_from_is_err_and c.from_residual-in_err-parameters.result c.from_residual-in_err-parameters.ensures.1 in
    rw (p.1, p.2) (fails_same c.in_err-parameters.field-0.0 _ _ is (fails_bind c.in_err-parameters.field-0.0 _ (after_parameters σ lasts n (map field_view c.deref.result.now)) c.in_err-parameters.ensures))

pub returns-in_err-body : goal.returns-in_err-body
returns-in_err-body c =
    let σ = symbols_view c.args.symbols.now in
    let lasts = c.args.lasts in
    let f = λ (ss : Shapes). action_of σ lasts ss in
    let rest = shapes (take (length c.args.trees.now - 1) (drop 1 c.args.trees.now)) in
    let n : Name = string_bytes c.in_ok-name.name in
    let vs : List Declared = map typed_view c.in_ok-parameters.parameters.items in
    let ds : List Declared = map typed_view c.in_ok-known.known.items in
    let is = a_first_word f c.args.trees.now c.first-item.result _ c.in-len1-up.len_at_least c.first-item.is c.in-Word.is ∙ by_name σ lasts _ rest ∙ ap (λ (o : Option Name). o >>= after_name σ lasts rest) c.in_ok-name.ensures
    ∙ ap (λ (o : Option (List Field)). o >>= after_fields σ lasts n) c.in_ok-fields.ensures ∙ ap (after_fields σ lasts n) (sym (ap (map field_view) c.deref.ensures.value))
    ∙ ap (λ (o : Option (List Declared)). o >>= after_parameters σ lasts n (map field_view c.deref.result.now)) c.in_ok-parameters.ensures
    ∙ ap (λ (ws : List Declared). option_map (with_body n vs) (body_of σ lasts ws (map field_view c.deref.result.now))) (sym (ap (map typed_view) c.in_ok-known.ensures.items))
    ∙ ap (λ (gs : List Field). option_map (with_body n vs) (body_of σ lasts ds gs)) (ap (map field_view) c.deref.ensures.value ∙ sym (ap (map field_view) c.deref-2.ensures.value))
    ∙ ap (λ (τ : Symbols). option_map (with_body n vs) (body_of τ lasts ds (map field_view c.deref-2.result.now))) (sym (c.in_ok-known.ensures.symbols ∙ c.of-none.ensures.symbols)) in
    let p = err_from_is_err_and c.from_residual-in_err-body.result c.from_residual-in_err-body.ensures.1 in
    rw (p.1, p.2) (fails_same c.in_err-body.field-0.0 _ _ is (fails_map (with_body n vs) c.in_err-body.field-0.0 _ c.in_err-body.ensures))

pub returns : goal.returns
returns c =
    let σ = symbols_view c.args.symbols.now in
    let lasts = c.args.lasts in
    let f = λ (ss : Shapes). action_of σ lasts ss in
    let rest = shapes (take (length c.args.trees.now - 1) (drop 1 c.args.trees.now)) in
    let n : Name = string_bytes c.in_ok-name.name in
    let vs : List Declared = map typed_view c.in_ok-parameters.parameters.items in
    let ds : List Declared = map typed_view c.in_ok-known.known.items in
    a_first_word f c.args.trees.now c.first-item.result _ c.in-len1-up.len_at_least c.first-item.is c.in-Word.is ∙ by_name σ lasts _ rest ∙ ap (λ (o : Option Name). o >>= after_name σ lasts rest) c.in_ok-name.ensures
    ∙ ap (λ (o : Option (List Field)). o >>= after_fields σ lasts n) c.in_ok-fields.ensures ∙ ap (after_fields σ lasts n) (sym (ap (map field_view) c.deref.ensures.value))
    ∙ ap (λ (o : Option (List Declared)). o >>= after_parameters σ lasts n (map field_view c.deref.result.now)) c.in_ok-parameters.ensures
    ∙ ap (λ (ws : List Declared). option_map (with_body n vs) (body_of σ lasts ws (map field_view c.deref.result.now))) (sym (ap (map typed_view) c.in_ok-known.ensures.items))
    ∙ ap (λ (gs : List Field). option_map (with_body n vs) (body_of σ lasts ds gs)) (ap (map field_view) c.deref.ensures.value ∙ sym (ap (map field_view) c.deref-2.ensures.value))
    ∙ ap (λ (τ : Symbols). option_map (with_body n vs) (body_of τ lasts ds (map field_view c.deref-2.result.now))) (sym (c.in_ok-known.ensures.symbols ∙ c.of-none.ensures.symbols))
    ∙ ap (option_map (with_body n vs)) c.in_ok-body.ensures
    ∙ ap (λ (ts : List Typed). Some (with_body n (map typed_view ts) (body_view c.in_ok-body.body))) (sym (c.into_items.ensures ∙ c.in_ok-known.ensures.items))
