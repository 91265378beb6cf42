use Rattle.std.proofs.Common.{List, Some, map, option_map, string_bytes, ap, sym, refl, ◌∙◌}
use Rattle.std.proofs.lemmas.Result.{err_from_is_err_and}
use Rattle.tp_syntax_ast.specs.Symbols.{Name, Parent, Declared, SignatureView, parent_view, typed_view, signature_view}
use Rattle.tp_syntax_types.specs.TypeViews.{types_view}
use Rattle.tp_syntax.specs.SectionViews.{section_body_view}
use Rattle.tp_syntax_ast.specs.DomainViews.{action_view}
use Rattle.tp_syntax_ast.proofs.OnGives.{fails_same, fails_bind, fails_map}
use Rattle.tp_syntax.proofs.OnDomains.{in_order, at_types, at_constants, at_predicates, at_functions, after_all, after_requirements, after_types, after_constants, after_predicates, after_functions, made, symbols_same}
use Rattle.tp_syntax.proofs.domain_reader.domain_with.Goals as goal

pub returns-in_err-requirements : goal.returns-in_err-requirements
returns-in_err-requirements c =
    let n : Name = string_bytes c.args.name in
    let parts = map section_body_view c.args.parts.now in
    let p = err_from_is_err_and c.from_residual.result c.from_residual.ensures.1 in
    rw (p.1, p.2) (fails_same c.in_err-requirements.field-0.0 _ _ (in_order n parts) (fails_bind c.in_err-requirements.field-0.0 _ (after_requirements n parts) c.in_err-requirements.ensures))

pub returns-in_err-types : goal.returns-in_err-types
returns-in_err-types c =
    let n : Name = string_bytes c.args.name in
    let parts = map section_body_view c.args.parts.now in
    let rs : List Name = map string_bytes c.in_ok-requirements.requirements.items in
    let p = err_from_is_err_and c.from_residual-in_err-types.result c.from_residual-in_err-types.ensures.1 in
    rw (p.1, p.2) (fails_same c.in_err-types.field-0.0 _ _ (at_types n parts rs c.in_ok-requirements.ensures) (fails_bind c.in_err-types.field-0.0 _ (after_types n parts rs) c.in_err-types.ensures))

pub returns-in_err-constants : goal.returns-in_err-constants
returns-in_err-constants c =
    let n : Name = string_bytes c.args.name in
    let parts = map section_body_view c.args.parts.now in
    let rs : List Name = map string_bytes c.in_ok-requirements.requirements.items in
    let ts : List Parent = map parent_view c.in_ok-types.types.items in
    let e = c.in_ok-known.ensures ∙ ap (map parent_view) c.as_slice.ensures in
    let so_far = at_constants n parts rs ts (at_types n parts rs c.in_ok-requirements.ensures) c.in_ok-types.ensures ∙ ap (after_types n parts rs) (sym e) in
    let p = err_from_is_err_and c.from_residual-in_err-constants.result c.from_residual-in_err-constants.ensures.1 in
    rw (p.1, p.2) (fails_same c.in_err-constants.field-0.0 _ _ so_far (fails_bind c.in_err-constants.field-0.0 _ (after_constants n parts rs (types_view c.in_ok-known.known)) c.in_err-constants.ensures))

pub returns-in_err-predicates : goal.returns-in_err-predicates
returns-in_err-predicates c =
    let n : Name = string_bytes c.args.name in
    let parts = map section_body_view c.args.parts.now in
    let rs : List Name = map string_bytes c.in_ok-requirements.requirements.items in
    let ts : List Parent = map parent_view c.in_ok-types.types.items in
    let us : List Parent = types_view c.in_ok-known.known in
    let cs : List Declared = map typed_view c.in_ok-constants.constants.items in
    let e = c.in_ok-known.ensures ∙ ap (map parent_view) c.as_slice.ensures in
    let so_far = at_predicates n parts rs us cs (at_constants n parts rs ts (at_types n parts rs c.in_ok-requirements.ensures) c.in_ok-types.ensures ∙ ap (after_types n parts rs) (sym e)) c.in_ok-constants.ensures in
    let p = err_from_is_err_and c.from_residual-in_err-predicates.result c.from_residual-in_err-predicates.ensures.1 in
    rw (p.1, p.2) (fails_same c.in_err-predicates.field-0.0 _ _ so_far (fails_bind c.in_err-predicates.field-0.0 _ (after_predicates n parts rs us cs) c.in_err-predicates.ensures))

pub returns-in_err-functions : goal.returns-in_err-functions
returns-in_err-functions c =
    let n : Name = string_bytes c.args.name in
    let parts = map section_body_view c.args.parts.now in
    let rs : List Name = map string_bytes c.in_ok-requirements.requirements.items in
    let ts : List Parent = map parent_view c.in_ok-types.types.items in
    let us : List Parent = types_view c.in_ok-known.known in
    let cs : List Declared = map typed_view c.in_ok-constants.constants.items in
    let ps : List SignatureView = map signature_view c.in_ok-predicates.predicates.items in
    let e = c.in_ok-known.ensures ∙ ap (map parent_view) c.as_slice.ensures in
    let so_far = at_functions n parts rs us cs ps (at_predicates n parts rs us cs (at_constants n parts rs ts (at_types n parts rs c.in_ok-requirements.ensures) c.in_ok-types.ensures ∙ ap (after_types n parts rs) (sym e)) c.in_ok-constants.ensures) c.in_ok-predicates.ensures in
    let p = err_from_is_err_and c.from_residual-in_err-functions.result c.from_residual-in_err-functions.ensures.1 in
    rw (p.1, p.2) (fails_same c.in_err-functions.field-0.0 _ _ so_far (fails_bind c.in_err-functions.field-0.0 _ (after_functions n parts rs us cs ps) c.in_err-functions.ensures))

pub returns-in_err-actions : goal.returns-in_err-actions
returns-in_err-actions c =
    let n : Name = string_bytes c.args.name in
    let parts = map section_body_view c.args.parts.now in
    let rs : List Name = map string_bytes c.in_ok-requirements.requirements.items in
    let ts : List Parent = map parent_view c.in_ok-types.types.items in
    let us : List Parent = types_view c.in_ok-known.known in
    let cs : List Declared = map typed_view c.in_ok-constants.constants.items in
    let ps : List SignatureView = map signature_view c.in_ok-predicates.predicates.items in
    let fs : List SignatureView = map signature_view c.in_ok-functions.functions.items in
    let e = c.in_ok-known.ensures ∙ ap (map parent_view) c.as_slice.ensures in
    let so_far = after_all n parts rs us cs ps fs (at_functions n parts rs us cs ps (at_predicates n parts rs us cs (at_constants n parts rs ts (at_types n parts rs c.in_ok-requirements.ensures) c.in_ok-types.ensures ∙ ap (after_types n parts rs) (sym e)) c.in_ok-constants.ensures) c.in_ok-predicates.ensures) c.in_ok-functions.ensures
    ∙ ap (option_map (made n parts rs us cs ps fs)) (symbols_same parts _ _ _ _ _ _ _ _ refl (sym (ap (map typed_view) c.deref.ensures.value)) (sym (ap (map signature_view) c.deref-2.ensures.value)) (sym (ap (map signature_view) c.deref-3.ensures.value))) in
    let p = err_from_is_err_and c.from_residual-in_err-actions.result c.from_residual-in_err-actions.ensures.1 in
    rw (p.1, p.2) (fails_same c.in_err-actions.field-0.0 _ _ so_far (fails_map (made n parts rs us cs ps fs) c.in_err-actions.field-0.0 _ c.in_err-actions.ensures))

pub returns : goal.returns
returns c =
    let n : Name = string_bytes c.args.name in
    let parts = map section_body_view c.args.parts.now in
    let rs : List Name = map string_bytes c.in_ok-requirements.requirements.items in
    let ts : List Parent = map parent_view c.in_ok-types.types.items in
    let us : List Parent = types_view c.in_ok-known.known in
    let cs : List Declared = map typed_view c.in_ok-constants.constants.items in
    let ps : List SignatureView = map signature_view c.in_ok-predicates.predicates.items in
    let fs : List SignatureView = map signature_view c.in_ok-functions.functions.items in
    let e = c.in_ok-known.ensures ∙ ap (map parent_view) c.as_slice.ensures in
    after_all n parts rs us cs ps fs (at_functions n parts rs us cs ps (at_predicates n parts rs us cs (at_constants n parts rs ts (at_types n parts rs c.in_ok-requirements.ensures) c.in_ok-types.ensures ∙ ap (after_types n parts rs) (sym e)) c.in_ok-constants.ensures) c.in_ok-predicates.ensures) c.in_ok-functions.ensures
    ∙ ap (option_map (made n parts rs us cs ps fs)) (symbols_same parts _ _ _ _ _ _ _ _ refl (sym (ap (map typed_view) c.deref.ensures.value)) (sym (ap (map signature_view) c.deref-2.ensures.value)) (sym (ap (map signature_view) c.deref-3.ensures.value))
    ∙ c.in_ok-actions.ensures)
    ∙ ap (λ (vs : List Parent). Some (made n parts rs vs cs ps fs (map action_view c.in_ok-actions.actions.items))) e
