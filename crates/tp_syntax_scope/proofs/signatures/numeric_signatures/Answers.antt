use Rattle.std.proofs.Common.{map, refl, ap, sym, ◌∙◌}
use Rattle.std.proofs.lemmas.List.{map-append}
use Rattle.std.proofs.lemmas.Result.{err_from_is_err_and}
use Rattle.tp_syntax_ast.specs.Symbols.{signature_view}
use Rattle.tp_syntax_types.specs.TypeViews.{types_view}
use Rattle.tp_syntax_scope.proofs.OnSignatures.{numeric_begins, signature_fails, signature_goes_on, dash_last, dash_fails, dash_goes_on, numeric_over}
use Rattle.tp_syntax_scope.proofs.signatures.numeric_signatures.Goals as goal

pub signatures-init : goal.signatures-init
signatures-init c = numeric_begins (types_view c.args.types.now) _ _ (ap (map signature_view) c.new-signatures.ensures.items)

pub returns-in_default-others : goal.returns-in_default-others
returns-in_default-others c = dash_last (types_view c.args.types.now) _ _ c.signatures.rest.now c.first-item.result _ c.in-len1-up.len_at_least c.first-item.is c.signatures.invariant (sym c.ends_run.ensures ∙ c.if-ends_run.true) c.in_default-others.len_below

pub returns-then-not-is_number : goal.returns-then-not-is_number
returns-then-not-is_number c = dash_fails (types_view c.args.types.now) _ _ c.signatures.rest.now c.first-item.result _ c.in-len1-up.len_at_least c.first-item.is c.signatures.invariant _ c.kind-item.result refl (sym c.ends_run.ensures ∙ c.if-ends_run.true) c.in-len1-up-others.len_at_least c.kind-item.is (sym c.is_number.ensures ∙ c.if-not-is_number.true)

pub signatures-preserved-then-ends_run : goal.signatures-preserved-then-ends_run
signatures-preserved-then-ends_run c = dash_goes_on (types_view c.args.types.now) _ _ c.signatures.rest.now c.first-item.result _ c.in-len1-up.len_at_least c.first-item.is c.signatures.invariant _ c.kind-item.result refl (sym c.ends_run.ensures ∙ c.if-ends_run.true) c.in-len1-up-others.len_at_least c.kind-item.is (sym c.is_number.ensures ∙ c.if-not-is_number.false)

pub returns-in_err-signature_at : goal.returns-in_err-signature_at
returns-in_err-signature_at c =
    let p = err_from_is_err_and c.from_residual.result c.from_residual.ensures.1 in
    rw (p.1, p.2) (signature_fails (types_view c.args.types.now) _ _ c.signatures.rest.now c.first-item.result _ c.in-len1-up.len_at_least c.first-item.is c.signatures.invariant c.in_err-signature_at.field-0.0 (sym c.ends_run.ensures ∙ c.if-ends_run.false) c.in_err-signature_at.ensures)

pub signatures-preserved : goal.signatures-preserved
signatures-preserved c = signature_goes_on (types_view c.args.types.now) _ _ c.signatures.rest.now c.first-item.result _ c.in-len1-up.len_at_least c.first-item.is c.signatures.invariant _ _ (sym c.ends_run.ensures ∙ c.if-ends_run.false) c.in_ok-signature_at.ensures
    (ap (map signature_view) c.in_ok-push.ensures.items ∙ map-append signature_view _ _)

pub returns : goal.returns
returns c = numeric_over (types_view c.args.types.now) _ _ c.signatures.rest.now _ c.in_default.len_below c.signatures.invariant
