use Rattle.std.proofs.Common.{map, refl, ap, ◌∙◌}
use Rattle.std.proofs.lemmas.List.{map-append}
use Rattle.std.proofs.lemmas.Result.{err_from_is_err_and}
use Rattle.tp_syntax.specs.Fields.{field_view}
use Rattle.tp_syntax.proofs.OnActions.{key_fails, value_missing, field_goes_on, over}
use Rattle.tp_syntax.proofs.fields.fields_of.Goals as goal

pub returns-in_err-kind : goal.returns-in_err-kind
returns-in_err-kind c =
    let p = err_from_is_err_and c.from_residual.result c.from_residual.ensures.1 in
    rw (p.1, p.2) (key_fails _ c.fields.rest.now c.word-item.result _ c.in-len1-up.len_at_least c.word-item.is c.fields.invariant c.in_err-kind.field-0.0 c.in_err-kind.ensures)

pub returns-in_default-others : goal.returns-in_default-others
returns-in_default-others c = value_missing _ c.fields.rest.now c.word-item.result _ c.in-len1-up.len_at_least c.word-item.is c.fields.invariant c.in_default-others.len_below

pub fields-preserved : goal.fields-preserved
fields-preserved c =
    field_goes_on _ c.fields.rest.now c.word-item.result _ c.in-len1-up.len_at_least c.word-item.is c.fields.invariant _ c.body-item.result c.in_ok-kind.kind _ refl c.in-len1-up-others.len_at_least c.body-item.is c.in_ok-kind.ensures
    (ap (map field_view) c.in_ok-push.ensures.items ∙ map-append field_view _ _)

pub returns : goal.returns
returns c = over _ c.fields.rest.now _ c.in_default.len_below c.fields.invariant
