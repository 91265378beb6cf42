use Rattle.std.proofs.Common.{length, refl, sym, ◌∙◌}
use Rattle.std.proofs.lemmas.Option.{slice_get_past, slice_get_read}
use Rattle.tp_syntax_types.proofs.OnTables.{no_item, item_at_place}
use Rattle.tp_syntax_types.specs.OwnTables.{variable_name}
use Rattle.tp_syntax_scope.proofs.variables.at_place.Goals as goal

pub returns-in_default : goal.returns-in_default
returns-in_default c = sym (no_item variable_name c.args.items.now c.args.name.now (sym (c.requires c.args.name.now) ∙ sym c.in_default.ensures.value))

pub returns-in_default-get : goal.returns-in_default-get
returns-in_default-get c = sym (item_at_place variable_name c.args.items.now c.args.name.now _ _ (sym (c.requires c.args.name.now) ∙ sym c.in-Some.ensures.value) (slice_get_past c.args.items.now _ c.in_default-get.ensures.lookup.3))

pub returns : goal.returns
returns c = sym (item_at_place variable_name c.args.items.now c.args.name.now _ _ (sym (c.requires c.args.name.now) ∙ sym c.in-Some.ensures.value) (slice_get_read c.args.items.now (length c.args.items.now) _ c.in-Some-get.item.now refl c.in-Some-get.ensures.lookup.3.0 c.in-Some-get.ensures.lookup.1))
