use Rattle.std.proofs.Common.{Some, String, Global, string_bytes, ap, sym, ◌∙◌}
use Rattle.tp_syntax_types.proofs.OnTypes.{no_place, at_the_place, slice_at}
use Rattle.std.proofs.lemmas.Option.{slice_get_past}
use Rattle.tp_syntax_types.proofs.types.parent_among.Goals as goal

pub returns-in_default : goal.returns-in_default
returns-in_default c = sym (no_place c.args.types.now c.args.name.now (sym (c.requires c.args.name.now) ∙ sym c.in_default.ensures.value))

pub returns-in_default-get : goal.returns-in_default-get
returns-in_default-get c = sym (at_the_place c.args.types.now c.args.name.now _ _ (sym (c.requires c.args.name.now) ∙ sym c.in-Some.ensures.value) (slice_get_past c.args.types.now _ c.in_default-get.ensures.lookup.3))

pub returns : goal.returns
returns c = ap (λ (s : String Global). Some (string_bytes s)) c.as_ref.ensures ∙ sym (at_the_place c.args.types.now c.args.name.now _ _ (sym (c.requires c.args.name.now) ∙ sym c.in-Some.ensures.value) (slice_at c.args.types.now _ c.in-Some-get.declared.now c.in-Some-get.ensures.lookup.3.0 c.in-Some-get.ensures.lookup.1))
