use Rattle.std.proofs.Common.{◌≡◌, map, drop}
use Rattle.tp_syntax.specs.Fields.{field_view, are_fields_of}
use Rattle.tp_syntax.proofs.fields.are_fields_of.Given as goal

abbrev pub invariant-loop-field : goal.invariant-loop-field
invariant-loop-field l = are_fields_of l.lasts (map field_view (drop l.field-index l.fields)) ≡ are_fields_of l.lasts (map field_view l.fields)
