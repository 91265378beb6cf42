use Rattle.std.proofs.Common.{◌≡◌, map, length}
use Rattle.tp_syntax_ast.specs.Gives.{with_front}
use Rattle.tp_syntax_ast.specs.Terms.{shapes}
use Rattle.tp_syntax_ast.specs.Actions.{fields_of}
use Rattle.tp_syntax.specs.Fields.{field_view}
use Rattle.tp_syntax.proofs.fields.fields_of.Given as goal

abbrev pub invariant-fields : goal.invariant-fields
invariant-fields l = with_front (map field_view l.fields.items) (fields_of (shapes l.rest)) ≡ fields_of (shapes l.trees)

abbrev pub decreases-fields : goal.decreases-fields
decreases-fields l = length l.rest
