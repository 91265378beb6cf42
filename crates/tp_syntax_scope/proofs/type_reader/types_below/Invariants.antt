use Rattle.std.proofs.Common.{◌≡◌, map, take, string_bytes}
use Rattle.tp_syntax_ast.specs.Symbols.{parent_view, typed_view}
use Rattle.tp_syntax_ast.specs.Domains.{object, type_below}
use Rattle.tp_syntax_ast.specs.Rows.{last_of}
use Rattle.tp_syntax_scope.proofs.OnRowViews.{parent_below}
use Rattle.tp_syntax_scope.proofs.type_reader.types_below.Given as goal

abbrev pub invariant-loop-place : goal.invariant-loop-place
invariant-loop-place l = record {
  types : map parent_view l.types.items ≡ map (λ i. type_below (typed_view i)) (take l.place l.items);
  last : string_bytes l.parent.value ≡ last_of object (map parent_below (take l.place l.items));
}
