use Rattle.std.proofs.Common.{◌≡◌, map, drop, string_bytes}
use Rattle.std.specs.List.{list_all}
use Rattle.tp_syntax_types.specs.TypeViews.{types_view}
use Rattle.tp_syntax_ast.specs.TypedLists.{is_type}
use Rattle.tp_syntax_types.proofs.types.are_types.Given as goal

abbrev pub invariant-loop-name : goal.invariant-loop-name
invariant-loop-name l = list_all (is_type (types_view l.types)) (map string_bytes (drop l.name-index l.names)) ≡ list_all (is_type (types_view l.types)) (map string_bytes l.names)
