-- The types of a look-up, as parents.
use Rattle.std.specs.Prelude.{List, map}
use Rattle.tp_syntax_ast.specs.Symbols.{Parent, parent_view}
use Rattle.tp_syntax_types.specs.declared.types.Types.{Types}

abbrev pub types_view : Types → List Parent
types_view t = map parent_view t
