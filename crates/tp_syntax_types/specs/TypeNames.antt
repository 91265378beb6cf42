-- The names of types.
use Rattle.std.specs.Prelude.{string_bytes}
use Rattle.tp_syntax_ast.specs.Symbols.{Name}
use Rattle.tp_syntax_ast.specs.declared.types.TypeName.{TypeName}

abbrev pub type_name : TypeName → Name
type_name t = string_bytes t.name
