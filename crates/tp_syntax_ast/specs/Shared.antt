-- Items that share their types, and types that share their parent.
use Rattle.std.specs.Prelude.{ℕ, List, [], map, Bool, codes, string_bytes}
use Rattle.tp_syntax_ast.specs.Rows.{AreRows}
use Rattle.tp_syntax_ast.specs.declared.symbols.Typed.{Typed}
use Rattle.tp_syntax_ast.specs.declared.types.TypeName.{TypeName}

abbrev pub types_in : Typed → List (List ℕ)
types_in t = map string_bytes t.types.value.items

abbrev pub parent_in : TypeName → List ℕ
parent_in t = string_bytes t.parent.value

-- an item that is marked has the types of the one before it
abbrev pub ShareTypes : List Bool → List Typed → Type 0
ShareTypes ms ts = AreRows ms [] (map types_in ts)

-- a type that is marked has the parent of the one before it; the first, 'object'
abbrev pub ShareParents : List Bool → List TypeName → Type 0
ShareParents ms ts = AreRows ms (codes "object") (map parent_in ts)
