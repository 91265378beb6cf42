-- Tables of variables whose names are the table's own.
use Rattle.std.specs.Prelude.{◌≡◌, ℕ, List, Option, Some, None, String, string_bytes}
use Rattle.std.specs.BTreeMap.{BTreeMap, get_by_text}
use Rattle.tp_syntax_types.specs.Tables.{Name, place_of}
use Rattle.tp_syntax_ast.specs.declared.symbols.Typed.{Typed}

abbrev pub variable_name : Typed → Name
variable_name v = string_bytes v.name

-- it has the first place of each name
abbrev pub IsTextTable : {Y : Type 0} → BTreeMap (String Y) ℕ → List Name → Type 0
IsTextTable t ns = (n : Name) → get_by_text t n ≡ place_of n ns

abbrev pub IsTextTableIfAny : {Y : Type 0} → Option (BTreeMap (String Y) ℕ) → List Name → Type 0
IsTextTableIfAny (Some t) ns = IsTextTable t ns
IsTextTableIfAny None ns = Unit {0}
