-- Objects that were looked for before.
use Rattle.std.specs.Prelude.{Bool, List, [], map, string_bytes}
use Rattle.tp_syntax_ast.specs.Symbols.{Name, Declared}
use Rattle.tp_ground_bindings.specs.Bindings.{Universe, choices}
use Rattle.tp_task.specs.Words.{same_words}
use Rattle.tp_ground_bindings.specs.declared.objects.Known.{Known}

-- something of these types
abbrev pub of_types : List Name → Declared
of_types ts = record { name = []; types = ts }

-- whether these are the objects that fit the types
abbrev pub is_known : Universe → Known → Bool
is_known u k =
    same_words
    (map (λ o. o.now) k.names.items) (choices u (of_types (map string_bytes k.types.now)))
