-- Sections of predicates, of functions and of types, as they are read.
use Rattle.std.specs.Prelude.{◌≡◌, ℕ, List, ◌++◌, map, false, Option}
use Rattle.std.specs.Borrow.{Bor}
use Rattle.std.specs.List.{list_any}
use Rattle.std.specs.Str.{bytes_eq}
use Rattle.tp_text.specs.Shapes.{Shapes}
use Rattle.tp_syntax_ast.specs.Gives.{◌>>=◌}
use Rattle.tp_syntax_ast.specs.Symbols.{Name, Parent, SignatureView, parent_view}
use Rattle.tp_syntax_ast.specs.Domains.{signatures_of, numeric_signatures, named_once, mentioned}
use Rattle.tp_syntax_ast.specs.declared.types.TypeName.{TypeName}

-- predicates, each once
abbrev pub predicates_in : List Parent → Shapes → Option (List SignatureView)
predicates_in types ss = signatures_of types ss >>= named_once

-- functions, each once
abbrev pub functions_in : List Parent → Shapes → Option (List SignatureView)
functions_in types ss = numeric_signatures types false ss >>= named_once

abbrev pub names_in : List (Bor (List ℕ)) → List Name
names_in keys = map (λ k. k.now) keys

-- the keys are these names, in whatever order
abbrev pub Knows : List (Bor (List ℕ)) → List Name → Type 0
Knows keys names = (n : Name) → list_any (λ k. bytes_eq n k.now) keys ≡ list_any (bytes_eq n) names

-- those that are declared by mention so far, and those that will be
abbrev pub to_mention : List TypeName → List (Bor (List ℕ)) → List Parent → List Parent
to_mention done keys ps = map parent_view done ++ mentioned (names_in keys) ps
