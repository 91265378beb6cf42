-- The signatures that declare a name, and the types of a parameter.
use Rattle.std.specs.Prelude.{ℕ, List, Option, option_map, slice_get}
use Rattle.tp_syntax_ast.specs.Symbols.{Name, Declared, SignatureView, Symbols}
use Rattle.tp_syntax_scope.specs.declared.symbols.Kind.{Kind}
use Rattle.tp_syntax_scope.specs.declared.symbols.Kind.TheVariants.{Predicate, Function}

abbrev pub signatures_of : Kind → Symbols → List SignatureView
signatures_of Predicate σ = σ.predicates
signatures_of Function σ = σ.functions

-- the types of the item at a place, if one is there
abbrev pub types_at : List Declared → ℕ → Option (List Name)
types_at ds k = option_map (λ d. d.types) (slice_get ds k)
