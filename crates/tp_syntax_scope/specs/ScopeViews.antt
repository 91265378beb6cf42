-- What may be named at a place: what is declared, and the variables in scope, as lists.
use Rattle.std.specs.Prelude.{List}
use Rattle.tp_syntax_ast.specs.Symbols.{Declared, Symbols}
use Rattle.tp_syntax_scope.specs.SymbolViews.{symbols_view}
use Rattle.tp_syntax_scope.specs.LevelViews.{levels_view}
use Rattle.tp_syntax_scope.specs.declared.levels.Scope.{Scope}

abbrev pub scope_view : Scope → List Declared
scope_view s = levels_view s.levels

-- what is declared
abbrev pub symbols_of : Scope → Symbols
symbols_of s = symbols_view s.symbols.now
