-- The variables in scope, level by level.
use Rattle.std.specs.Prelude.{◌≡◌, List, [], ◌∷◌, ◌++◌, map}
use Rattle.std.specs.List.{All}
use Rattle.tp_syntax_ast.specs.Symbols.{Declared, Symbols, typed_view}
use Rattle.tp_syntax_scope.specs.declared.levels.Levels.{Levels, fold-Levels}
use Rattle.tp_syntax_scope.specs.declared.levels.Levels.TheOpen.{Levels-F}

-- variables in scope, the innermost first
abbrev pub levels_step : Levels-F (List Declared) → List Declared
levels_step Levels-F.Empty = []
levels_step (Levels-F.Inner vars outer) = map typed_view vars.now.items ++ outer.now

abbrev pub levels_view : Levels → List Declared
levels_view = fold-Levels (List Declared) levels_step

-- what the variables of each level are over
abbrev pub under_step : Levels-F (List Symbols) → List Symbols
under_step Levels-F.Empty = []
under_step (Levels-F.Inner vars outer) = vars.now.symbols ∷ outer.now

abbrev pub under : Levels → List Symbols
under = fold-Levels (List Symbols) under_step

abbrev pub AreOver : Symbols → Levels → Type 0
AreOver σ levels = All (λ τ. τ ≡ σ) (under levels)
