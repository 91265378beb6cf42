-- Variables over what is declared.
use Rattle.std.specs.Prelude.{List}
use Rattle.tp_syntax_ast.specs.Symbols.{Symbols}
use Rattle.tp_syntax_ast.specs.declared.symbols.Typed.{Typed}

pub record Bound : Type 0 where
  pub symbols : Symbols
  pub items : List Typed
