-- When a text is refused as a domain.
use Rattle.std.specs.Prelude.{ℕ, List}
use Rattle.tp_syntax_ast.specs.Readings.{IsRefusedAs}
use Rattle.tp_syntax_ast.specs.Domains.{domain_of}
use Rattle.tp_syntax_ast.specs.declared.fault.SyntaxFault.{SyntaxFault}

abbrev pub IsRefusedDomain : List ℕ → SyntaxFault → Type 0
IsRefusedDomain text e = IsRefusedAs domain_of text e
