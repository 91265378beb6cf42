use Rattle.std.proofs.Common.{◌≡◌, ◌++◌, map}
use Rattle.tp_syntax_ast.specs.Symbols.{parent_view}
use Rattle.tp_syntax_scope.proofs.type_reader.with_mentioned.Given as goal

abbrev pub invariant-loop-declared : goal.invariant-loop-declared
invariant-loop-declared l = map parent_view l.types.items ≡ map parent_view l.initial.types.items ++ map parent_view l.yielded
