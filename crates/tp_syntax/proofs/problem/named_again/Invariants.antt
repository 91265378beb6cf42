use Rattle.std.proofs.Common.{◌≡◌, ◌++◌, map, take}
use Rattle.tp_syntax_ast.specs.Symbols.{typed_view}
use Rattle.tp_syntax.proofs.problem.named_again.Given as goal

abbrev pub invariant-loop-constant : goal.invariant-loop-constant
invariant-loop-constant l = map (λ n. n.now) l.names.items ≡ map (λ d. d.name) (map typed_view (take l.constant-index l.constants))

abbrev pub invariant-loop-object : goal.invariant-loop-object
invariant-loop-object l = map (λ n. n.now) l.names.items ≡ map (λ d. d.name) (map typed_view l.constants ++ map typed_view (take l.object-index l.objects))
