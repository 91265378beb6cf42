use Rattle.std.proofs.Common.{◌≡◌, map, take}
use Rattle.tp_syntax_ast.specs.Symbols.{typed_view}
use Rattle.tp_syntax_scope.proofs.typed.named_again.Given as goal

abbrev pub invariant-loop-item : goal.invariant-loop-item
invariant-loop-item l = map (λ n. n.now) l.names.items ≡ map (λ d. d.name) (map typed_view (take l.item-index l.items))
