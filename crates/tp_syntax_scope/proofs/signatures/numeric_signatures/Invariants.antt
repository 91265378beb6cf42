use Rattle.std.proofs.Common.{◌≡◌, map, length, false}
use Rattle.tp_syntax_ast.specs.Gives.{with_front}
use Rattle.tp_syntax_ast.specs.Terms.{shapes}
use Rattle.tp_syntax_ast.specs.Symbols.{signature_view}
use Rattle.tp_syntax_types.specs.TypeViews.{types_view}
use Rattle.tp_syntax_ast.specs.Domains.{numeric_signatures}
use Rattle.tp_syntax_scope.proofs.signatures.numeric_signatures.Given as goal

abbrev pub invariant-signatures : goal.invariant-signatures
invariant-signatures l = with_front (map signature_view l.signatures.items) (numeric_signatures (types_view l.types) l.may_end (shapes l.rest)) ≡ numeric_signatures (types_view l.types) false (shapes l.trees)

abbrev pub decreases-signatures : goal.decreases-signatures
decreases-signatures l = length l.rest
