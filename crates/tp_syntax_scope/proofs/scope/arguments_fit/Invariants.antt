use Rattle.std.proofs.Common.{◌≡◌, ◌≤◌, map, drop, length}
use Rattle.tp_syntax_ast.specs.Terms.{term_view}
use Rattle.tp_syntax_ast.specs.Symbols.{typed_view, arguments_fit}
use Rattle.tp_syntax_scope.specs.ScopeViews.{scope_view, symbols_of}
use Rattle.tp_syntax_scope.proofs.scope.arguments_fit.Given as goal

abbrev pub invariant-loop-place : goal.invariant-loop-place
invariant-loop-place l =
    let σ = symbols_of l.scope in
    let fits = arguments_fit σ.types σ.objects (scope_view l.scope) in
    let parameters = map typed_view l.signature.parameters.items in
    (fits (drop l.place (map term_view l.arguments)) (drop l.place parameters) ≡ fits (map term_view l.arguments) parameters)
    × (l.place ≤ length l.arguments)
