use Rattle.std.proofs.Common.{◌≡◌, map, drop, codes}
use Rattle.std.specs.List.{list_any}
use Rattle.std.specs.Str.{bytes_eq}
use Rattle.tp_syntax_ast.specs.Symbols.{typed_view}
use Rattle.tp_syntax_scope.proofs.typed.has_duration.Given as goal

abbrev pub invariant-loop-item : goal.invariant-loop-item
invariant-loop-item l = list_any (λ v. bytes_eq v.name (codes "?duration")) (map typed_view (drop l.item-index l.items)) ≡ list_any (λ v. bytes_eq v.name (codes "?duration")) (map typed_view l.items)
