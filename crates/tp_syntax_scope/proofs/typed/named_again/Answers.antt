use Rattle.std.proofs.Common.{◌≡◌, ◌<◌, false, List, [], ◌∷◌, map, length, refl, arith}
use Rattle.tp_syntax_ast.specs.Symbols.{Declared, typed_view}
use Rattle.tp_syntax_ast.specs.TypedLists.{has_twice}
use Rattle.tp_syntax_ast.specs.declared.symbols.Typed.{Typed}
use Rattle.tp_syntax_scope.proofs.typed.named_again.Goals as goal

one_alone : (items : List Typed) → length items < 2 → false ≡ has_twice (map (λ (d : Declared). d.name) (map typed_view items))
one_alone [] lt = refl
one_alone (d ∷ []) lt = refl
one_alone (d ∷ (e ∷ rest)) lt = absurd (omega arith)

pub returns-in-empty : goal.returns-in-empty
returns-in-empty c = one_alone c.args.items.now (omega (arith, c.in-empty.len_below))
