use Rattle.std.proofs.Common.{◌≡◌, ◌++◌, [], map, true, string_bytes}
use Rattle.tp_syntax_ast.specs.Symbols.{typed_view}
use Rattle.tp_syntax_ast.specs.TypedLists.{given}
use Rattle.tp_syntax_scope.specs.RowViews.{HaveRows}
use Rattle.tp_syntax_ast.specs.Rows.{last_of}
use Rattle.tp_syntax_scope.proofs.typed.give.Given as goal

abbrev pub invariant-loop-name : goal.invariant-loop-name
invariant-loop-name l = record {
  items : map typed_view l.done.items ≡ map typed_view l.fn.done.items ++ map (given (map string_bytes l.shared.value.items)) (map string_bytes l.yielded);
  rows : HaveRows l.fn.rows.items (map typed_view l.fn.done.items) → HaveRows l.rows.items (map typed_view l.done.items);
  last : l.mark ≡ true → last_of [] (map (λ d. d.types) (map typed_view l.done.items)) ≡ map string_bytes l.shared.value.items;
}
