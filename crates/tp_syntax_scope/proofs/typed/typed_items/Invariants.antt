use Rattle.std.proofs.Common.{◌≡◌, map, length, string_bytes}
use Rattle.tp_syntax_ast.specs.Terms.{shapes}
use Rattle.tp_syntax_ast.specs.Symbols.{typed_view}
use Rattle.tp_syntax_ast.specs.TypedLists.{outcome, waiting, typed_list}
use Rattle.tp_syntax_types.specs.TypeViews.{types_view}
use Rattle.tp_syntax_scope.specs.RowViews.{HaveRows}
use Rattle.tp_syntax_scope.proofs.OnDeclared.{all_declared}
use Rattle.tp_syntax_scope.proofs.typed.typed_items.Given as goal

abbrev pub invariant-runs : goal.invariant-runs
invariant-runs l = record {
  items : outcome (map typed_view l.done.items) (map string_bytes l.waiting.items) (waiting l.items (map string_bytes l.waiting.items) (shapes l.rest)) ≡ typed_list l.items (shapes l.trees);
  declared : l.are_declared ≡ all_declared (types_view l.types) (map typed_view l.done.items);
  rows : HaveRows l.rows.items (map typed_view l.done.items);
}

abbrev pub decreases-runs : goal.decreases-runs
decreases-runs l = length l.rest
