use Rattle.std.proofs.Common.{◌≡◌, take, false}
use Rattle.std.specs.List.{list_any}
use Rattle.tp_syntax_ast.specs.Problems.{Initial, clash}
use Rattle.tp_syntax.specs.Clashes.{clashes}
use Rattle.tp_syntax_ast.specs.DomainViews.{initial_view}
use Rattle.tp_syntax_types.proofs.OnPairs.{some_two}
use Rattle.tp_syntax.proofs.clash.first_clash.Given as goal

abbrev pub invariant-loop-number : goal.invariant-loop-number
invariant-loop-number l = record {
  noted : (i : Initial) → clashes l.said i ≡ list_any (λ j. clash i (initial_view j)) (take l.number l.entries);
  agree : some_two (λ i j. clash (initial_view i) (initial_view j)) (take l.number l.entries) ≡ false;
}
