use Rattle.std.proofs.Common.{◌≡◌, drop}
use Rattle.std.specs.List.{list_any}
use Rattle.tp_syntax_ast.specs.DomainViews.{initial_view}
use Rattle.tp_ground.specs.Great.{great_initial}
use Rattle.tp_ground.proofs.numbers.some_initial_is_great.Given as goal

abbrev pub invariant-loop-entry : goal.invariant-loop-entry
invariant-loop-entry l = list_any (λ i. great_initial (initial_view i)) (drop l.entry-index l.entries) ≡ list_any (λ i. great_initial (initial_view i)) l.entries
