use Rattle.std.proofs.Common.{◌≡◌, [], map, take}
use Rattle.tp_syntax_ast.specs.Terms.{term_view}
use Rattle.tp_ground_bindings.specs.Bindings.{object_for}
use Rattle.tp_ground_joins.specs.Facts.{keyed_row}
use Rattle.tp_ground_joins.proofs.facts.objects_of.Given as goal

abbrev pub invariant-loop-term : goal.invariant-loop-term
invariant-loop-term l = keyed_row l.objects ≡ map (λ t. object_for [] (term_view t)) (take l.term-index l.terms)
