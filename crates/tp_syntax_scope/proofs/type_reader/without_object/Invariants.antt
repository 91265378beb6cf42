use Rattle.tp_syntax_scope.proofs.OnRowViews.{Kept}
use Rattle.tp_syntax_scope.proofs.type_reader.without_object.Given as goal

abbrev pub invariant-loop-place : goal.invariant-loop-place
invariant-loop-place l = Kept l.listed l.place l.rows l.passed
