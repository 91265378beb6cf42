use Rattle.tp_syntax_scope.proofs.OnRowViews.{rows_mentioned}
use Rattle.tp_syntax_scope.proofs.type_reader.with_mentioned.Goals as goal

pub returns-clause-marks : goal.returns-clause-marks
returns-clause-marks c = rows_mentioned _ _ _ _ c.in_ok-types.ensures.marks c.loop-declared.invariant
