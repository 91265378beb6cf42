use Rattle.tp_ground.specs.Initially.{named_initial}
use Rattle.tp_ground_bodies.proofs.OnLowered.{failed}
use Rattle.tp_ground.proofs.OnEntries.{holds_stopped, fails_stopped, value_stopped}
use Rattle.tp_ground.proofs.beginning.entry.Goals as goal

pub returns-in_err-number-in-Holds : goal.returns-in_err-number-in-Holds
returns-in_err-number-in-Holds c = failed named_initial _ _ _ _ _ _ c.from_residual.ensures.1 (holds_stopped c.args.numbering.now c.args.said.now c.in-Holds.fact _ c.in-Holds.is c.in_err-number-in-Holds.ensures)

pub returns-in_err-number-in-Fails : goal.returns-in_err-number-in-Fails
returns-in_err-number-in-Fails c = failed named_initial _ _ _ _ _ _ c.from_residual-in_err-number-in-Fails.ensures.1 (fails_stopped c.args.numbering.now c.args.said.now c.in-Fails.fact _ c.in-Fails.is c.in_err-number-in-Fails.ensures)

pub returns-in_err-number-in-HasValue : goal.returns-in_err-number-in-HasValue
returns-in_err-number-in-HasValue c = failed named_initial _ _ _ _ _ _ c.from_residual-in_err-number-in-HasValue.ensures.1 (value_stopped c.args.numbering.now c.args.said.now c.in-HasValue.fact c.in-HasValue.value _ c.in-HasValue.is c.in_err-number-in-HasValue.ensures)
