use Rattle.tp_exec_machine.specs.Step.{asked}
use Rattle.std.proofs.Common.{sym, ◌∙◌}
use Rattle.tp_bounds.specs.declared.Edge.TheVariants.{Own}
use Rattle.tp_bounds.specs.Reasons.{bound_of}
use Rattle.tp_bounds.proofs.ReasonChecks.{step_skip}
use Rattle.tp_journal_pairs.proofs.reasons.none_begins.Goals as goal

pub loop-edge-preserved-in_default : goal.loop-edge-preserved-in_default
loop-edge-preserved-in_default g c =
    let step = step_skip (bound_of (asked c.args.executive.now c.args.command)) c.args.edges.now c.loop-edge.edge-index (Own (record { 0 = 0 })) c.loop-edge-test.true (sym c.edge_then.ensures ∙ c.in_default.is) in
    record {
      whole = λ h. c.loop-edge.invariant.whole (rw step h);
      rest = λ h. rw step at (c.loop-edge.invariant.rest h);
    }
