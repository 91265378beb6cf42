use Rattle.std.proofs.Common.{sym, ◌∙◌}
use Rattle.tp_bounds.specs.declared.Edge.TheVariants.{Own}
use Rattle.tp_bounds.specs.Reasons.{bound_of}
use Rattle.tp_bounds.proofs.ReasonChecks.{step_skip}
use Rattle.tp_bounds.proofs.certificates.none_begins.Goals as goal

pub loop-edge-preserved-in_default : goal.loop-edge-preserved-in_default
loop-edge-preserved-in_default c =
    let step = step_skip (bound_of c.args.setting.now) c.args.edges.now c.loop-edge.edge-index (Own (record { 0 = 0 })) c.loop-edge-test.true (sym c.bound.ensures ∙ c.in_default.is) in
    record {
      whole = λ h. c.loop-edge.invariant.whole (rw step h);
      rest = λ h. rw step at (c.loop-edge.invariant.rest h);
    }
