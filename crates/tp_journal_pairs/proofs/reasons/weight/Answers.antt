use Rattle.tp_exec_machine.specs.Step.{asked}
use Rattle.std.proofs.Common.{◌≡◌, arith, rules, w64, sym, ◌∙◌}
use Rattle.std.proofs.lemmas.Int.{ints, to_z-of_z}
use mir.Val.{SFits}
use Rattle.tp_bounds.specs.declared.Edge.TheVariants.{Own}
use Rattle.tp_bounds.specs.Reasons.{bound_of}
use Rattle.tp_bounds.proofs.ReasonChecks.{weight_step}
use Rattle.tp_journal_pairs.proofs.reasons.weight.Goals as goal

pub loop-edge-preserved : goal.loop-edge-preserved
loop-edge-preserved g c =
    let step = weight_step (bound_of (asked c.args.executive.now c.args.command)) c.args.edges.now c.loop-edge.edge-index (Own (record { 0 = 0 })) c.in-Some.bound c.loop-edge-test.true (sym c.edge_then.ensures ∙ c.in-Some.is) in
    let fits : SFits w64 c.in-Some.bound.w = search rules in
    let same : c.from-sum.result ≡ c.in-Some.bound.w = simp to_z-of_z at c.from-sum.ensures in
    record {
      total = omega (arith, ints, step);
      high = omega (arith, ints);
      low = omega (arith, ints);
    }
