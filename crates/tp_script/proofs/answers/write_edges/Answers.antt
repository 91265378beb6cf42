use Rattle.std.proofs.Common.{◌∷◌}
use Rattle.tp_bounds.specs.declared.Edge.TheVariants.{Own}
use Rattle.tp_script.specs.Transcript.{edge_text}
use Rattle.std.proofs.lemmas.Result.{err_from_is_err_and}
use Rattle.tp_device.proofs.Parts.{part_after}
use Rattle.tp_script.proofs.WriteLemmas.{flat_split}
use Rattle.tp_script.proofs.answers.write_edges.Goals as goal

pub returns-in_err-write_edge-clause-bytes : goal.returns-in_err-write_edge-clause-bytes
returns-in_err-write_edge-clause-bytes g c =
    let p = err_from_is_err_and c.from_residual.result c.from_residual.ensures.1 in
    let split = flat_split (λ e. 32 ∷ edge_text e) c.args.edges.now c.loop-edge.edge-index (Own (record { 0 = 0 })) c.loop-edge-test.true in
    rw p.1 (part_after _ _ _ _ _ split.0 _ split.1 c.loop-edge.invariant.held c.in_err-write_edge.ensures.bytes)
