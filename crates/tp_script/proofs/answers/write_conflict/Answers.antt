use Rattle.std.proofs.Common.{◌++◌, ◌∷◌, [], codes, flat_map, refl}
use Rattle.std.proofs.lemmas.Result.{err_from_is_err_and}
use Rattle.std.proofs.KnownBytes.{Appends-trans}
use Rattle.tp_device.proofs.Parts.{part_first, part_after, writes_after}
use Rattle.tp_script.specs.Transcript.{edge_text}
use Rattle.tp_script.proofs.answers.write_conflict.Goals as goal

pub returns-in_err-push_all-clause-bytes : goal.returns-in_err-push_all-clause-bytes
returns-in_err-push_all-clause-bytes g c =
    let p = err_from_is_err_and c.from_residual.result c.from_residual.ensures.1 in
    let flat = flat_map (λ e. 32 ∷ edge_text e) c.args.reason.now.edges.items in
    rw p.1 (part_first _ _ (codes "refused conflict") (flat ++ 10 ∷ []) _ refl c.in_err-push_all.ensures.bytes)

pub returns-in_err-write_edges-clause-bytes : goal.returns-in_err-write_edges-clause-bytes
returns-in_err-write_edges-clause-bytes g c =
    let p = err_from_is_err_and c.from_residual-in_err-write_edges.result c.from_residual-in_err-write_edges.ensures.1 in
    let flat = flat_map (λ e. 32 ∷ edge_text e) c.args.reason.now.edges.items in
    rw p.1 (part_after (g.W.Sink.held c.args.writer.now) (g.W.Sink.held c.push_all.new.writer) (g.W.Sink.held c.write_edges.new.writer) (codes "refused conflict") flat (10 ∷ []) _ refl c.in_ok-push_all.ensures.bytes (rw (← c.as_slice.ensures.value) c.in_err-write_edges.ensures.bytes))

pub returns-clause-bytes : goal.returns-clause-bytes
returns-clause-bytes g c =
    let flat = flat_map (λ e. 32 ∷ edge_text e) c.args.reason.now.edges.items in
    writes_after c.push_all-2.result _ _ _ (codes "refused conflict" ++ flat) (10 ∷ []) _ refl
    (Appends-trans (g.W.Sink.held c.args.writer.now) (g.W.Sink.held c.push_all.new.writer) (g.W.Sink.held c.write_edges.new.writer) (codes "refused conflict") flat c.in_ok-push_all.ensures.bytes (rw (← c.as_slice.ensures.value) c.in_ok-write_edges.ensures.bytes))
    c.push_all-2.ensures.bytes
