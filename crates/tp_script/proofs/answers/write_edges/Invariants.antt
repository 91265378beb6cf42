use Rattle.std.proofs.Common.{◌≡◌, take, flat_map, ◌∷◌}
use Rattle.std.specs.Io.KnownBytes.{Appends}
use Rattle.tp_script.specs.Transcript.{edge_text}
use Rattle.tp_script.proofs.answers.write_edges.Given as goal

abbrev pub invariant-loop-edge : goal.invariant-loop-edge
invariant-loop-edge g l =
    record {
      held : Appends (g.W.Sink.held l.fn.writer) (g.W.Sink.held l.writer) (flat_map (λ e. 32 ∷ edge_text e) (take l.edge-index l.edges));
      count : g.W.Sink.failures l.writer ≡ g.W.Sink.failures l.fn.writer;
    }
