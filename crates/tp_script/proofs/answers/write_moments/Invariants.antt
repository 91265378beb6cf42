use Rattle.std.proofs.Common.{◌≡◌, take, flat_map}
use Rattle.std.specs.Io.KnownBytes.{Appends}
use Rattle.tp_script.specs.Transcript.{moment_text}
use Rattle.tp_script.proofs.answers.write_moments.Given as goal

abbrev pub invariant-loop-moment : goal.invariant-loop-moment
invariant-loop-moment g l =
    record {
      held : Appends (g.W.Sink.held l.fn.writer) (g.W.Sink.held l.writer) (flat_map moment_text (take l.moment-index l.moments));
      count : g.W.Sink.failures l.writer ≡ g.W.Sink.failures l.fn.writer;
    }
