use Rattle.std.proofs.Common.{◌≡◌, ◌-◌, length}
use Rattle.std.specs.Io.KnownBytes.{Keeps}
use Rattle.tp_script.specs.Pending.{rest_of}
use Rattle.tp_script.proofs.lines.Bytes.look.Given as goal

abbrev pub invariant-loop-ready : goal.invariant-loop-ready
invariant-loop-ready g l =
    record {
      bytes : Keeps (rest_of l.fn.self) (rest_of l.self);
      failures : l.self.failures ≡ l.fn.self.failures;
      source : l.self.source ≡ l.fn.self.source;
    }

abbrev pub decreases-loop-ready : goal.decreases-loop-ready
decreases-loop-ready g l = 257 - length l.self.ready
