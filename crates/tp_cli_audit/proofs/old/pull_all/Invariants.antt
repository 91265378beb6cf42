use Rattle.std.proofs.Common.{◌≡◌, ◌-◌, vec_len}
use Rattle.std.specs.Io.KnownBytes.{Consumes}
use Rattle.tp_cli_audit.proofs.old.pull_all.Given as goal

abbrev pub invariant-loop-chunk : goal.invariant-loop-chunk
invariant-loop-chunk g l =
    record {
      read : Consumes (g.S.Source.left l.fn.source) (g.S.Source.left l.source) l.bytes.items;
      count : g.S.Source.failures l.source ≡ g.S.Source.failures l.fn.source;
    }

abbrev pub decreases-loop-chunk : goal.decreases-loop-chunk
decreases-loop-chunk g l = 18446744073709551615 - vec_len l.bytes
