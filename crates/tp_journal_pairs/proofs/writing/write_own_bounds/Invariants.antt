use Rattle.std.proofs.Common.{◌≡◌}
use Rattle.tp_journal_pairs.proofs.WriteLemmas.{WritesOwn}
use Rattle.tp_journal_pairs.proofs.writing.write_own_bounds.Given as goal

abbrev pub invariant-loop-id : goal.invariant-loop-id
invariant-loop-id g l =
    record {
      own : WritesOwn l.executive.setting.bounds l.executive.next (g.V.Sink.held l.fn.log) (g.V.Sink.held l.log) l.id;
      count : g.V.Sink.failures l.log ≡ g.V.Sink.failures l.fn.log;
    }
