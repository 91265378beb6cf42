use Rattle.std.proofs.Common.{◌≡◌}
use Rattle.tp_journal_pairs.proofs.WriteLemmas.{WritesLags}
use Rattle.tp_journal_pairs.proofs.writing.write_lags.Given as goal

abbrev pub invariant-loop-e : goal.invariant-loop-e
invariant-loop-e g l =
    record {
      lags : WritesLags l.executive.setting.lags (g.V.Sink.held l.fn.log) (g.V.Sink.held l.log) l.e;
      count : g.V.Sink.failures l.log ≡ g.V.Sink.failures l.fn.log;
    }
