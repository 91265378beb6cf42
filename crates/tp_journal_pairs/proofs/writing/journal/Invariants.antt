use Rattle.std.proofs.Common.{◌≡◌, ◌≤◌, ◌-◌}
use Rattle.tp_journal_pairs.specs.Writing.{HeadIsOne, Records}
use Rattle.tp_journal_pairs.proofs.writing.journal.Given as goal

abbrev pub invariant-loop-n : goal.invariant-loop-n
invariant-loop-n g l =
    record {
      goes : Records l.fn.executive l.executive l.fn.lines l.lines (g.W.Sink.held l.fn.answers) (g.W.Sink.held l.answers) (g.V.Sink.held l.fn.log) (g.V.Sink.held l.log) l.commands;
      head : HeadIsOne l.fn.executive;
      longest : l.lines.longest ≡ 256;
      most : l.lines.most ≡ l.fn.lines.most;
      source : l.lines.source ≡ l.fn.lines.source;
      few : l.commands ≤ l.lines.taken;
      reader : l.lines.failures ≡ l.fn.lines.failures;
      writer : g.W.Sink.failures l.answers ≡ g.W.Sink.failures l.fn.answers;
      logger : g.V.Sink.failures l.log ≡ g.V.Sink.failures l.fn.log;
    }

abbrev pub decreases-loop-n : goal.decreases-loop-n
decreases-loop-n g l = l.lines.most - l.lines.taken
