use Rattle.std.proofs.Common.{◌≡◌, ◌+◌, ◌-◌, ◌≤◌}
use Rattle.tp_journal_pairs.specs.Sound.{IsSound}
use Rattle.tp_journal.proofs.Pairs.{JournalSoFar}
use Rattle.tp_journal.proofs.auditing.replay.Given as goal

abbrev pub invariant-pairs : goal.invariant-pairs
invariant-pairs g l =
    record {
      so_far : JournalSoFar l.fn.executive l.executive l.fn.lines l.lines l.headed.version l.count l.pairs l.next;
      sound : IsSound l.executive;
      longest : l.lines.longest ≡ l.fn.lines.longest;
      most : l.lines.most ≡ l.fn.lines.most;
      source : l.lines.source ≡ l.fn.lines.source;
      few : l.count + 9 ≤ l.lines.taken;
      less : l.pairs ≤ l.count;
      reader : l.lines.failures ≡ l.fn.lines.failures;
    }

abbrev pub decreases-pairs : goal.decreases-pairs
decreases-pairs g l = l.lines.most - l.lines.taken
