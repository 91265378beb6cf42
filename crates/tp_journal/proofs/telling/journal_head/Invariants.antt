use Rattle.std.proofs.Common.{◌≡◌, ◌+◌, ◌-◌, ◌≤◌}
use Rattle.tp_journal.proofs.Told.{ToldSoFar}
use Rattle.tp_journal.proofs.telling.journal_head.Given as goal

abbrev pub invariant-head : goal.invariant-head
invariant-head g l =
    record {
      so_far : ToldSoFar l.fn.lines l.lines l.version l.count l.place l.told l.lags.items;
      longest : l.lines.longest ≡ l.fn.lines.longest;
      most : l.lines.most ≡ l.fn.lines.most;
      source : l.lines.source ≡ l.fn.lines.source;
      few : l.count + 9 ≤ l.lines.taken;
      reader : l.lines.failures ≡ l.fn.lines.failures;
    }

abbrev pub decreases-head : goal.decreases-head
decreases-head g l = l.lines.most - l.lines.taken
