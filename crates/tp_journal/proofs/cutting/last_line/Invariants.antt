use Rattle.std.proofs.Common.{◌≤◌, drop, length}
use Rattle.tp_script.specs.Reading.{Free}
use Rattle.tp_journal.proofs.cutting.last_line.Given as goal

abbrev pub invariant-loop-at : goal.invariant-loop-at
invariant-loop-at l =
    record {
      within : l.at ≤ length l.bytes;
      free : Free (drop l.at l.bytes);
    }

abbrev pub decreases-loop-at : goal.decreases-loop-at
decreases-loop-at l = l.at
