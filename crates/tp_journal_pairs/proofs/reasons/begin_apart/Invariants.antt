use Rattle.std.proofs.Common.{◌≤◌, length, drop}
use Rattle.tp_exec_machine.specs.Step.{asked}
use Rattle.tp_bounds.specs.Reasons.{BeginApart}
use Rattle.tp_bounds.specs.Certificates.{bounds_of}
use Rattle.tp_journal_pairs.proofs.MarkLemmas.{Marked}
use Rattle.tp_journal_pairs.proofs.reasons.begin_apart.Given as goal

abbrev pub invariant-loop-at : goal.invariant-loop-at
invariant-loop-at g l =
    record {
      within : l.at ≤ length l.edges;
      marks : Marked l.marks (bounds_of (asked l.executive l.command) (drop l.at l.edges));
      apart : BeginApart (bounds_of (asked l.executive l.command) (drop l.at l.edges));
    }

abbrev pub decreases-loop-at : goal.decreases-loop-at
decreases-loop-at g l = l.at
