-- The run has come to a moment, the rest of the agenda is that from there on, and the bound on the moment falls.
use Rattle.std.proofs.Common.{◌-◌, ◌≤◌, length, drop}
use Rattle.tp_task.specs.Valid.{events}
use Rattle.tp_validate.specs.Agenda.{IsAgenda}
use Rattle.tp_validate.specs.Reached.{Reached}
use Rattle.tp_validate.proofs.verdicts.run.Given as goal

abbrev pub invariant-loop-tick : goal.invariant-loop-tick
invariant-loop-tick l =
    record {
      reached : Reached l.task l.steps l.from l.state;
      left : IsAgenda (events l.steps) l.from (drop l.done l.agenda);
      within : l.done ≤ length l.agenda;
    }

abbrev pub decreases-loop-tick : goal.decreases-loop-tick
decreases-loop-tick l = 1000000001 - l.from
