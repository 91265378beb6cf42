use Rattle.std.proofs.Common.{◌≡◌, ◌+◌, ◌≤◌, ◌++◌, length, map}
use Rattle.tp_plan_text.specs.PlanTexts.{lines_of}
use Rattle.tp_plan_text.specs.PlanNames.{names_from}
use Rattle.tp_plan_text.proofs.names.names_in.Given as goal

abbrev pub invariant-lines : goal.invariant-lines
invariant-lines l = record {
  read : names_from 0 (lines_of l.fn.text) ≡ map (λ ws. map (λ w. w.now) ws.items) l.names.items ++ names_from l.count (lines_of l.rest);
  few : l.count ≤ 512;
}

abbrev pub decreases-lines : goal.decreases-lines
decreases-lines l = length l.rest
