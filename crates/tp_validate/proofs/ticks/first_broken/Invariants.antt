use Rattle.std.proofs.Common.{◌≡◌, drop}
use Rattle.std.specs.List.{position_from}
use Rattle.tp_task.specs.Valid.{Planned}
use Rattle.tp_task.specs.Verdict.{is_broken}
use Rattle.tp_happen.specs.Stored.{state_of}
use Rattle.tp_validate.proofs.ticks.first_broken.Given as goal

abbrev pub invariant-loop-i : goal.invariant-loop-i
invariant-loop-i l = position_from (λ (p : Planned). is_broken (state_of l.after) l.moment p p.body) l.i (drop l.i l.steps) ≡ position_from (λ (p : Planned). is_broken (state_of l.after) l.moment p p.body) 0 l.steps
