use Rattle.std.proofs.Common.{◌≡◌, ◌&&◌, ◌==◌, drop}
use Rattle.std.specs.List.{position_from}
use Rattle.tp_task.specs.Valid.{Planned}
use Rattle.tp_task.specs.Verdict.{is_unlawful}
use Rattle.tp_happen.specs.Stored.{state_of}
use Rattle.tp_validate.proofs.durations.first_unlawful.Given as goal

abbrev pub invariant-loop-i : goal.invariant-loop-i
invariant-loop-i l =
    position_from (λ (p : Planned). (p.moment == l.moment) && is_unlawful l.state.scale (state_of l.state) p.duration p.body) l.i (drop l.i l.steps)
    ≡ position_from (λ (p : Planned). (p.moment == l.moment) && is_unlawful l.state.scale (state_of l.state) p.duration p.body) 0 l.steps
