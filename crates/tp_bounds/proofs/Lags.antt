-- At 0 no floor lies later, however late an event may be reported.
use Rattle.std.proofs.Common.{◌≡◌, ℕ, ◌≤◌, arith}
use Rattle.tp_bounds.specs.Setting.{Setting, floor_of}
use Rattle.tp_bounds.specs.Schedule.{IsSchedule}
use Rattle.tp_bounds.specs.Changes.{with_lag}

pub schedule_lagged : (s : Setting) (e lag : ℕ) (t : ℕ → ℕ) → s.clock ≡ 0 → IsSchedule s t → IsSchedule (with_lag s e lag) t
schedule_lagged s e lag t start h =
    record {
      past = h.past;
      floor = λ k lt is. let late : floor_of (with_lag s e lag) k ≤ t k = omega arith in late;
      end = h.end;
      in_force = h.in_force;
      proposed = h.proposed;
    }

pub schedule_unlagged : (s : Setting) (e lag : ℕ) (t : ℕ → ℕ) → s.clock ≡ 0 → IsSchedule (with_lag s e lag) t → IsSchedule s t
schedule_unlagged s e lag t start h =
    record {
      past = h.past;
      floor = λ k lt is. let late : floor_of s k ≤ t k = omega arith in late;
      end = h.end;
      in_force = h.in_force;
      proposed = h.proposed;
    }
