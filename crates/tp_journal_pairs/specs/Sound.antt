-- What holds of each state that a run comes to.
use Rattle.std.specs.Prelude.{◌≡◌, ℕ, ◌≤◌, None}
use Rattle.std.specs.FinMap.{get}
use Rattle.tp_exec_machine.specs.Machine.{Machine}

-- the identifiers from the next one on are unused, and no bound is asked for
pub record IsSound (m : Machine) : Type 0 where
  pub unused : (id : ℕ) → m.next ≤ id → get m.setting.bounds id ≡ None
  pub asks_nothing : m.setting.proposed ≡ None
