use Rattle.std.proofs.Common.{◌≡◌, ℕ, List, false, take}
use Rattle.std.specs.List.{list_any}
use Rattle.tp_task.specs.Bounds.{In}
use Rattle.tp_search.specs.Possible.{interfere}
use Rattle.tp_search.specs.Rows.{AreRows}
use Rattle.tp_search.proofs.at_once.is_apart.Given as goal

abbrev pub invariant-loop-other : goal.invariant-loop-other
invariant-loop-other l = (among : List ℕ) → AreRows l.task among l.rows.rows.items → In l.action among → list_any (λ b. interfere l.task b l.action) (take l.other-index l.chosen) ≡ false
