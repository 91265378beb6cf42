-- The events of a plan at one moment, and their numbers.
use Rattle.std.specs.Prelude.{ℕ, ◌==◌, List, map}
use Rattle.std.specs.List.{filter}
use Rattle.tp_task.specs.Valid.{Placed}

-- the events at a moment
abbrev pub here : ℕ → List Placed → List Placed
here m es = filter (λ e. e.moment == m) es

-- the numbers of events
abbrev pub numbers : List Placed → List ℕ
numbers es = map (λ e. e.number) es
