-- The events of a plan in the order of their moments, tick after tick.
use Rattle.std.specs.Prelude.{◌≡◌, ℕ, ◌≤◌, ◌<◌, ◌==◌, List, length, take, drop}
use Rattle.std.specs.List.{All, filter}
use Rattle.std.specs.List.Sorted.{IsNonDecreasingBy}
use Rattle.tp_task.specs.Valid.{Placed}

-- What is left of xs from a moment on, in the order of its moments; those of one moment stand as they do in xs.
pub record IsLeft {X : Type 0} (n : X → ℕ) (xs : List X) (from : ℕ) (left : List X) : Type 0 where
  pub in_order : IsNonDecreasingBy n left
  pub later : All (λ x. from ≤ n x) left
  pub same : (m : ℕ) → from ≤ m → filter (λ x. n x == m) left ≡ filter (λ x. n x == m) xs

-- what is left of the events from a moment on
abbrev pub IsAgenda : List Placed → ℕ → List Placed → Type 0
IsAgenda es from agenda = IsLeft (λ e. e.moment) es from agenda

-- The events of an agenda at its first moment: they stand before all others.
pub record IsNextTick (agenda : List Placed) (m : ℕ) (there : List Placed) : Type 0 where
  pub front : there ≡ take (length there) agenda
  pub first : All (λ e. e.moment ≡ m) there
  pub after : All (λ e. m < e.moment) (drop (length there) agenda)
  pub some : 0 < length there
