-- How many edges touch an event whose window moved: what a change may look at.
use Rattle.std.specs.Prelude.{◌≡◌, ℕ, suc, ◌+◌, ◌<◌, ◌≤◌, ◌⊎◌, List, length, map, Bool, not, ◌&&◌, cond, nat_eq, Result, Ok, Err, pos, ◌+ℤ◌, ◌<ℤ◌}
use Rattle.std.specs.List.{sum_by}
use Rattle.std.specs.FinMap.{entries, len}
use Rattle.tp_bounds.specs.declared.Bound.{Bound}
use Rattle.tp_bounds.specs.Setting.{Setting, event_count}
use Rattle.tp_bounds.specs.declared.Point.TheVariants.{Origin}
use Rattle.tp_bounds.specs.Schedule.{IsLeastMoment, IsGreatestMoment, moment_of}
use Rattle.tp_net.specs.Arcs.{arc_of}
use Rattle.tp_net.specs.declared.NetFault.{NetFault}
use Rattle.tp_net.specs.declared.NetFault.TheVariants.{Memory, Conflict, Between}
use Rattle.tp_repair_engine.specs.declared.store.Store.{Store}
use Rattle.tp_repair_engine.specs.declared.store.Direction.{Direction}
use Rattle.tp_repair_engine.specs.declared.store.Direction.TheVariants.{Up, Down}
use Rattle.tp_repair_engine.specs.Store.{keys_of, near, one_at}
use Rattle.tp_repair_engine.specs.Flow.{sum_to}

-- of the bounds, how many end at a point, upwards, or begin there, downwards
abbrev pub bounds_at : Direction → ℕ → List (ℕ × Bound) → ℕ
bounds_at d y es = sum_by (λ b. one_at (near d (arc_of b)) y) (map (λ e. e.1) es)

-- how many edges of a setting end at an event, or begin there: the bounds in force, and one with
-- the origin
abbrev pub edges_at : Direction → Setting → ℕ → ℕ
edges_at d s e = suc (bounds_at d (suc e) (entries s.bounds))

-- the degree of an event: how many edges touch it
abbrev pub degree : Setting → ℕ → ℕ
degree s e = edges_at Up s e + edges_at Down s e

-- the lists of each event are as long as it has edges; and so many bounds are in force
pub record AreCountedEdges (s : Setting) (count : ℕ) (g : Store) : Type 0 where
  pub many : len s.bounds ≡ count
  pub each :
      (d : Direction) (e : ℕ) → e < event_count s
      → length (keys_of d g (suc e)) ≡ edges_at d s e

-- as many edges stand in each list
abbrev pub SameDegrees : Store → Store → Type 0
SameDegrees old new = (d : Direction) (y : ℕ) → length (keys_of d new y) ≡ length (keys_of d old y)

-- these are the least and the greatest moments of the events
pub record AreWindows (s : Setting) (low high : ℕ → ℕ) : Type 0 where
  pub least : (e : ℕ) → e < event_count s → IsLeastMoment s e (low e)
  pub greatest : (e : ℕ) → e < event_count s → IsGreatestMoment s e (high e)

-- A bound that holds no moment: at the least moments it is not tight or begins at the origin, which
-- stays, and at the greatest it is not tight or ends there.
abbrev pub HoldsNoMoment : (ℕ → ℕ) → (ℕ → ℕ) → Bound → Type 0
HoldsNoMoment low high b =
    ((b.from ≡ Origin)
    ⊎ (pos (moment_of low b.to) <ℤ (pos (moment_of low b.from) +ℤ b.w)))
    × ((b.to ≡ Origin)
    ⊎ (pos (moment_of high b.to) <ℤ (pos (moment_of high b.from) +ℤ b.w)))

-- the window of an event is another
abbrev pub has_moved : (ℕ → ℕ) → (ℕ → ℕ) → (ℕ → ℕ) → (ℕ → ℕ) → ℕ → Bool
has_moved low high low' high' e = not (nat_eq (low e) (low' e) && nat_eq (high e) (high' e))

-- how many events of so many are among these
abbrev pub how_many : (ℕ → Bool) → ℕ → ℕ
how_many test n = sum_to (λ e. cond (test e) 1 0) n

-- the sum of the degrees of those that are
abbrev pub degrees_of : Setting → (ℕ → Bool) → ℕ
degrees_of s test = sum_to (λ e. cond (test e) (degree s e) 0) (event_count s)

-- A change that brings so many edges looks at them, at those that touch an event whose window moves,
-- once for each end there, and at no others; and at one at least for each such event.
abbrev pub IsCheap : ℕ → Setting → Setting → ℕ → Type 0
IsCheap news before after looks =
    (low high low' high' : ℕ → ℕ) → AreWindows before low high → AreWindows after low' high'
    → (looks ≤ degrees_of before (has_moved low high low' high') + news)
    × (how_many (has_moved low high low' high') (event_count before) + news ≤ looks)

-- A conflict is seen at an edge: one that the change brings was looked at.
abbrev pub SeesConflict : Result (Unit {0}) NetFault → ℕ → Type 0
SeesConflict (Ok _) looks = Unit {0}
SeesConflict (Err Memory) looks = Unit {0}
SeesConflict (Err (Conflict reason)) looks = 1 ≤ looks
SeesConflict (Err Between) looks = Unit {0}
