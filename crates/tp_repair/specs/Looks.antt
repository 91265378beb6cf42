-- How many edges an `add` looks at, in numbers of events and of edges.
use Rattle.std.specs.Prelude.{ℕ, ◌+◌, ◌*◌, ◌≤◌, Bool, false, ◌||◌}
use Rattle.std.specs.List.{count_by}
use Rattle.std.specs.FinMap.{len, values}
use Rattle.tp_bounds.specs.declared.Bound.{Bound}
use Rattle.tp_bounds.specs.declared.Point.{Point}
use Rattle.tp_bounds.specs.declared.Point.TheVariants.{Origin, Event}
use Rattle.tp_bounds.specs.Setting.{Setting, event_count}
use Rattle.tp_repair_engine.specs.Costs.{AreWindows, has_moved, how_many}

-- a point is an event among these
abbrev pub is_among : (ℕ → Bool) → Point → Bool
is_among test Origin = false
is_among test (Event e) = test e

-- an end of a bound is
abbrev pub touches : (ℕ → Bool) → Bound → Bool
touches test b = is_among test b.from || is_among test b.to

-- how many edges of a setting touch an event among these: bounds in force, and of each such event
-- the two that join it with the origin, `Now` and `End`, or `PastLow` and `PastHigh`
abbrev pub edges_touching : Setting → (ℕ → Bool) → ℕ
edges_touching s test = count_by (touches test) (values s.bounds) + 2 * how_many test (event_count s)

-- the most edges that an `add` looks at which leaves this setting, accepted or not: in n events and
-- m bounds, the new one among them
abbrev pub most_looks : Setting → ℕ
most_looks after = 2 * (event_count after + 2) * (len after.bounds + event_count after + 1)

-- at no more than so many edges did an accepted one look, by those that touch an event whose window
-- it changed
abbrev pub LooksNearby : Setting → Setting → ℕ → Type 0
LooksNearby before after looks =
    (low high low' high' : ℕ → ℕ) → AreWindows before low high → AreWindows after low' high'
    → looks
    ≤ 2 * (event_count after + 2) * edges_touching after (has_moved low high low' high') + 2
