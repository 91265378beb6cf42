-- What holds of the fields of a network that keeps its least and greatest moments.
use Rattle.std.specs.Prelude.{◌≡◌, ℕ, suc, ◌≤◌, List, length, Some, None}
use Rattle.std.specs.FinMap.{get}
use Rattle.tp_bounds.specs.declared.Bound.{Bound}
use Rattle.tp_bounds.specs.declared.Edge.{Edge}
use Rattle.tp_bounds.specs.Setting.{Setting, event_count, fixed_at, lag_of, HasPoint, IsInRange}
use Rattle.tp_net.specs.declared.slacks.Arc.{Arc}
use Rattle.tp_net.specs.Moments.{AreExact}
use Rattle.tp_net.specs.Arcs.{AreArcs}

-- the numbers of a setting are in range
pub record IsFit (s : Setting) : Type 0 where
  pub from : (id : ℕ) (b : Bound) → get s.bounds id ≡ Some b → HasPoint s b.from
  pub to : (id : ℕ) (b : Bound) → get s.bounds id ≡ Some b → HasPoint s b.to
  pub weight : (id : ℕ) (b : Bound) → get s.bounds id ≡ Some b → IsInRange b.w
  pub past : (e m : ℕ) → fixed_at s e ≡ Some m → m ≤ s.horizon
  pub lags : length s.lags ≡ event_count s
  pub lag : (e : ℕ) → lag_of s e ≤ 1_000_000_000
  pub events : event_count s ≤ 1024
  pub horizon : s.horizon ≤ 1_000_000_000
  pub in_time : s.clock ≤ s.horizon
  pub asks_nothing : s.proposed ≡ None

-- the arcs are those of the setting, and the kept moments are the least and the greatest that they leave
pub record IsKept (s : Setting) (names : List Edge) (arcs : List Arc)
    (low high : List ℕ) : Type 0 where
  pub fit : IsFit s
  pub listed : AreArcs s names arcs
  pub exact : AreExact arcs low high
  pub points : length low ≡ suc (event_count s)
