-- Which settings and which bounds of them have all their numbers in range.
use Rattle.std.specs.Prelude.{◌≡◌, ℕ, ◌≤◌, length, Some}
use Rattle.std.specs.FinMap.{get}
use Rattle.tp_bounds.specs.declared.Bound.{Bound}
use Rattle.tp_bounds.specs.Setting.{Setting, event_count, fixed_at, lag_of, HasPoint, IsInRange}

-- a bound between points of the setting, whose weight is in range
pub record Suits (s : Setting) (b : Bound) : Type 0 where
  pub from : HasPoint s b.from
  pub to : HasPoint s b.to
  pub weight : IsInRange b.w

-- The setting is one of at most 1,024 events and 1,000,000,000 ticks, of which nothing lies behind the horizon, whose events have lags
-- of at most 1,000,000,000 ticks, and whose bounds suit it.
pub record IsLawful (s : Setting) : Type 0 where
  pub events : event_count s ≤ 1_024
  pub horizon : s.horizon ≤ 1_000_000_000
  pub in_time : s.clock ≤ s.horizon
  pub past : (e moment : ℕ) → fixed_at s e ≡ Some moment → moment ≤ s.horizon
  pub lags : length s.lags ≡ event_count s
  pub lag : (e : ℕ) → lag_of s e ≤ 1_000_000_000
  pub in_force : (id : ℕ) (b : Bound) → get s.bounds id ≡ Some b → Suits s b
  pub proposed : (b : Bound) → s.proposed ≡ Some b → Suits s b
