-- How far a setting has been copied into another.
use Rattle.std.specs.Prelude.{◌≡◌, ℕ, ◌<◌, ◌≤◌, length, None}
use Rattle.std.specs.FinMap.{get}
use Rattle.tp_bounds.specs.Setting.{Setting, event_count, fixed_at, lag_of}

-- the bounds under identifiers below the number are in force, and nothing else is changed
pub record HasBoundsBelow (s start copy : Setting) (number : ℕ) : Type 0 where
  pub same : copy ≡ record start { bounds = copy.bounds }
  pub below : (id : ℕ) → id < number → get copy.bounds id ≡ get s.bounds id
  pub above : (id : ℕ) → number ≤ id → get copy.bounds id ≡ None

-- the events below the number are dispatched as they were, and nothing else is changed
pub record HasPastBelow (s start copy : Setting) (number : ℕ) : Type 0 where
  pub same : copy ≡ record start { fixed = copy.fixed }
  pub events : event_count copy ≡ event_count s
  pub below : (e : ℕ) → e < number → fixed_at copy e ≡ fixed_at s e
  pub above : (e : ℕ) → number ≤ e → fixed_at copy e ≡ None

-- the events below the number have the lags that they had, and nothing else is changed
pub record HasLagsBelow (s start copy : Setting) (number : ℕ) : Type 0 where
  pub same : copy ≡ record start { lags = copy.lags }
  pub events : length copy.lags ≡ length s.lags
  pub below : (e : ℕ) → e < number → lag_of copy e ≡ lag_of s e
