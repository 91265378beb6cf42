-- What a new network is seen as.
use Rattle.std.specs.Prelude.{ℕ, replicate, None}
use Rattle.std.specs.FinMap.{empty}
use Rattle.tp_bounds.specs.Setting.{Setting}

-- a setting with no bound, at 0, in which nothing is dispatched and no event is reported late
abbrev pub new_setting : ℕ → ℕ → Setting
new_setting events horizon =
    record {
      horizon = horizon;
      clock = 0;
      bounds = empty;
      fixed = replicate events None;
      lags = replicate events 0;
      proposed = None;
    }
