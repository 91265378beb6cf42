-- What contracts see of a network that is repaired.
use Rattle.std.specs.Prelude.{ℕ, ◌+◌, ◌*◌, List, Option, None, refl}
use Rattle.std.specs.FinMap.{len}
use Rattle.std.specs.Coded.{Coded, code_by, coded×, coded_ℕ}
use Rattle.tp_bounds.specs.declared.Bound.{Bound}
use Rattle.tp_bounds.specs.Setting.{Setting, event_count}
use Rattle.tp_bounds.specs.Codes.{coded_setting}
use Rattle.tp_bounds.specs.Held.{held}

-- setting: what is settled in it. looks: at how many edges the last change looked
pub record Told : Type 0 where
  pub setting : Setting
  pub looks : ℕ

abbrev pub coded_told : Coded Told
coded_told =
    code_by (Setting × ℕ) (coded× coded_setting coded_ℕ) (λ t. (t.setting, t.looks)) (λ p.
    record { setting = p.0; looks = p.1 }) (λ _. refl)

-- the setting that the fields give
abbrev pub settled : ℕ → ℕ → List (ℕ × Bound) → List (Option ℕ) → List ℕ → Setting
settled horizon clock bounds fixed lags =
    record {
      horizon = horizon;
      clock = clock;
      bounds = held bounds;
      fixed = fixed;
      lags = lags;
      proposed = None;
    }

-- how many edges a setting has: its bounds, and two of each event with the origin
abbrev pub edge_count : Setting → ℕ
edge_count s = len s.bounds + 2 * event_count s
