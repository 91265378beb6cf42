-- How large a run may grow.
use Rattle.std.specs.Prelude.{ℕ, ◌≤◌, refl}
use Rattle.std.specs.Coded.{Coded, code_by, coded×, coded_ℕ}

-- events: of a network. bounds: in force at one time. ids: identifiers given out. horizon: in ticks. atoms: ground atoms, and ground fluents.
-- actions: ground actions. expansions: states that a search looks at
pub record RunLimits : Type 0 where
  pub events : ℕ
  pub bounds : ℕ
  pub ids : ℕ
  pub horizon : ℕ
  pub atoms : ℕ
  pub actions : ℕ
  pub expansions : ℕ

-- each number is at most the greatest that a run may be given
pub record AreLimits (l : RunLimits) : Type 0 where
  pub most_events : l.events ≤ 1_024
  pub most_bounds : l.bounds ≤ 65_535
  pub most_ids : l.ids ≤ 1_048_576
  pub most_horizon : l.horizon ≤ 1_000_000_000
  pub most_atoms : l.atoms ≤ 65_535
  pub most_actions : l.actions ≤ 65_535
  pub most_expansions : l.expansions ≤ 1_000_000

-- the greatest numbers that a run may be given, but for its horizon
abbrev pub greatest_limits : ℕ → RunLimits
greatest_limits horizon =
    record {
      events = 1_024;
      bounds = 65_535;
      ids = 1_048_576;
      horizon = horizon;
      atoms = 65_535;
      actions = 65_535;
      expansions = 1_000_000;
    }

-- how limits are told from others: the code that a model's value wants
abbrev pub coded_limits : Coded RunLimits
coded_limits =
    code_by (ℕ × (ℕ × (ℕ × (ℕ × (ℕ × (ℕ × ℕ)))))) (coded× coded_ℕ (coded× coded_ℕ
    (coded× coded_ℕ (coded× coded_ℕ (coded× coded_ℕ (coded× coded_ℕ coded_ℕ))))))
    (λ l. (l.events, (l.bounds, (l.ids, (l.horizon, (l.atoms, (l.actions, l.expansions)))))))
    (λ p. record {
      events = p.0;
      bounds = p.1.0;
      ids = p.1.1.0;
      horizon = p.1.1.1.0;
      atoms = p.1.1.1.1.0;
      actions = p.1.1.1.1.1.0;
      expansions = p.1.1.1.1.1.1;
    })
    (λ _. refl)
