-- What a contract sees of an executive.
use Rattle.std.specs.Prelude.{◌≡◌, ◌≢◌, ℕ, zero, suc, ◌<◌, ◌≤◌, nat_lt, Bool, true, if◌then◌else◌, List, length, None, refl}
use Rattle.std.specs.Coded.{Coded, code_by, coded×, coded_ℕ}
use Rattle.std.specs.FinMap.{get, empty}
use Rattle.tp_bounds.specs.RunLimits.{RunLimits, coded_limits}
use Rattle.tp_bounds.specs.Setting.{Setting, fixed_at}
use Rattle.tp_bounds.specs.Codes.{coded_setting}
use Rattle.tp_bounds.specs.declared.Bound.{Bound}
use Rattle.tp_bounds.specs.OwnBounds.{with_bounds}
use Rattle.tp_exec_machine.specs.declared.command.Kind.{Kind}
use Rattle.tp_exec_machine.specs.declared.command.Kind.TheVariants.{Bare, Kept, Altered}

-- The state of the machine. setting: the events, the bounds in force, what was dispatched, and now. limits: how large the run may grow.
-- next: the identifier that the next bound gets. own: how many bounds are a plan's own, which have the identifiers below that number.
-- kind: where the bounds come from, and whether all of a plan's own are in force
pub record Machine : Type 0 where
  pub setting : Setting
  pub limits : RunLimits
  pub next : ℕ
  pub own : ℕ
  pub kind : Kind

-- new but for lags: no bound is in force, now is 0, nothing is dispatched, and no bound is asked for
pub record IsFresh (s : Setting) : Type 0 where
  pub no_bounds : s.bounds ≡ empty
  pub start : s.clock ≡ 0
  pub no_past : (e : ℕ) → fixed_at s e ≡ None
  pub asks_nothing : s.proposed ≡ None

-- the state in which an executive over a network begins
abbrev pub new_machine : Setting → RunLimits → Machine
new_machine s limits = record { setting = s; limits = limits; next = 0; own = 0; kind = Bare }

-- the same over a network in which the bounds of a plan come into force: these are its own
abbrev pub plan_machine : Setting → List Bound → RunLimits → Machine
plan_machine s bounds limits =
    record {
      setting = with_bounds s 0 bounds;
      limits = limits;
      next = length bounds;
      own = length bounds;
      kind = Kept;
    }

-- The kind once a bound goes out of force: without one of its own, a network that was kept is altered, and stays so.
abbrev pub kind_after : Kind → ℕ → ℕ → Kind
kind_after Bare own id = Bare
kind_after Kept own id = if nat_lt id own then Altered else Kept
kind_after Altered own id = Altered

-- What holds of every state: the network takes bounds between events; the identifiers from the next one on are unused, and no more
-- were given out than the limits allow; no bound is asked for; a plan's own bounds came first, and all are in force while the network
-- is kept
pub record IsReady (takes : Bool) (m : Machine) : Type 0 where
  pub between : takes ≡ true
  pub unused : (id : ℕ) → m.next ≤ id → get m.setting.bounds id ≡ None
  pub ids : m.next ≤ m.limits.ids
  pub asks_nothing : m.setting.proposed ≡ None
  pub first : m.own ≤ m.next
  pub kept : m.kind ≡ Kept → (id : ℕ) → id < m.own → get m.setting.bounds id ≢ None

-- ---- how a state is told from others: the codes that a model's value wants

abbrev pub number_of : Kind → ℕ
number_of Bare = 0
number_of Kept = 1
number_of Altered = 2

abbrev pub kind_of : ℕ → Kind
kind_of zero = Bare
kind_of (suc zero) = Kept
kind_of (suc (suc n)) = Altered

pub kind_of-number_of : (k : Kind) → kind_of (number_of k) ≡ k
kind_of-number_of Bare = refl
kind_of-number_of Kept = refl
kind_of-number_of Altered = refl

abbrev pub coded_kind : Coded Kind
coded_kind = code_by ℕ coded_ℕ number_of kind_of kind_of-number_of

abbrev pub coded_machine : Coded Machine
coded_machine =
    code_by (Setting × (RunLimits × (ℕ × (ℕ × Kind))))
    (coded× coded_setting (coded× coded_limits (coded× coded_ℕ (coded× coded_ℕ coded_kind))))
    (λ m. (m.setting, (m.limits, (m.next, (m.own, m.kind)))))
    (λ p.
    record { setting = p.0; limits = p.1.0; next = p.1.1.0; own = p.1.1.1.0; kind = p.1.1.1.1 })
    (λ _. refl)
