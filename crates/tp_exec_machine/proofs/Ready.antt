-- A new network is fresh, and the identifiers from the next one on stay unused.
use Rattle.std.proofs.Common.{◌≡◌, ◌≢◌, ℕ, zero, suc, get_or, replicate, ◌+◌, ◌<◌, ◌≤◌, nat_lt, Option, None, sym, ap, ◌∙◌, arith, cond, if◌then◌else◌, Bool, true, false, refl}
use Rattle.std.proofs.lemmas.Bool.Decides.{nat_tests}
use Rattle.std.specs.Ordering.{nat_cmp, eq_by_cmp}
use Rattle.std.specs.Cmp.{nat_cmp_total}
use Rattle.std.specs.FinMap.{FinMap, get, insert, remove, get-remove}
use Rattle.tp_bounds.specs.declared.Bound.{Bound}
use Rattle.tp_bounds.specs.Setting.{Setting}
use Rattle.tp_bounds.specs.Changes.{fresh, with_lag}
use Rattle.tp_net.proofs.Laws.{get_insert_other, other_key}
use Rattle.tp_exec_machine.specs.declared.command.Kind.{Kind}
use Rattle.tp_exec_machine.specs.declared.command.Kind.TheVariants.{Bare, Kept, Altered}
use Rattle.tp_exec_machine.specs.Machine.{IsFresh, kind_after}

pub unused_added : (m : FinMap nat_cmp Bound) (next : ℕ) (b : Bound) → ((id : ℕ) → next ≤ id → get m id ≡ None) → (id : ℕ) → next + 1 ≤ id → get (insert m next b) id ≡ None
unused_added m next b h id le = get_insert_other m next id b (λ same. absurd (let f : ⊥ = omega arith in f)) ∙ h id (omega arith)

abbrev no_bound : Option Bound → Type 0
no_bound o = o ≡ None

both_none : (b : Bool) → no_bound (cond b None None)
both_none b = elim b as (λ v. no_bound (cond v None None)) [ true ↦ refl | false ↦ refl ]

pub unused_removed : (m : FinMap nat_cmp Bound) (next k : ℕ) → ((id : ℕ) → next ≤ id → get m id ≡ None) → (id : ℕ) → next ≤ id → get (remove m k) id ≡ None
unused_removed m next k h id le = get-remove nat_cmp_total m k id ∙ (ap (λ o. cond (eq_by_cmp nat_cmp id k) None o) (h id le) ∙ both_none (eq_by_cmp nat_cmp id k))

-- the bounds under identifiers below a number stay where one comes into force behind them
pub kept_added : (m : FinMap nat_cmp Bound) (next own : ℕ) (b : Bound) → own ≤ next → ((id : ℕ) → id < own → get m id ≢ None) → (id : ℕ) → id < own → get (insert m next b) id ≢ None
kept_added m next own b le h id lt none =
    h id lt (sym (get_insert_other m next id b (λ same. absurd (let f : ⊥ = omega arith in f))) ∙ none)

pub not_altered : (b : Bool) → (if b then Altered else Kept) ≡ Kept → b ≡ false
not_altered true h = absurd (let f : ⊥ = cc in f)
not_altered false h = refl

pub get_removed_other : (m : FinMap nat_cmp Bound) (k id : ℕ) → id ≢ k → get (remove m k) id ≡ get m id
get_removed_other m k id ne = get-remove nat_cmp_total m k id ∙ ap (λ b. cond b None (get m id)) (other_key id k ne)

-- where a network is still kept once a bound has gone, that was none of its own, and these are in force
pub kept_removed : (kind : Kind) (m : FinMap nat_cmp Bound) (own k : ℕ) → (kind ≡ Kept → (id : ℕ) → id < own → get m id ≢ None) → kind_after kind own k ≡ Kept → (id : ℕ) → id < own → get (remove m k) id ≢ None
kept_removed Bare m own k h is id lt none = absurd (let f : ⊥ = cc in f)
kept_removed Kept m own k h is id lt none =
    let q : nat_lt k own ≡ false = not_altered (nat_lt k own) is in
    let le : own ≤ k = grind (arith, nat_tests) in
    h refl id lt (sym (get_removed_other m k id (λ same. absurd (let f : ⊥ = omega arith in f))) ∙ none)
kept_removed Altered m own k h is id lt none = absurd (let f : ⊥ = cc in f)

replicate_none : (n k : ℕ) → get_or (replicate {A = Option ℕ} n None) k None ≡ None
replicate_none zero k = refl
replicate_none (suc n) zero = refl
replicate_none (suc n) (suc k) = replicate_none n k

-- the setting of a new network
pub fresh_new : (events horizon : ℕ) → IsFresh (fresh events horizon)
fresh_new events horizon = record { no_bounds = refl; start = refl; no_past = replicate_none events; asks_nothing = refl }

-- a new network with a lag is new but for lags
pub fresh_lagged : (s : Setting) (e lag : ℕ) → IsFresh s → IsFresh (with_lag s e lag)
fresh_lagged s e lag h = record { no_bounds = h.no_bounds; start = h.start; no_past = h.no_past; asks_nothing = h.asks_nothing }
