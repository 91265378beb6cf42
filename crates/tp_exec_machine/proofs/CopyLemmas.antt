-- A setting is copied bound by bound and event by event.
use Rattle.std.proofs.Common.{◌≡◌, ℕ, ◌+◌, ◌<◌, ◌≤◌, inl, inr, List, length, Option, Some, None, refl, sym, ap, subst, ◌∙◌, arith}
use Rattle.std.proofs.lemmas.Bool.{cases_eq, cases_lt}
use Rattle.std.proofs.lemmas.List.{ext_get_or}
use Rattle.std.specs.Ordering.{nat_cmp}
use Rattle.std.specs.Cmp.{nat_cmp_total}
use Rattle.std.specs.FinMap.{FinMap, get, insert, empty, get-empty, same_map, nat_cmp-IsAntisymmetric}
use Rattle.tp_bounds.specs.declared.Point.{Point}
use Rattle.tp_bounds.specs.declared.Point.TheVariants.{Origin, Event}
use Rattle.tp_bounds.specs.declared.Bound.{Bound}
use Rattle.tp_bounds.specs.Setting.{Setting, event_count, HasPoint}
use Rattle.tp_bounds.specs.Changes.{with_bound}
use Rattle.tp_net.proofs.Laws.{get_inserted, get_insert_other}
use Rattle.tp_exec_machine.specs.Copies.{HasBoundsBelow, HasPastBelow, HasLagsBelow}

-- a copy has the points of what it is copied from
pub point_there : (s r : Setting) → event_count s ≡ event_count r → (p : Point) → HasPoint s p → HasPoint r p
point_there s r same Origin h = tt
point_there s r same (Event e) h = subst (λ n. e < n) same h

pub bounds_fit : (s start copy : Setting) (number : ℕ) → HasBoundsBelow s start copy number → event_count start ≡ event_count s → event_count s ≡ event_count copy
bounds_fit s start copy number h same = sym (ap event_count h.same ∙ same)

pub bounds_none : (s start : Setting) → start.bounds ≡ empty → HasBoundsBelow s start start 0
bounds_none s start none =
    record {
      same = refl;
      below = λ id lt. absurd (let f : ⊥ = omega arith in f);
      above = λ id le. ap (λ m. get m id) none ∙ get-empty nat_cmp id;
    }

pub bounds_more : (s start copy : Setting) (number : ℕ) (b : Bound) → HasBoundsBelow s start copy number → get s.bounds number ≡ Some b → HasBoundsBelow s start (with_bound copy number b) (number + 1)
bounds_more s start copy number b h is =
    record {
      same = ap (λ (r : Setting). record r { bounds = insert copy.bounds number b }) h.same;
      below = λ id lt. elim (cases_eq id number) [
        | inl same ↦ ap (get (insert copy.bounds number b)) same ∙ (get_inserted copy.bounds number b ∙ (sym is ∙ ap (get s.bounds) (sym same)))
        | inr ne ↦ get_insert_other copy.bounds number id b ne ∙ h.below id (omega arith)
      ];
      above = λ id le. get_insert_other copy.bounds number id b (λ same. absurd (let f : ⊥ = omega arith in f)) ∙ h.above id (omega arith);
    }

pub bounds_all : (s start copy : Setting) (number : ℕ) → HasBoundsBelow s start copy number → ((id : ℕ) → number ≤ id → get s.bounds id ≡ None) → copy ≡ record start { bounds = s.bounds }
bounds_all s start copy number h unused =
    h.same
    ∙ ap (λ (m : FinMap nat_cmp Bound). record start { bounds = m }) (same_map nat_cmp_total nat_cmp-IsAntisymmetric copy.bounds s.bounds (λ id. elim (cases_lt id number) [
      | inl lt ↦ h.below id lt
      | inr le ↦ h.above id le ∙ sym (unused id le)
    ]))

pub past_all : (s start copy : Setting) (number : ℕ) → HasPastBelow s start copy number → event_count s ≤ number → copy ≡ record start { fixed = s.fixed }
past_all s start copy number h all =
    h.same ∙ ap (λ (xs : List (Option ℕ)). record start { fixed = xs }) (ext_get_or None copy.fixed s.fixed h.events (λ e lt. h.below e (omega (arith, h.events))))

-- ---- lags

pub lags_none : (s start : Setting) → length start.lags ≡ length s.lags → HasLagsBelow s start start 0
lags_none s start room = record { same = refl; events = room; below = λ e lt. absurd (let f : ⊥ = omega arith in f) }

pub lags_all : (s start copy : Setting) (number : ℕ) → HasLagsBelow s start copy number → length s.lags ≤ number → copy ≡ record start { lags = s.lags }
lags_all s start copy number h all =
    h.same ∙ ap (λ (xs : List ℕ). record start { lags = xs }) (ext_get_or 0 copy.lags s.lags h.events (λ e lt. h.below e (omega (arith, h.events))))
