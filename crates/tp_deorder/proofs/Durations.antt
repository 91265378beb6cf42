-- The ticks that a duration constraint leaves are the lawful durations.
use Rattle.std.proofs.Common.{◌≡◌, ℕ, ◌+◌, ◌-◌, ◌≤◌, Bool, true, false, cond, ◌||◌, nat_le, List, [], ◌∷◌, ℤ, pos, ◌≤ℤ◌, int_lt, int_le, refl, sym, ◌∙◌, arith}
use Rattle.std.specs.List.{list_all, AllByRecursion}
use Rattle.std.specs.Bool.{MatchBool}
use Rattle.std.proofs.lemmas.Bool.{and_parts, and_from, leb-true, le-leb}
use Rattle.std.proofs.lemmas.Int.{ints}
use Rattle.tp_bounds.specs.declared.Point.TheVariants.{Event}
use Rattle.tp_bounds.specs.Schedule.{Meets}
use Rattle.tp_bounds.specs.OwnBounds.{MeetsEach}
use Rattle.tp_task.specs.declared.events.GroundEvent.{GroundEvent}
use Rattle.tp_task.specs.declared.events.Limit.{Limit}
use Rattle.tp_task.specs.State.{State}
use Rattle.tp_task.specs.Valid.{IsLawful}
use Rattle.tp_task.specs.Bounds.{uses_duration, KeepsDuration}
use Rattle.tp_validate.specs.declared.durations.Ticks.{Ticks}
use Rattle.tp_validate.specs.Constraints.{limit_holds, is_among, lawful_ticks}
use Rattle.tp_validate.proofs.Lawful.{lawful_is, lawful_least}
use Rattle.tp_deorder.specs.Spans.{kept_ticks}
use Rattle.tp_deorder.specs.Inequalities.{length_bounds}
use Rattle.tp_deorder.proofs.Each.{each_if, met_if}

not_lt : (a b : ℤ) → int_lt a b ≡ false → b ≤ℤ a
not_lt a b h = grind (arith, ints)

le_is : (a b : ℤ) → int_le a b ≡ true → a ≤ℤ b
le_is a b h = grind (arith, ints)

is_le : (a b : ℤ) → a ≤ℤ b → int_le a b ≡ true
is_le a b h = grind (arith, ints)

-- a number of ticks is among them
pub record IsAmong (s : Ticks) (ticks : ℕ) : Type 0 where
  pub low : s.least ≤ℤ pos ticks
  pub high : pos ticks ≤ℤ s.most

among : (s : Ticks) (n : ℕ) → is_among s n ≡ true → IsAmong s n
among s n h = let p = and_parts (int_le s.least (pos n)) (int_le (pos n) s.most) h in record { low = le_is _ _ p.0; high = le_is _ _ p.1 }

is_among_of : (s : Ticks) (n : ℕ) → IsAmong s n → is_among s n ≡ true
is_among_of s n i = and_from (int_le s.least (pos n)) (int_le (pos n) s.most) (is_le _ _ i.low) (is_le _ _ i.high)

module _ (horizon : ℕ) where
  module _ (scale : ℕ) (s : State) where
    all_hold : (n : ℕ) (ls : List Limit) → AllByRecursion (λ (l : Limit). limit_holds scale s n l ≡ true) ls → list_all (limit_holds scale s n) ls ≡ true
    all_hold n [] h = refl
    all_hold n (l ∷ ls) h = and_from _ _ h.0 (all_hold n ls h.1)

    hold_all : (n : ℕ) (ls : List Limit) → list_all (limit_holds scale s n) ls ≡ true → AllByRecursion (λ (l : Limit). limit_holds scale s n l ≡ true) ls
    hold_all n [] h = tt
    hold_all n (l ∷ ls) h = let p = and_parts (limit_holds scale s n l) _ h in (p.0, hold_all n ls p.1)

    pub lawful_among : (constraint : List Limit) (n : ℕ) → n ≤ horizon → IsLawful scale s constraint n → IsAmong (lawful_ticks horizon scale s constraint) n
    lawful_among constraint n l h =
        among _ n (lawful_is horizon scale s constraint n l ∙ and_from (nat_le 1 n) _ (le-leb 1 n h.tick) (all_hold n constraint h.constraint_holds))

    among_lawful : (constraint : List Limit) (n : ℕ) → n ≤ horizon → IsAmong (lawful_ticks horizon scale s constraint) n → IsLawful scale s constraint n
    among_lawful constraint n l i =
        let p = and_parts (nat_le 1 n) _ (sym (lawful_is horizon scale s constraint n l) ∙ is_among_of _ n i) in
        record { tick = leb-true 1 n p.0; constraint_holds = hold_all n constraint p.1 }

    pub kept_least : (constraint : List Limit) (duration : ℕ) (b : Bool) → pos 0 ≤ℤ (cond b (record { least = pos duration; most = pos duration }) (lawful_ticks horizon scale s constraint)).least
    kept_least constraint duration true = omega (arith, ints)
    kept_least constraint duration false = omega (arith, ints, lawful_least horizon scale s constraint)

    matched : (constraint : List Limit) (duration n : ℕ) (b : Bool) → n ≤ horizon → MatchBool b (n ≡ duration) (IsLawful scale s constraint n) → IsAmong (cond b (record { least = pos duration; most = pos duration }) (lawful_ticks horizon scale s constraint)) n
    matched constraint duration n true l h = record { low = omega (arith, ints); high = omega (arith, ints) }
    matched constraint duration n false l h = lawful_among constraint n l h

    unmatched : (constraint : List Limit) (duration n : ℕ) (b : Bool) → n ≤ horizon → IsAmong (cond b (record { least = pos duration; most = pos duration }) (lawful_ticks horizon scale s constraint)) n → MatchBool b (n ≡ duration) (IsLawful scale s constraint n)
    unmatched constraint duration n true l i = omega (arith, ints, i.low, i.high)
    unmatched constraint duration n false l i = among_lawful constraint n l i

    -- the bounds of a step's length
    length_met : (t : ℕ → ℕ) (k : ℕ) (w : Ticks) (n : ℕ) → t (k + 1) ≡ t k + n → IsAmong w n → MeetsEach t (length_bounds horizon k w)
    length_met t k w n a i = (omega (arith, ints, i.low), each_if t (int_lt w.most (pos horizon)) _ (λ _. omega (arith, ints, i.high)))

    most_of : (w : Ticks) (n : ℕ) (t : ℕ → ℕ) (k : ℕ) → n ≤ horizon → t (k + 1) ≡ t k + n → (b : Bool) → int_lt w.most (pos horizon) ≡ b → (b ≡ true → Meets t (record { from = Event k; to = Event (k + 1); w = w.most })) → pos n ≤ℤ w.most
    most_of w n t k l a true e m = let h = m refl in omega (arith, ints, h)
    most_of w n t k l a false e m = omega (arith, ints, not_lt w.most (pos horizon) e)

    met_length : (t : ℕ → ℕ) (k : ℕ) (w : Ticks) → t k ≤ horizon → t (k + 1) ≤ horizon → pos 0 ≤ℤ w.least → MeetsEach t (length_bounds horizon k w) → (n : ℕ) × (t (k + 1) ≡ t k + n) × (n ≤ horizon) × IsAmong w n
    met_length t k w f l z h =
        let low = h.0 in
        let up : t k ≤ t (k + 1) = omega (arith, ints, low, z) in
        let a : t (k + 1) ≡ t k + (t (k + 1) - t k) = omega arith in
        let n : t (k + 1) - t k ≤ horizon = omega arith in (
          t (k + 1) - t k,
          a,
          n,
          record {
            low = omega (arith, ints, low);
            high = most_of w (t (k + 1) - t k) t k n a (int_lt w.most (pos horizon)) refl (λ e. met_if t (int_lt w.most (pos horizon)) _ h.1 e);
          },
        )

    pub keeps_length : (t : ℕ → ℕ) (k duration : ℕ) (start end : GroundEvent) → t (k + 1) ≤ horizon → KeepsDuration scale s duration start end (t k) (t (k + 1)) → MeetsEach t (length_bounds horizon k (kept_ticks horizon scale s duration start end))
    keeps_length t k duration start end l h =
        length_met t k _ h.ticks h.apart (matched start.constraint.items duration h.ticks (uses_duration start || uses_duration end) (omega (arith, h.apart)) h.lawful)

    pub length_keeps : (t : ℕ → ℕ) (k duration : ℕ) (start end : GroundEvent) → t k ≤ horizon → t (k + 1) ≤ horizon → MeetsEach t (length_bounds horizon k (kept_ticks horizon scale s duration start end)) → KeepsDuration scale s duration start end (t k) (t (k + 1))
    length_keeps t k duration start end f l h =
        let b = uses_duration start || uses_duration end in
        let r = met_length t k (kept_ticks horizon scale s duration start end) f l (kept_least start.constraint.items duration b) h in
        record { ticks = r.0; apart = r.1; lawful = unmatched start.constraint.items duration r.0 b r.2 r.3 }
