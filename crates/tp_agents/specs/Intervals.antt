-- The intervals that decouple the agents (Hunsberger 2002, temporal decoupling): each interface event has one.
use Rattle.std.specs.Prelude.{◌≡◌, ℕ, ◌<◌, max, min, nat_eq, if◌then◌else◌, List, [], ◌∷◌, length, take, slice_index_or, Option, Some, None, ℤ, pos, negsuc, ◌+ℤ◌, ◌-ℤ◌}
use Rattle.tp_bounds.specs.Certificates.{moments_of}
use Rattle.tp_agents.specs.declared.crosses.CrossBound.{CrossBound}
use Rattle.tp_agents.specs.Crosses.{is_interface}

-- where an interval begins and ends; an event that has none yet is at a moment
abbrev pub begin_or : Option (ℕ × ℕ) → ℕ → ℕ
begin_or None moment = moment
begin_or (Some interval) moment = interval.0

abbrev pub end_or : Option (ℕ × ℕ) → ℕ → ℕ
end_or None moment = moment
end_or (Some interval) moment = interval.1

abbrev pub begins : List (Option (ℕ × ℕ)) → List ℕ → ℕ → ℕ
begins intervals least e = begin_or (slice_index_or intervals e None) (moments_of least e)

abbrev pub ends : List (Option (ℕ × ℕ)) → List ℕ → ℕ → ℕ
ends intervals least e = end_or (slice_index_or intervals e None) (moments_of least e)

-- a whole number as a moment, 0 if it is less
abbrev pub moment_from : ℤ → ℕ
moment_from (pos n) = n
moment_from (negsuc n) = 0

-- The greatest of 0 and, for each cross bound from e, the last moment of its other event less its weight: the least moment at which e
-- meets them all, wherever the others are in their intervals.
abbrev pub low_of : List CrossBound → (ℕ → ℕ) → ℕ → ℕ
low_of [] last e = 0
low_of (b ∷ bs) last e =
    if nat_eq b.from e then max (moment_from (pos (last b.to) -ℤ b.w)) (low_of bs last e)
    else low_of bs last e

-- The least of the horizon and, for each cross bound to e, the first moment of its other event plus its weight.
abbrev pub high_of : ℕ → List CrossBound → (ℕ → ℕ) → ℕ → ℕ
high_of horizon [] first e = horizon
high_of horizon (b ∷ bs) first e =
    if nat_eq b.to e then min (moment_from (pos (first b.from) +ℤ b.w)) (high_of horizon bs first e)
    else high_of horizon bs first e

-- The interval of an event once those before it have theirs and all others are still at their least moments; none where it is no
-- interface event.
abbrev pub interval_of : ℕ → List CrossBound → List ℕ → List (Option (ℕ × ℕ)) → ℕ → Option (ℕ × ℕ)
interval_of horizon crosses least before e =
    if is_interface crosses e
    then Some (low_of crosses (ends before least) e, high_of horizon crosses (begins before least) e)
    else None

-- These are the intervals of the events, where the least schedule that remains has these moments: one event after another gets its.
pub record AreIntervals (horizon : ℕ) (crosses : List CrossBound) (least : List ℕ) (intervals : List (Option (ℕ × ℕ))) : Type 0 where
  pub count : length intervals ≡ length least
  pub each :
      (e : ℕ) → e < length intervals → slice_index_or intervals e None
      ≡ interval_of horizon crosses least (take e intervals) e
