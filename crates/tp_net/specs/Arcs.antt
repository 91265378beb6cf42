-- The edges of a setting as arcs between numbered points: the origin is 0, an event comes one after its number.
use Rattle.std.specs.Prelude.{◌≡◌, ℕ, suc, ◌-◌, ◌<◌, ◌≤◌, cond, nat_eq, List, [], ◌∷◌, ◌++◌, length, map, slice_index, slice_index_or, Option, Some, None, pos, ◌-ℤ◌, ◌≤ℤ◌}
use Rattle.tp_bounds.specs.declared.Point.{Point}
use Rattle.tp_bounds.specs.declared.Point.TheVariants.{Origin, Event}
use Rattle.tp_bounds.specs.declared.Bound.{Bound}
use Rattle.tp_bounds.specs.declared.Edge.{Edge}
use Rattle.tp_bounds.specs.declared.Edge.TheVariants.{Own, New, PastHigh, PastLow, Now, End}
use Rattle.tp_bounds.specs.Setting.{Setting}
use Rattle.tp_bounds.specs.Reasons.{bound_of}
use Rattle.tp_net.specs.declared.slacks.Arc.{Arc}
use Rattle.tp_net.specs.Graph.{HasNoSolution, arc_at}
use Rattle.tp_net.specs.Sizes.{IsSmallWeight}
use Rattle.tp_net.specs.Slacks.{JoinsPoints}
use Rattle.tp_net.specs.Moments.{CycleBeginsWith, HoldsLeast}

abbrev pub number_of : Point → ℕ
number_of Origin = 0
number_of (Event e) = suc e

-- a bound as an arc
abbrev pub arc_of : Bound → Arc
arc_of b = record { from = number_of b.from; to = number_of b.to; weight = b.w }

-- the name of this number
abbrev pub name_at : List Edge → ℕ → Edge
name_at names k = slice_index_or names k New

-- Each name is of an edge of the setting, whose bound stands at its place; and each edge that is among those
-- that are looked at has a place.
pub record ListsArcs (among : Edge → Type 0) (s : Setting) (names : List Edge)
    (arcs : List Arc) : Type 0 where
  pub len : length names ≡ length arcs
  pub exist :
      (k : ℕ) → k < length arcs → (b : Bound)
      × (bound_of s (name_at names k) ≡ Some b)
      × (arc_at arcs k ≡ arc_of b)
  pub all :
      (e : Edge) (b : Bound) → bound_of s e ≡ Some b → among e → (k : ℕ)
      × (k < length arcs)
      × (name_at names k ≡ e)

-- these are all edges of the setting
abbrev pub AreArcs : Setting → List Edge → List Arc → Type 0
AreArcs s names arcs = ListsArcs (λ _. Unit {0}) s names arcs

-- The names are of edges of the setting that is asked for, between the same points and at least as tight.
abbrev pub Stand : Setting → List Edge → List Arc → Type 0
Stand asked names arcs =
    (k : ℕ) → k < length arcs
    → (b : Bound)
    × (bound_of asked (name_at names k) ≡ Some b)
    × (number_of b.from ≡ (arc_at arcs k).from)
    × (number_of b.to ≡ (arc_at arcs k).to)
    × (b.w ≤ℤ (arc_at arcs k).weight)

-- the floor of an event at this moment, where these are the lags
abbrev pub floor_at : ℕ → List ℕ → ℕ → ℕ
floor_at now lags e = now - slice_index_or lags e 0

-- an arc when now is raised: that of a floor moves along
abbrev pub raised_by : ℕ → List ℕ → Edge → Arc → Arc
raised_by now lags (Own id) a = a
raised_by now lags New a = a
raised_by now lags (PastHigh e) a = a
raised_by now lags (PastLow e) a = a
raised_by now lags (Now e) a =
    record { from = a.from; to = a.to; weight = pos 0 -ℤ pos (floor_at now lags e) }
raised_by now lags (End e) a = a

-- the arcs when now is raised, in the same order
pub record AreRaised (now : ℕ) (lags : List ℕ) (names : List Edge)
    (arcs raised : List Arc) : Type 0 where
  pub len : length raised ≡ length arcs
  pub each :
      (k : ℕ)
      → k < length arcs → arc_at raised k ≡ raised_by now lags (name_at names k) (arc_at arcs k)

-- the name of an edge when e is dispatched: its floor and its end give way to its moment
abbrev pub past_name : ℕ → Edge → Edge
past_name e (Own id) = Own id
past_name e New = New
past_name e (PastHigh k) = PastHigh k
past_name e (PastLow k) = PastLow k
past_name e (Now k) = cond (nat_eq k e) (PastLow k) (Now k)
past_name e (End k) = cond (nat_eq k e) (PastHigh k) (End k)

-- an arc when e is dispatched at the moment
abbrev pub past_arc : ℕ → ℕ → Edge → Arc → Arc
past_arc e moment (Own id) a = a
past_arc e moment New a = a
past_arc e moment (PastHigh k) a = a
past_arc e moment (PastLow k) a = a
past_arc e moment (Now k) a =
    cond (nat_eq k e) (record { from = a.from; to = a.to; weight = pos 0 -ℤ pos moment }) a
past_arc e moment (End k) a =
    cond (nat_eq k e) (record { from = a.from; to = a.to; weight = pos moment }) a

-- the names when e is dispatched, in the same order
pub record AreNamesPast (e : ℕ) (names past : List Edge) : Type 0 where
  pub len : length past ≡ length names
  pub each : (k : ℕ) → k < length names → name_at past k ≡ past_name e (name_at names k)

-- the arcs when e is dispatched at the moment, in the same order
pub record AreArcsPast (e moment : ℕ) (names : List Edge) (arcs past : List Arc) : Type 0 where
  pub len : length past ≡ length arcs
  pub each :
      (k : ℕ)
      → k < length arcs → arc_at past k ≡ past_arc e moment (name_at names k) (arc_at arcs k)

-- every event that is not dispatched can wait until its floor
abbrev pub AllWait : List (Option ℕ) → List ℕ → List ℕ → ℕ → Type 0
AllWait fixed high lags now =
    (k : ℕ) → k < length fixed
    → slice_index_or fixed k None ≡ None → floor_at now lags k ≤ slice_index high (suc k)

-- the event is not dispatched, and has to happen before its floor
pub record CannotWait (fixed : List (Option ℕ)) (high lags : List ℕ) (now e : ℕ) : Type 0 where
  pub event : e < length fixed
  pub free : slice_index_or fixed e None ≡ None
  pub early : slice_index high (suc e) < floor_at now lags e

-- no solution of the arcs meets the new one too
pub record IsContrary (names : List Edge) (arcs : List Arc) (low : List ℕ)
    (new : Arc) : Type 0 where
  pub len : length names ≡ length arcs
  pub holds : HoldsLeast arcs low
  pub weight : IsSmallWeight new.weight
  pub among : JoinsPoints (length low) new
  pub none : HasNoSolution (arcs ++ new ∷ [])

-- these are the names of a negative cycle that begins with the new arc, whose name is the first one
abbrev pub NamesCycle : List Edge → List Arc → Edge → Arc → List Edge → Type 0
NamesCycle names arcs first new edges =
    (cycle : List ℕ)
    × CycleBeginsWith (arcs ++ new ∷ []) (length arcs) cycle
    × (edges ≡ map (name_at (names ++ first ∷ [])) cycle)
