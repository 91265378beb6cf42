-- What an event reads and writes, and when two events interfere.
use Rattle.std.specs.Prelude.{ℕ, Bool, true, false, ◌==◌, not, ◌&&◌, ◌||◌, List, [], ◌∷◌, ◌++◌, map}
use Rattle.std.specs.List.{list_any, filter, flat_map}
use Rattle.tp_task.specs.declared.events.Change.{Change}
use Rattle.tp_task.specs.declared.events.Change.TheVariants.{Assign, ScaleUp, Increase, Decrease}
use Rattle.tp_task.specs.declared.events.NumericEffect.{NumericEffect}
use Rattle.tp_task.specs.declared.events.GroundEvent.{GroundEvent}
use Rattle.tp_task.specs.State.{fluents_of, atoms_in, fluents_in}

-- the number is in the list; the lists have a number in common
abbrev pub has : List ℕ → ℕ → Bool
has xs x = list_any (λ y. y == x) xs

abbrev pub meets : List ℕ → List ℕ → Bool
meets xs ys = list_any (λ x. has ys x) xs

-- `increase` and `decrease` add to their fluent, `assign` and `scale-up` set it
abbrev pub is_additive : Change → Bool
is_additive Assign = false
is_additive ScaleUp = false
is_additive Increase = true
is_additive Decrease = true

-- The fluents that an event's condition, right sides and duration constraint mention.
abbrev pub fluents_read : GroundEvent → List ℕ
fluents_read e =
    fluents_in e.condition ++ flat_map (λ w. fluents_of w.value) e.writes.items
    ++ flat_map (λ l. fluents_of l.value) e.constraint.items

-- The fluents that it writes, and those that it sets.
abbrev pub fluents_written : GroundEvent → List ℕ
fluents_written e = map (λ w. w.fluent) e.writes.items

abbrev pub fluents_set : GroundEvent → List ℕ
fluents_set e = map (λ w. w.fluent) (filter (λ w. not (is_additive w.change)) e.writes.items)

-- One event disturbs another: it adds or deletes an atom that appears in the other's condition, it adds an atom
-- that the other deletes, it writes a fluent that the other reads, or it sets a fluent that the other writes.
abbrev pub disturbs : GroundEvent → GroundEvent → Bool
disturbs a b =
    meets (a.adds.items ++ a.deletes.items) (atoms_in b.condition)
    || (meets a.adds.items b.deletes.items
    || (meets (fluents_written a) (fluents_read b)
    || meets (fluents_set a) (fluents_written b)))

-- Two events interfere.
abbrev pub interferes : GroundEvent → GroundEvent → Bool
interferes a b = disturbs a b || disturbs b a

-- In one event a fluent is written by one setting write alone, or by additive writes.
abbrev pub mixes_with : NumericEffect → List NumericEffect → Bool
mixes_with w ws =
    list_any (λ v. (v.fluent == w.fluent) && not (is_additive v.change && is_additive w.change)) ws

abbrev pub mixes_in : List NumericEffect → Bool
mixes_in [] = false
mixes_in (w ∷ ws) = mixes_with w ws || mixes_in ws

abbrev pub mixes : GroundEvent → Bool
mixes e = mixes_in e.writes.items
