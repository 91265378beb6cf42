-- Sets of atoms, by number and by words, that have what some actions add in them.
use Rattle.std.specs.Prelude.{◌≡◌, ℕ, Bool, true, not, ◌&&◌, ◌||◌, List, map, length}
use Rattle.std.specs.List.{AllByRecursion, IsDistinct, list_all}
use Rattle.tp_syntax_ast.specs.Problems.{Initial}
use Rattle.tp_task.specs.declared.events.Body.{Body}
use Rattle.tp_task.specs.declared.events.Body.TheVariants.{Instant, Durative}
use Rattle.tp_task.specs.Reach as numbers
use Rattle.tp_task.specs.Tables.{Tables}
use Rattle.tp_task.specs.Words.{Words, same_words}
use Rattle.tp_task.specs.Rounds.{set_of}
use Rattle.tp_ground_bindings.specs.Bindings.{Universe}
use Rattle.tp_ground.specs.ReadBack.{named_body}
use Rattle.tp_ground.specs.Initially.{initial_in, is_initially_true, named_initial}
use Rattle.tp_ground.specs.Reached.{Instance, action_of}
use Rattle.tp_ground_laws.specs.WholeTasks.{is_whole, IsWithin}
use Rattle.tp_ground_joins.specs.declared.numbered.Numbered.{Numbered}

-- the set has what an action adds in it
abbrev pub is_within : (ℕ → Bool) → Body → Bool
is_within r (Instant e) = not (numbers.met r true e.condition) || list_all r e.adds.items
is_within r (Durative start end invariant) =
    not (numbers.met r true start.condition)
    || (list_all r start.adds.items
    && (not (numbers.met r true invariant && numbers.met r true end.condition) || list_all r end.adds.items))

-- the conditions of its events and its invariant are met
abbrev pub is_whole_by : (ℕ → Bool) → Body → Bool
is_whole_by r (Instant e) = numbers.met r true e.condition
is_whole_by r (Durative start end invariant) =
    numbers.met r true start.condition
    && (numbers.met r true invariant && numbers.met r true end.condition)

abbrev pub HasFirst : List Bool → List Bool → Type 0
HasFirst reach first =
    (length reach ≡ length first)
    × ((j : ℕ) → set_of first j ≡ true → set_of reach j ≡ true)

-- Those bodies are marked that can happen whole in a set that has these atoms and what the bodies add in it.
pub record AreMarkedFrom (first : List Bool) (bodies : List Body) (marks : List Bool) : Type 0 where
  pub reach : List Bool
  pub has_first : HasFirst reach first
  pub within : list_all (is_within (set_of reach)) bodies ≡ true
  pub are : marks ≡ map (is_whole_by (set_of reach)) bodies

-- what ':init' and some instances say, by number
pub record IsNumbered (u : Universe) (is : List Initial) (xs : List Instance) (t : Tables)
    (l : Numbered) : Type 0 where
  pub entries : map (named_initial t) l.entries.items ≡ map initial_in is
  pub bodies : map (named_body t) l.bodies.items ≡ map (λ i. (action_of u i).body) xs
  pub distinct : IsDistinct same_words t.atoms

-- the same of instances, by words
pub record AreMarked (u : Universe) (is : List Initial) (xs : List Instance)
    (marks : List Bool) : Type 0 where
  pub reach : Words → Bool
  pub initial : (w : Words) → is_initially_true (map initial_in is) w ≡ true → reach w ≡ true
  pub within : AllByRecursion (λ i. IsWithin reach (action_of u i).body) xs
  pub are : marks ≡ map (λ i. is_whole reach (action_of u i).body) xs
