-- The task of some ground actions of a problem, among them each that a valid plan may have.
use Rattle.std.specs.Prelude.{◌≡◌, Bool, true, false, ◌&&◌, ◌||◌, List, [], ◌∷◌, map}
use Rattle.std.specs.List.{list_all}
use Rattle.tp_syntax_ast.specs.Actions.{Action}
use Rattle.tp_syntax_ast.specs.Domains.{Domain}
use Rattle.tp_syntax_ast.specs.Problems.{Problem}
use Rattle.tp_bounds.specs.RunLimits.{RunLimits}
use Rattle.tp_text.specs.declared.number.Scale.{Scale}
use Rattle.tp_task.specs.Bounds.{In}
use Rattle.tp_task.specs.Words.{Words, has_words}
use Rattle.tp_task.specs.declared.task.Task.{Task}
use Rattle.tp_ground.specs.Bindings.{universe_of, bound, words_in}
use Rattle.tp_ground.specs.Initially.{initial_in, is_initially_true}
use Rattle.tp_ground.specs.Written.{GroundBody, instant, durative}
use Rattle.tp_ground.specs.Reached.{Instance, instances, action_of, met, IsTaskOf}
use Rattle.tp_ground_laws.specs.Needed.{needed, is_added}
use Rattle.tp_ground_laws.specs.SamePlans.{some_of}

-- an effect adds an atom of this name
abbrev pub may_be_added : List Action → Words → Bool
may_be_added as_ [] = false
may_be_added as_ (n ∷ w) = is_added as_ n

-- what no effect adds is true only if it is so at first
abbrev pub may_hold : Domain → Problem → Words → Bool
may_hold d p w = may_be_added d.actions w || is_initially_true (map initial_in p.initial) w

-- each atom that the action needs may hold
abbrev pub may_happen : Domain → Problem → Instance → Bool
may_happen d p i =
    list_all (λ f. may_hold d p (words_in (bound i.action.parameters i.objects) f)) (needed i.action.body)

-- the conditions of all its events and its invariant are met
abbrev pub is_whole : (Words → Bool) → GroundBody → Bool
is_whole reach (instant h) = met reach true h.condition
is_whole reach (durative start end invariant) =
    met reach true start.condition && (met reach true invariant && met reach true end.condition)

abbrev pub HasAll : (Words → Bool) → List Words → Type 0
HasAll reach ws = (w : Words) → has_words ws w ≡ true → reach w ≡ true

-- The set has what an action adds in it: an end adds only if its start, its invariant and its own condition are met.
abbrev pub IsWithin : (Words → Bool) → GroundBody → Type 0
IsWithin reach (instant h) = met reach true h.condition ≡ true → HasAll reach h.adds
IsWithin reach (durative start end invariant) =
    met reach true start.condition ≡ true
    → HasAll reach start.adds
    × (met reach true invariant ≡ true → met reach true end.condition ≡ true → HasAll reach end.adds)

-- A set of atoms has those that are true at first and what actions add in it, and these actions are among those that are asked for.
pub record HasUseful (d : Domain) (p : Problem) (those : Instance → Bool) : Type 0 where
  pub reach : Words → Bool
  pub initial :
      (w : Words) → is_initially_true (map initial_in p.initial) w ≡ true → reach w ≡ true
  pub within :
      (i : Instance) → In i (instances (universe_of d p) d.actions) → may_happen d p i ≡ true
      → IsWithin reach (action_of (universe_of d p) i).body
  pub useful :
      (i : Instance) → In i (instances (universe_of d p) d.actions) → may_happen d p i ≡ true
      → is_whole reach (action_of (universe_of d p) i).body ≡ true → those i ≡ true

pub record IsWholeTask (limits : RunLimits) (scale : Scale) (d : Domain) (p : Problem)
    (t : Task) : Type 0 where
  pub those : Instance → Bool
  pub has_useful : HasUseful d p those
  pub task : IsTaskOf limits scale d p (some_of d p those) t
