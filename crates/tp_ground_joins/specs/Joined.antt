-- The task of some ground actions of a problem, whichever these are; and what is so if they are all that may be of use.
use Rattle.std.specs.Prelude.{◌≡◌, Bool, true, false, List, [], ◌∷◌, map}
use Rattle.tp_syntax_ast.specs.Actions.{Action}
use Rattle.tp_syntax_ast.specs.Domains.{Domain}
use Rattle.tp_syntax_ast.specs.Problems.{Initial, Problem}
use Rattle.tp_bounds.specs.RunLimits.{RunLimits}
use Rattle.tp_text.specs.declared.number.Scale.{Scale}
use Rattle.tp_task.specs.Bounds.{In}
use Rattle.tp_task.specs.Words.{Words, has_words}
use Rattle.tp_task.specs.declared.task.Task.{Task}
use Rattle.tp_ground_bindings.specs.Bindings.{Universe}
use Rattle.tp_ground.specs.Initially.{initial_in, is_initially_true}
use Rattle.tp_ground.specs.Reached.{Instance, instances, action_of, IsTaskOf}
use Rattle.tp_ground.specs.Instances.{instance_view}
use Rattle.tp_ground.specs.declared.instances.Instance as code
use Rattle.tp_ground_named.specs.Named.{chosen, words_of}
use Rattle.tp_ground_laws.specs.WholeTasks.{is_whole, IsWithin}
use Rattle.tp_ground_joins.specs.Levels.{may_be}

pub record IsJoinedTask (limits : RunLimits) (scale : Scale) (d : Domain) (p : Problem)
    (t : Task) : Type 0 where
  pub asked : List Words
  pub task : IsTaskOf limits scale d p (chosen d p asked) t

-- what is said of those that are marked
abbrev pub picked : {A : Type 0} → (A → Words) → List Bool → List A → List Words
picked f [] xs = []
picked f (m ∷ ms) [] = []
picked f (true ∷ ms) (x ∷ xs) = f x ∷ picked f ms xs
picked f (false ∷ ms) (x ∷ xs) = picked f ms xs

abbrev pub words_seen : code.Instance → Words
words_seen i = words_of (instance_view i)

-- A set of atoms has those that are true at first and what actions add in it, and these actions are asked for.
pub record AreUseful (u : Universe) (as_ : List Action) (is : List Initial)
    (asked : List Words) : Type 0 where
  pub reach : Words → Bool
  pub initial : (w : Words) → is_initially_true (map initial_in is) w ≡ true → reach w ≡ true
  pub within :
      (i : Instance) → In i (instances u as_) → may_be as_ is i.action i.objects ≡ true
      → IsWithin reach (action_of u i).body
  pub useful :
      (i : Instance) → In i (instances u as_) → may_be as_ is i.action i.objects ≡ true
      → is_whole reach (action_of u i).body ≡ true → has_words asked (words_of i) ≡ true
