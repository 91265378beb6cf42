-- What each use of an action needs to be true at some time, as far as that stands alone, and what effects add.
use Rattle.std.specs.Prelude.{Bool, false, ◌||◌, List, [], ◌∷◌, ◌++◌}
use Rattle.std.specs.List.{list_any}
use Rattle.std.specs.Str.{bytes_eq}
use Rattle.tp_syntax_ast.specs.Symbols.{Name}
use Rattle.tp_syntax_ast.specs.Terms.{Fact}
use Rattle.tp_syntax_ast.specs.Conditions as conditions
use Rattle.tp_syntax_ast.specs.Conditions.{Condition, Conditions}
use Rattle.tp_syntax_ast.specs.Parts.{Joined, Parts, all_parts, for_each, one, no_parts, part}
use Rattle.tp_syntax_ast.specs.Effects as effects
use Rattle.tp_syntax_ast.specs.Effects.{SimpleEffect, Effect, Timed}
use Rattle.tp_syntax_ast.specs.Actions as actions
use Rattle.tp_syntax_ast.specs.Actions.{Action}

-- the atoms that a condition is, or that are joined by 'and' in it
abbrev mutual
  pub conjuncts : Condition → List Fact
  conjuncts (conditions.all_of cs) = all_conjuncts cs
  conjuncts (conditions.any_of cs) = []
  conjuncts (conditions.negation c) = []
  conjuncts (conditions.implies c d) = []
  conjuncts (conditions.for_all vs c) = []
  conjuncts (conditions.for_some vs c) = []
  conjuncts (conditions.fact f) = f ∷ []
  conjuncts (conditions.same a b) = []
  conjuncts (conditions.compared how x y) = []

  pub all_conjuncts : Conditions → List Fact
  all_conjuncts conditions.no_conditions = []
  all_conjuncts (conditions.condition c cs) = conjuncts c ++ all_conjuncts cs

abbrev mutual
  pub timed_conjuncts : Joined (Timed Condition) → List Fact
  timed_conjuncts (all_parts ps) = all_timed_conjuncts ps
  timed_conjuncts (for_each vs p) = []
  timed_conjuncts (one t) = conjuncts t.what

  pub all_timed_conjuncts : Parts (Timed Condition) → List Fact
  all_timed_conjuncts no_parts = []
  all_timed_conjuncts (part p ps) = timed_conjuncts p ++ all_timed_conjuncts ps

-- at its start, all the time or at its end
abbrev pub needed : actions.Body → List Fact
needed (actions.instant c e) = conjuncts c
needed (actions.durative r c e) = timed_conjuncts c

abbrev mutual
  pub some_part : {A : Type 0} → (A → Bool) → Joined A → Bool
  some_part test (all_parts ps) = some_of_parts test ps
  some_part test (for_each vs p) = some_part test p
  some_part test (one a) = test a

  pub some_of_parts : {A : Type 0} → (A → Bool) → Parts A → Bool
  some_of_parts test no_parts = false
  some_of_parts test (part p ps) = some_part test p || some_of_parts test ps

-- an effect adds an atom of a name
abbrev pub adds_name : Name → SimpleEffect → Bool
adds_name n (effects.adds f) = bytes_eq f.name n
adds_name n (effects.deletes f) = false
adds_name n (effects.writes w f x) = false

abbrev pub body_adds : Name → actions.Body → Bool
body_adds n (actions.instant c e) = some_part (adds_name n) e
body_adds n (actions.durative r c e) = some_part (λ t. some_part (adds_name n) t.what) e

-- an effect of one of these actions does
abbrev pub is_added : List Action → Name → Bool
is_added as_ n = list_any (λ a. body_adds n a.body) as_
