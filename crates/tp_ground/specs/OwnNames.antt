-- Names as the grammar has them, and each given once.
use Rattle.std.specs.Prelude.{◌≡◌, ℕ, List, ◌++◌, map, true, false}
use Rattle.std.specs.List.{AllByRecursion}
use Rattle.tp_syntax_ast.specs.Words.{IsLower}
use Rattle.tp_syntax_ast.specs.Terms.{is_name}
use Rattle.tp_syntax_ast.specs.TypedLists.{has_twice}
use Rattle.tp_syntax_ast.specs.Domains.{Domain}
use Rattle.tp_syntax_ast.specs.Problems.{Problem}

-- a name in lower case
pub record IsOwnName (n : List ℕ) : Type 0 where
  pub signature : is_name n ≡ true
  pub lower : IsLower n

-- The actions' names and the objects' are names in lower case. No two actions have the same name, and no two objects.
pub record HasOwnNames (d : Domain) (p : Problem) : Type 0 where
  pub actions : AllByRecursion IsOwnName (map (λ a. a.name) d.actions)
  pub actions_once : has_twice (map (λ a. a.name) d.actions) ≡ false
  pub objects : AllByRecursion IsOwnName (map (λ o. o.name) (d.constants ++ p.objects))
  pub objects_once : has_twice (map (λ o. o.name) (d.constants ++ p.objects)) ≡ false
