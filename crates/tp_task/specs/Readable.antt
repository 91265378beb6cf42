-- Ground actions that are told by their words: names in lower case, by which each is found again.
use Rattle.std.specs.Prelude.{◌≡◌, ℕ, ◌<◌, Bool, true, false, List, [], ◌∷◌, length, Some}
use Rattle.std.specs.List.{AllByRecursion, list_all, position_from}
use Rattle.tp_syntax_ast.specs.Words.{IsLower}
use Rattle.tp_syntax_ast.specs.Terms.{is_name}
use Rattle.tp_task.specs.Words.{Words, same_words}
use Rattle.tp_task.specs.Tables.{words_at}

-- one name or more
abbrev pub are_names : Words → Bool
are_names [] = false
are_names (w ∷ ws) = list_all is_name (w ∷ ws)

-- The words of each action are names in lower case, and the first action of these words is this one.
pub record AreReadable (actions : List Words) : Type 0 where
  pub names : (i : ℕ) → i < length actions → are_names (words_at actions i) ≡ true
  pub lower : (i : ℕ) → i < length actions → AllByRecursion IsLower (words_at actions i)
  pub found :
      (i : ℕ)
      → i < length actions → position_from (same_words (words_at actions i)) 0 actions ≡ Some i
