-- Rows of names by their first names.
use Rattle.std.specs.Prelude.{ℕ, List, [], map, Option, Some, None}
use Rattle.std.specs.Borrow.{Bor}
use Rattle.std.specs.BTreeMap.{BTreeMap, get_by}
use Rattle.std.specs.Cmp.Lexicographic.{slice_cmp}
use Rattle.std.specs.Ordering.{nat_cmp}
use Rattle.std.proofs.Common.{Vec, Global}
use Rattle.tp_syntax_ast.specs.Symbols.{Name}
use Rattle.tp_task.specs.Words.{Words}
use Rattle.tp_ground_named.specs.Picks.{row_words}

-- what follows first names
abbrev pub Tails : Type 0
Tails = Vec (Bor (List (Bor (List ℕ)))) Global

abbrev pub tail_words : Option Tails → List Words
tail_words None = []
tail_words (Some v) = map row_words v.items

-- what follows a name in the rows that begin with it
abbrev pub behind : BTreeMap (Bor (List ℕ)) Tails → Name → List Words
behind groups n = tail_words (get_by (λ k. slice_cmp nat_cmp n k.now) groups)
