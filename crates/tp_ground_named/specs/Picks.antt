-- Rows of names that are asked for.
use Rattle.std.specs.Prelude.{ℕ, List, [], ◌∷◌, map, filter_map, if◌then◌else◌, Option, Some, None}
use Rattle.std.specs.Borrow.{Bor}
use Rattle.std.specs.Str.{bytes_eq}
use Rattle.tp_syntax_ast.specs.Symbols.{Name}
use Rattle.tp_task.specs.Words.{Words}

-- what follows a name in words that begin with it
abbrev pub tail_after : Name → Words → Option Words
tail_after n [] = None
tail_after n (v ∷ w) = if bytes_eq n v then Some w else None

-- of all that begin with it
abbrev pub tails : Name → List Words → List Words
tails n ws = filter_map (tail_after n) ws

abbrev pub row_words : Bor (List (Bor (List ℕ))) → Words
row_words r = map (λ w. w.now) r.now
