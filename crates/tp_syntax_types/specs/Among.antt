-- Sets of names.
use Rattle.std.specs.Prelude.{◌≡◌, ℕ, List, Bool}
use Rattle.std.specs.Borrow.{Bor}
use Rattle.std.specs.List.{list_any}
use Rattle.std.specs.Str.{bytes_eq}
use Rattle.tp_syntax_types.specs.Tables.{Name}

-- one of the names is this one
abbrev pub has_mark : List (Bor (List ℕ)) → Name → Bool
has_mark ks n = list_any (λ k. bytes_eq n k.now) ks

-- the set has just these names
abbrev pub AreAmong : List Name → List (Bor (List ℕ)) → Type 0
AreAmong ps ks = (n : Name) → has_mark ks n ≡ list_any (bytes_eq n) ps
