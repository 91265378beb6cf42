-- Names, each once, in the order in which they came.
use Rattle.std.specs.Prelude.{ℕ, List, [], ◌∷◌, ◌++◌, Bool, if◌then◌else◌}
use Rattle.std.specs.Borrow.{Bor}
use Rattle.std.specs.List.{list_any}
use Rattle.std.specs.Str.{bytes_eq}

abbrev pub same_text : Bor (List ℕ) → Bor (List ℕ) → Bool
same_text x y = bytes_eq x.now y.now

-- one more goes last, unless it is there
abbrev pub insert_key : {T : Type 0} → (T → T → Bool) → List T → T → List T
insert_key eq ks k = if list_any (eq k) ks then ks else ks ++ k ∷ []
