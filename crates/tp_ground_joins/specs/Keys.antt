-- Keys of names and of rows. Nothing is said of how they are made but that the same names have the same key.
use Rattle.std.specs.Prelude.{ℕ, ◌+◌, ◌*◌, ◌^◌, ◌%◌, List, [], ◌∷◌, map, slice_index_or}

abbrev pub mixed : ℕ → ℕ → ℕ
mixed key more = ((key * 6364136223846793005) % 2 ^ 64 + more) % 2 ^ 64

abbrev pub name_key : ℕ → List ℕ → ℕ
name_key key [] = key
name_key key (b ∷ bs) = name_key (mixed key b) bs

-- of names in order
abbrev pub key_of : ℕ → List (List ℕ) → ℕ
key_of key [] = key
key_of key (n ∷ ns) = key_of (mixed key (name_key 0 n)) ns

-- the names at some places of a row
abbrev pub names_at : List ℕ → List (List ℕ) → List (List ℕ)
names_at places row = map (λ i. slice_index_or row i []) places
