-- Rows of items that share their types, and of types that share their parent.
use Rattle.std.specs.Prelude.{◌≡◌, List, [], map, length, Bool}
use Rattle.tp_syntax_ast.specs.Symbols.{Declared, Parent}
use Rattle.tp_syntax_ast.specs.Domains.{object}
use Rattle.tp_syntax_ast.specs.Rows.{AreRows}

-- an item that is marked has the types of the one before it
abbrev pub AreTypeRows : List Bool → List Declared → Type 0
AreTypeRows ms ds = AreRows ms [] (map (λ d. d.types) ds)

-- each of them marked or not
abbrev pub HaveRows : List Bool → List Declared → Type 0
HaveRows ms ds = (length ms ≡ length ds) × AreTypeRows ms ds

-- a type that is marked has the parent of the one before it
abbrev pub AreParentRows : List Bool → List Parent → Type 0
AreParentRows ms ps = AreRows ms object (map (λ p. p.parent) ps)

-- each of them marked or not
abbrev pub HaveParentRows : List Bool → List Parent → Type 0
HaveParentRows ms ps = (length ms ≡ length ps) × AreParentRows ms ps
