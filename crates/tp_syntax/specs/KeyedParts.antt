-- Items by their kinds, as they are read: the sections of a domain and of a problem, an action's fields.
use Rattle.std.specs.Prelude.{ℕ, List, [], ◌∷◌, Bool, true, not, ◌&&◌, ◌||◌, ◌==◌, if◌then◌else◌, Option, Some, None, option_map}
use Rattle.std.specs.Option.{is_some}
use Rattle.std.specs.Borrow.{Bor}
use Rattle.tp_text.specs.Shapes.{Shape, leaf, node, Shapes, no_shapes, shape}
use Rattle.tp_text.specs.declared.tree.Tree.{Tree}
use Rattle.tp_syntax_ast.specs.Gives.{◌>>=◌, provided}
use Rattle.tp_syntax_ast.specs.Terms.{shapes}
use Rattle.tp_syntax.specs.declared.keyed.Keyed.{Keyed}

abbrev pub with_kind : {K B : Type 0} → Keyed K B → K × B
with_kind p = (p.kind, p.body)

-- a section
abbrev pub SectionItem : Type 0 → Type 0
SectionItem K = Keyed K (Bor (List Tree))

-- a section's kind, and what stands behind its word
abbrev pub part_seen : {K : Type 0} → SectionItem K → K × Shapes
part_seen p = (p.kind, shapes p.body.now)

-- a list that begins with the word of a kind
unfoldable pub part_of : {K : Type 0} → (List ℕ → Option K) → Shape → Option (K × Shapes)
part_of kind_of (leaf w) = None
part_of kind_of (node no_shapes) = None
part_of kind_of (node (shape (node ss) body)) = None
part_of kind_of (node (shape (leaf w) body)) = option_map (λ k. (k, body)) (kind_of w)

unfoldable pub parts_of : {K : Type 0} → (List ℕ → Option K) → Shapes → Option (List (K × Shapes))
parts_of kind_of no_shapes = Some []
parts_of kind_of (shape s ss) =
    part_of kind_of s >>= λ p. option_map (λ ps. p ∷ ps) (parts_of kind_of ss)

-- what stands in the first item of a kind
abbrev pub first : {K B : Type 0} → (K → ℕ) → K → List (K × B) → Option B
first number k [] = None
first number k (p ∷ ps) = if number p.0 == number k then Some p.1 else first number k ps

-- no two of a kind, unless it may repeat
abbrev pub each_once : {K B : Type 0} → (K → ℕ) → (K → Bool) → List (K × B) → Bool
each_once number may_repeat [] = true
each_once number may_repeat (p ∷ ps) =
    (may_repeat p.0 || not (is_some (first number p.0 ps))) && each_once number may_repeat ps

abbrev pub once_each : {K : Type 0} → (List ℕ → Option K) → (K → ℕ) → (K → Bool) → Shapes
    → Option (List (K × Shapes))
once_each kind_of number may_repeat ss =
    parts_of kind_of ss >>= λ ps. provided (each_once number may_repeat ps) ps

-- what stands behind the word, nothing if the section is missing
abbrev pub or_nothing : Option Shapes → Shapes
or_nothing None = no_shapes
or_nothing (Some ss) = ss
