-- What a refusal says of a text.
use Rattle.std.specs.Prelude.{◌≡◌, ℕ, List, Option, Some}
use Rattle.tp_text.specs.Shapes.{Shape, Spells}
use Rattle.tp_text.specs.Trees.{IsRefused}
use Rattle.tp_text.specs.declared.fault.TextFault.{TextFault}
use Rattle.tp_text.specs.declared.fault.TextFault.TheVariants as text_faults
use Rattle.tp_syntax_ast.specs.declared.fault.SyntaxFault.{SyntaxFault}
use Rattle.tp_syntax_ast.specs.declared.fault.SyntaxFault.TheVariants as faults

-- no tree that the text spells means anything
abbrev pub SpellsNone : {Y : Type 0} → (Shape → Option Y) → List ℕ → Type 0
SpellsNone {Y} meaning text = (s : Shape) (y : Y) → Spells text s → meaning s ≡ Some y → ⊥

-- a text that is no tree; out of memory is a fault of its own
abbrev pub IsNoText : List ℕ → TextFault → Type 0
IsNoText text text_faults.Memory = ⊥
IsNoText text f = IsRefused text f

-- Out of memory says nothing. Other faults than those of texts come only where no meaning is spelled.
abbrev pub IsRefusedAs : {Y : Type 0} → (Shape → Option Y) → List ℕ → SyntaxFault → Type 0
IsRefusedAs meaning text faults.Memory = Unit {0}
IsRefusedAs meaning text (faults.Text f) = IsNoText text f
IsRefusedAs meaning text _ = SpellsNone meaning text

-- the fault of a domain or problem whose text is no tree
abbrev pub of_text : TextFault → SyntaxFault
of_text text_faults.Memory = faults.Memory
of_text f = faults.Text f

-- the fault of a reader of trees, which knows none of texts
abbrev pub of_tree : SyntaxFault → SyntaxFault
of_tree (faults.Text f) = faults.Shape 0
of_tree e = e
