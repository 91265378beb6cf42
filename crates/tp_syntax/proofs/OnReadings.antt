-- What the refusal of a text's tree says of the text.
use Rattle.std.proofs.Common.{◌≡◌, ℕ, ◌≤◌, List, Option, Some, None, sym, ap, ◌∙◌, subst}
use Rattle.tp_text.specs.Shapes.{Shape, Spells, nesting}
use Rattle.tp_text.proofs.OnTrees.{spells_one_tree}
use Rattle.tp_syntax_ast.specs.Gives.{Fails}
use Rattle.tp_syntax.specs.Limits.{NestsUpTo}
use Rattle.tp_syntax_ast.specs.Readings.{SpellsNone, IsRefusedAs, of_tree}
use Rattle.tp_syntax_ast.specs.declared.fault.SyntaxFault.{SyntaxFault}
use Rattle.tp_syntax_ast.specs.declared.fault.SyntaxFault.TheVariants as faults

module _ {Y : Type 0} (meaning : Shape → Option Y) (text : List ℕ) where
  no_meaning : (s : Shape) → Spells text s → meaning s ≡ None → SpellsNone meaning text
  no_meaning s is none u y other some =
      let same = spells_one_tree text s u is other in
      let clash : Some y ≡ None = sym some ∙ ap meaning (sym same) ∙ none in
      cc

  pub refused_tree : (s : Shape) (e : SyntaxFault) → Spells text s → Fails e (meaning s) → IsRefusedAs meaning text (of_tree e)
  refused_tree s faults.Memory is h = tt
  refused_tree s (faults.Text f) is h = no_meaning s is h
  refused_tree s (faults.Shape at) is h = no_meaning s is h
  refused_tree s (faults.Unknown at) is h = no_meaning s is h
  refused_tree s (faults.Twice at) is h = no_meaning s is h
  refused_tree s (faults.Types at) is h = no_meaning s is h
  refused_tree s (faults.LeftOut at part) is h = no_meaning s is h

-- a text spells one tree
pub nests : (text : List ℕ) (s : Shape) (most : ℕ) → Spells text s → nesting s ≤ most → NestsUpTo text most
nests text s most is le u other = subst (λ (v : Shape). nesting v ≤ most) (spells_one_tree text s u is other) le
