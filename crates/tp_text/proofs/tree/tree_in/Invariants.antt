use Rattle.std.proofs.Common.{◌≡◌, ◌+◌, drop, length}
use Rattle.tp_text.specs.Trees.{built, IsDeep, IsOneTree, IsReadTo}
use Rattle.tp_text.proofs.tree.tree_in.Given as goal

abbrev pub invariant-lexemes : goal.invariant-lexemes
invariant-lexemes l = record {
  place : l.at + length l.rest ≡ length l.fn.text;
  there : l.rest ≡ drop l.at l.fn.text;
  so_far : IsReadTo l.fn.text (built l.builder) l.at l.rest;
  shallow : ¬ (IsDeep (built l.builder));
  one : IsOneTree l.builder.outer.items l.builder.items.items;
}

abbrev pub decreases-lexemes : goal.decreases-lexemes
decreases-lexemes l = length l.rest
