use Rattle.std.proofs.Common.{refl}
use Rattle.tp_text.specs.Trees.{shape_of}
use Rattle.tp_text.specs.declared.tree.Tree.{Tree}
use Rattle.tp_syntax_ast.specs.Terms.{term_at, terms_of, shapes}
use Rattle.tp_syntax_ast.proofs.Loops.{IsEach}

pub each_term : IsEach (λ (t : Tree). term_at (shape_of t)) (λ ts. terms_of (shapes ts))
unfolding terms_of
each_term = record { none = refl; more = λ x xs. refl }
