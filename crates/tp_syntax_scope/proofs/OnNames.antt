use Rattle.std.proofs.Common.{refl}
use Rattle.tp_text.specs.Trees.{shape_of}
use Rattle.tp_text.specs.declared.tree.Tree.{Tree}
use Rattle.tp_syntax_ast.specs.Terms.{shapes}
use Rattle.tp_syntax_ast.specs.Domains.{requirement_at, requirements_in}
use Rattle.tp_syntax_ast.proofs.Loops.{IsEach}
use Rattle.tp_syntax_ast.specs.TypedLists.{name_at, names_of}

pub each_name : IsEach (λ (t : Tree). name_at (shape_of t)) (λ ts. names_of (shapes ts))
unfolding names_of
each_name = record { none = refl; more = λ x xs. refl }

pub each_requirement : IsEach (λ (t : Tree). requirement_at (shape_of t)) (λ ts. requirements_in (shapes ts))
unfolding requirements_in
each_requirement = record { none = refl; more = λ x xs. refl }
