use Rattle.std.proofs.Common.{sym, subst}
use Rattle.tp_text.specs.Trees.{shape_of}
use Rattle.tp_syntax_ast.specs.DomainViews.{domain_view}
use Rattle.tp_syntax_ast.specs.Problems.{problem_of, IsRefusedProblem}
use Rattle.tp_syntax_ast.specs.declared.fault.SyntaxFault.{SyntaxFault}
use Rattle.tp_syntax.proofs.OnReadings.{refused_tree, nests}
use Rattle.tp_syntax.proofs.problem.read_problem.Goals as goal

pub returns-in-Ok-clause-refused : goal.returns-in-Ok-clause-refused
returns-in-Ok-clause-refused c =
    let d = domain_view c.args.domain.now in
    subst (λ (e : SyntaxFault). IsRefusedProblem d c.args.text.now e) (sym c.tree_fault.ensures)
    (refused_tree (problem_of d) c.args.text.now (shape_of c.in-Ok.tree) c.in-Err-problem_of.fault c.in-Ok.ensures.found c.in-Err-problem_of.ensures)

pub returns-in-Ok-problem_of-clause-nested : goal.returns-in-Ok-problem_of-clause-nested
returns-in-Ok-problem_of-clause-nested c = nests c.args.text.now (shape_of c.in-Ok.tree) 64 c.in-Ok.ensures.found c.in-Ok.ensures.nested
