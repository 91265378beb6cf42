use Rattle.std.proofs.Common.{sym, subst}
use Rattle.tp_text.specs.Trees.{shape_of}
use Rattle.tp_syntax_ast.specs.Domains.{domain_of}
use Rattle.tp_syntax.specs.Refusals.{IsRefusedDomain}
use Rattle.tp_syntax_ast.specs.declared.fault.SyntaxFault.{SyntaxFault}
use Rattle.tp_syntax.proofs.OnReadings.{refused_tree, nests}
use Rattle.tp_syntax.proofs.domain_reader.read_domain.Goals as goal

pub returns-in-Ok-clause-refused : goal.returns-in-Ok-clause-refused
returns-in-Ok-clause-refused c =
    subst (λ (e : SyntaxFault). IsRefusedDomain c.args.text.now e) (sym c.tree_fault.ensures)
    (refused_tree domain_of c.args.text.now (shape_of c.in-Ok.tree) c.in-Err-domain_of.fault c.in-Ok.ensures.found c.in-Err-domain_of.ensures)

pub returns-in-Ok-domain_of-clause-nested : goal.returns-in-Ok-domain_of-clause-nested
returns-in-Ok-domain_of-clause-nested c = nests c.args.text.now (shape_of c.in-Ok.tree) 64 c.in-Ok.ensures.found c.in-Ok.ensures.nested
