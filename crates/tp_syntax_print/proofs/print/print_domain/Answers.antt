use Rattle.std.proofs.Common.{arith}
use Rattle.std.proofs.lemmas.Grind.{common_steps}
use Rattle.tp_syntax_ast.specs.DomainViews.{domain_view}
use Rattle.tp_syntax_print.proofs.OnPrinters.{whole}
use Rattle.tp_syntax_print.proofs.OnPrintingTexts.{spelled_again}
use Rattle.tp_syntax_print.proofs.print.print_domain.Goals as goal

pub returns-clause-spells : goal.returns-clause-spells
returns-clause-spells g c = spelled_again (domain_view c.args.domain.now)

pub returns-clause-bytes : goal.returns-clause-bytes
returns-clause-bytes g c =
    whole _ _ _ _ _ _ c.new-out.ensures.held c.new-out.ensures.fresh c.outcome.ensures c.print_lines.ensures (grind (arith, common_steps))
