use Rattle.tp_syntax_ast.specs.DomainViews.{domain_view}
use Rattle.tp_syntax_print.proofs.OnPrinters.{prints_more, prints_as}
use Rattle.tp_syntax_print.proofs.OnPrinting.{whole_text}
use Rattle.tp_syntax_print.proofs.print.print_lines.Goals as goal

pub returns : goal.returns
returns g c =
    prints_as (prints_more c.print_name.ensures (prints_more c.print_declarations.ensures (prints_more (rw c.deref.ensures.value at c.print_actions.ensures) c.put.ensures)))
    (whole_text (domain_view c.args.domain.now))
