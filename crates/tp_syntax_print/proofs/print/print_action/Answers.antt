use Rattle.std.proofs.Common.{string_bytes}
use Rattle.tp_text.specs.Texts.{more_text}
use Rattle.tp_syntax_ast.specs.DomainViews.{body_view, action_view}
use Rattle.tp_syntax_print.specs.Printing.{body_word, field_shapes}
use Rattle.tp_syntax_print.proofs.OnPrinters.{prints_more, prints_as}
use Rattle.tp_syntax_print.proofs.OnPrinting.{action_text}
use Rattle.tp_syntax_print.proofs.print.print_action.Goals as goal

pub returns : goal.returns
returns g c =
    prints_as
    (prints_more (rw c.action_word.ensures at c.put.ensures) (prints_more (rw c.as_bytes.ensures.value at c.put-2.ensures) (prints_more c.print_fields.ensures c.put-3.ensures)))
    (action_text (body_word (body_view c.args.action.now.body)) (string_bytes c.args.action.now.name) (more_text (field_shapes (action_view c.args.action.now))))
