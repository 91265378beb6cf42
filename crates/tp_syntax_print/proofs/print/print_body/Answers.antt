use Rattle.tp_syntax_print.proofs.OnPrinters.{prints_more, prints_as}
use Rattle.tp_syntax_print.proofs.OnPrinting.{instant_text, durative_text}
use Rattle.tp_syntax_print.proofs.print.print_body.Goals as goal

pub returns-in-Instant : goal.returns-in-Instant
returns-in-Instant g c =
    prints_as (prints_more c.put.ensures (prints_more c.print_cond.ensures (prints_more c.put-in-Instant.ensures c.print_joined.ensures))) (instant_text c.args.body.now c.in-Instant.precondition c.in-Instant.effect c.in-Instant.is)

pub returns-in-Durative : goal.returns-in-Durative
returns-in-Durative g c =
    prints_as (prints_more c.put-in-Durative.ensures (prints_more c.print_constraint.ensures c.print_timed.ensures)) (durative_text c.args.body.now c.in-Durative.duration c.in-Durative.condition c.in-Durative.effect c.in-Durative.is)
