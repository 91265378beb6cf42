use Rattle.tp_syntax_ast.specs.EffectViews.{timed_condition_view, timed_effect_view}
use Rattle.tp_syntax_print.specs.Printing.{condition_shape, effect_shape, joined_shape, timed_shape}
use Rattle.tp_syntax_print.proofs.OnPrinters.{prints_more, prints_as}
use Rattle.tp_syntax_print.proofs.OnPrinting.{moments_text}
use Rattle.tp_syntax_print.proofs.print.print_timed.Goals as goal

pub returns : goal.returns
returns g c =
    prints_as (prints_more c.put.ensures (prints_more c.print_joined.ensures (prints_more c.put-2.ensures c.print_joined-2.ensures))) (moments_text (joined_shape (timed_shape condition_shape) (timed_condition_view c.args.condition.now)) (joined_shape (timed_shape effect_shape) (timed_effect_view c.args.effect.now)))
