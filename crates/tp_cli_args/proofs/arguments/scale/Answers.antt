use Rattle.tp_text.specs.Scales.{scale_ticks}
use Rattle.tp_cli_args.proofs.RefusalLemmas.{if_none, small_scale}
use Rattle.tp_cli_args.proofs.arguments.scale.Goals as goal

pub returns-in_err-number-clause-refused : goal.returns-in_err-number-clause-refused
returns-in_err-number-clause-refused c =
    if_none c.from_residual.result _ (λ s spelled. c.in_err-number.ensures.refused (scale_ticks s) (small_scale s) spelled)
