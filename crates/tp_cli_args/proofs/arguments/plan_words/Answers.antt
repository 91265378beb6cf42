use Rattle.std.proofs.Common.{arith}
use Rattle.tp_cli_args.proofs.RefusalLemmas.{if_none}
use Rattle.tp_cli_args.proofs.arguments.plan_words.Goals as goal

pub returns-in_err-horizon-clause-refused : goal.returns-in_err-horizon-clause-refused
returns-in_err-horizon-clause-refused c =
    if_none c.from_residual-in_err-horizon.result _ (λ w h. absurd (c.in_err-horizon.ensures.refused w.horizon (omega (arith, h.within)) h.horizon))
