use Rattle.tp_cli_args.proofs.RefusalLemmas.{if_none, until_none}
use Rattle.tp_cli_args.proofs.arguments.until.Goals as goal

pub returns-in_err-horizon-in-Some-clause-refused : goal.returns-in_err-horizon-in-Some-clause-refused
returns-in_err-horizon-in-Some-clause-refused c =
    if_none c.from_residual.result _ (until_none _ _ _ c.in-Some.ensures c.in_err-horizon-in-Some.ensures.refused)
