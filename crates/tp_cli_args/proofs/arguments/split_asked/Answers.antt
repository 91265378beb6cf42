use Rattle.std.proofs.Common.{arith}
use Rattle.tp_cli_args.proofs.RefusalLemmas.{if_none, some_none}
use Rattle.tp_cli_args.proofs.arguments.split_asked.Goals as goal

pub returns-in_err-agent-in-Some-clause-refused : goal.returns-in_err-agent-in-Some-clause-refused
returns-in_err-agent-in-Some-clause-refused c =
    if_none c.from_residual-in_err-agent-in-Some.result _ (
      (λ w owners is given missing own. some_none _ _ c.in-Some.ensures missing),
      (λ w owners agent is given spelled small own. c.in_err-agent-in-Some.ensures.refused agent (omega (arith, small)) spelled),
    )
