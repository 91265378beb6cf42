use Rattle.std.proofs.lemmas.Result.{IfOk-weaker}
use Rattle.tp_cli_args.proofs.CommandLemmas.{command_app}
use Rattle.tp_cli_args.proofs.commands.splitting_command.Goals as goal

pub returns : goal.returns
returns c =
    IfOk-weaker c.subcommand.result _ _ (λ r h. command_app _ _ r _ _ h c.in_ok-split.ensures.local c.in_ok-auditing_command.ensures c.in_ok-split.ensures.app) c.subcommand.ensures
