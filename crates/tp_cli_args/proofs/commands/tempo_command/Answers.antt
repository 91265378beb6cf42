use Rattle.std.proofs.lemmas.Result.{IfOk-weaker}
use Rattle.tp_cli_args.proofs.CommandLemmas.{command_app}
use Rattle.tp_cli_args.proofs.commands.tempo_command.Goals as goal

pub returns : goal.returns
returns c =
    IfOk-weaker c.subcommand.result _ _ (λ r h. command_app _ _ r _ _ h c.in_ok-draw.ensures.local c.in_ok-splitting_command.ensures c.in_ok-draw.ensures.app) c.subcommand.ensures
