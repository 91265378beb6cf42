use Rattle.std.proofs.lemmas.Result.{IfOk-weaker}
use Rattle.tp_cli_args.proofs.CommandLemmas.{command_app}
use Rattle.tp_cli_args.proofs.commands.judging_command.Goals as goal

pub returns : goal.returns
returns c =
    let one = command_app _ _ _ _ _ c.in_ok-subcommand.ensures c.in_ok-bare.ensures.local c.in_ok-tempo_options.ensures c.in_ok-bare.ensures.app in
    IfOk-weaker c.subcommand-2.result _ _ (λ r h. command_app _ _ r _ _ h c.in_ok-check.ensures.local one c.in_ok-check.ensures.app) c.subcommand-2.ensures
