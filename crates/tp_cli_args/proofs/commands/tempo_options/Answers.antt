use Rattle.std.proofs.lemmas.Result.{IfOk-weaker}
use Rattle.tp_cli_args.proofs.CommandLemmas.{arg_app}
use Rattle.tp_cli_args.proofs.commands.tempo_options.Goals as goal

pub returns : goal.returns
returns c =
    IfOk-weaker c.arg.result _ _ (λ r h. arg_app _ _ r _ _ h c.explain_option.ensures.local c.in_ok-tempo_start.ensures c.explain_option.ensures.rule) c.arg.ensures
