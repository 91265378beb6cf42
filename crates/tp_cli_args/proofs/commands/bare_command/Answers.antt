use Rattle.std.proofs.Common.{◌∙◌, ap}
use Rattle.tp_cli_args.specs.Commands.{journal_app}
use Rattle.std.proofs.lemmas.Result.{IfOk-weaker}
use Rattle.tp_cli_args.proofs.CommandLemmas.{arg_app, arg_local}
use Rattle.tp_cli_args.proofs.commands.bare_command.Goals as goal

pub returns-clause-app : goal.returns-clause-app
returns-clause-app c =
    let one = c.in_ok-journal_options.ensures.app ∙ ap journal_app c.bare_start.ensures.app in
    IfOk-weaker c.arg.result _ _ (λ r h. arg_app _ _ r _ _ h c.explain_option.ensures.local one c.explain_option.ensures.rule) c.arg.ensures

pub returns-clause-local : goal.returns-clause-local
returns-clause-local c =
    IfOk-weaker c.arg.result _ _ (λ r h. arg_local _ _ r h c.explain_option.ensures.local c.in_ok-journal_options.ensures.local) c.arg.ensures
