use Rattle.std.proofs.Common.{◌∙◌, ap}
use Rattle.tp_cli_args.specs.Commands.{timed_app, with_others}
use Rattle.std.proofs.lemmas.Result.{IfOk-weaker}
use Rattle.tp_cli_args.proofs.CommandLemmas.{arg_app}
use Rattle.tp_cli_args.proofs.commands.audit_command.Goals as goal

pub returns-clause-app : goal.returns-clause-app
returns-clause-app c =
    let log = arg_app _ _ _ _ _ c.in_ok-start.ensures c.file_argument.ensures.local c.audit_start.ensures.app c.file_argument.ensures.rule in
    let files = c.in_ok-audit_files.ensures.app ∙ ap with_others log in
    IfOk-weaker c.timed_command.result _ _ (λ r h. h ∙ ap timed_app files) c.timed_command.ensures.app
