use Rattle.std.proofs.Common.{◌∙◌, ap}
use Rattle.tp_cli_args.specs.Commands.{journal_app, plan_app}
use Rattle.std.proofs.lemmas.Result.{IfOk-weaker}
use Rattle.tp_cli_args.proofs.commands.run_command.Goals as goal

pub returns-clause-app : goal.returns-clause-app
returns-clause-app c =
    let plan = c.in_ok-run.ensures.app ∙ ap plan_app c.plan_start.ensures.app in
    IfOk-weaker c.journal_options.result _ _ (λ r h. h ∙ ap journal_app plan) c.journal_options.ensures.app
