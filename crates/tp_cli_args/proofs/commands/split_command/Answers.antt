use Rattle.std.proofs.Common.{◌∙◌, ap}
use Rattle.tp_cli_args.specs.Commands.{plan_app}
use Rattle.std.proofs.lemmas.Result.{IfOk-weaker}
use Rattle.tp_cli_args.proofs.CommandLemmas.{arg_app, arg_local}
use Rattle.tp_cli_args.proofs.commands.split_command.Goals as goal

pub returns-clause-app : goal.returns-clause-app
returns-clause-app c =
    let plan = c.in_ok-plan_command.ensures.app ∙ ap plan_app c.plan_start.ensures.app in
    let owners = arg_app _ _ _ _ _ c.in_ok-arg.ensures c.file_argument.ensures.local plan c.file_argument.ensures.rule in
    IfOk-weaker c.arg-2.result _ _ (λ r h. arg_app _ _ r _ _ h c.part_option.ensures.local owners c.part_option.ensures.rule) c.arg-2.ensures

pub returns-clause-local : goal.returns-clause-local
returns-clause-local c =
    let owners = arg_local _ _ _ c.in_ok-arg.ensures c.file_argument.ensures.local c.in_ok-plan_command.ensures.local in
    IfOk-weaker c.arg-2.result _ _ (λ r h. arg_local _ _ r h c.part_option.ensures.local owners) c.arg-2.ensures
