use Rattle.std.proofs.Common.{◌∙◌, ap}
use Rattle.tp_cli_args.specs.Commands.{timed_app}
use Rattle.std.proofs.lemmas.Result.{IfOk-weaker}
use Rattle.tp_cli_args.proofs.CommandLemmas.{arg_app, arg_local}
use Rattle.tp_cli_args.proofs.commands.solve_start.Goals as goal

pub timed_command-requires : goal.timed_command-requires
timed_command-requires c =
    let one = arg_local _ _ _ c.in_ok-arg.ensures c.file_argument.ensures.local c.plan_start.ensures.local in
    arg_local _ _ _ c.in_ok-files.ensures c.file_argument-2.ensures.local one

pub returns-clause-app : goal.returns-clause-app
returns-clause-app c =
    let one = arg_app _ _ _ _ _ c.in_ok-arg.ensures c.file_argument.ensures.local c.plan_start.ensures.app c.file_argument.ensures.rule in
    let two = arg_app _ _ _ _ _ c.in_ok-files.ensures c.file_argument-2.ensures.local one c.file_argument-2.ensures.rule in
    IfOk-weaker c.timed_command.result _ _ (λ r h. h ∙ ap timed_app two) c.timed_command.ensures.app
