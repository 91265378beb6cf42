use Rattle.std.proofs.Common.{◌∙◌, ap}
use Rattle.tp_cli_args.specs.Commands.{drawing_app}
use Rattle.std.proofs.lemmas.Result.{IfOk-weaker}
use Rattle.tp_cli_args.proofs.CommandLemmas.{arg_app, arg_local}
use Rattle.tp_cli_args.proofs.commands.draw_command.Goals as goal

pub draw_options-requires : goal.draw_options-requires
draw_options-requires c =
    let one = arg_local _ _ _ c.in_ok-arg.ensures c.file_argument.ensures.local c.plan_start.ensures.local in
    let two = arg_local _ _ _ c.in_ok-arg-2.ensures c.file_argument-2.ensures.local one in
    arg_local _ _ _ c.in_ok-files.ensures c.file_argument-3.ensures.local two

pub returns-clause-app : goal.returns-clause-app
returns-clause-app c =
    let one = arg_app _ _ _ _ _ c.in_ok-arg.ensures c.file_argument.ensures.local c.plan_start.ensures.app c.file_argument.ensures.rule in
    let two = arg_app _ _ _ _ _ c.in_ok-arg-2.ensures c.file_argument-2.ensures.local one c.file_argument-2.ensures.rule in
    let three = arg_app _ _ _ _ _ c.in_ok-files.ensures c.file_argument-3.ensures.local two c.file_argument-3.ensures.rule in
    IfOk-weaker c.draw_options.result _ _ (λ r h. h ∙ ap drawing_app three) c.draw_options.ensures.app
