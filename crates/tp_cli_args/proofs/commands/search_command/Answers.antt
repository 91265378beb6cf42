use Rattle.std.proofs.Common.{◌∙◌, ap}
use Rattle.tp_cli_args.specs.Commands.{timed_app}
use Rattle.std.proofs.lemmas.Result.{IfOk-weaker}
use Rattle.tp_cli_args.proofs.CommandLemmas.{arg_app, arg_local}
use Rattle.tp_cli_args.proofs.commands.search_command.Goals as goal

pub timed_command-requires : goal.timed_command-requires
timed_command-requires c =
    let one = arg_local _ _ _ c.in_ok-arg.ensures c.file_argument.ensures.local c.plan_start.ensures.local in
    arg_local _ _ _ c.in_ok-files.ensures c.file_argument-2.ensures.local one

pub returns-clause-app : goal.returns-clause-app
returns-clause-app c =
    let one = arg_app _ _ _ _ _ c.in_ok-arg.ensures c.file_argument.ensures.local c.plan_start.ensures.app c.file_argument.ensures.rule in
    let two = arg_app _ _ _ _ _ c.in_ok-files.ensures c.file_argument-2.ensures.local one c.file_argument-2.ensures.rule in
    let timed = c.in_ok-timed_command.ensures.app ∙ ap timed_app two in
    let budget = arg_app _ _ _ _ _ c.in_ok-arg-2.ensures c.budget_option.ensures.local timed c.budget_option.ensures.rule in
    IfOk-weaker c.arg-4.result _ _ (λ r h. arg_app _ _ r _ _ h c.flag_option.ensures.local budget c.flag_option.ensures.rule) c.arg-4.ensures

pub returns-clause-local : goal.returns-clause-local
returns-clause-local c =
    let budget = arg_local _ _ _ c.in_ok-arg-2.ensures c.budget_option.ensures.local c.in_ok-timed_command.ensures.local in
    IfOk-weaker c.arg-4.result _ _ (λ r h. arg_local _ _ r h c.flag_option.ensures.local budget) c.arg-4.ensures
