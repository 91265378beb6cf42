use Rattle.std.proofs.lemmas.Result.{IfOk-weaker}
use Rattle.tp_cli_args.proofs.CommandLemmas.{arg_app, arg_local}
use Rattle.tp_cli_args.proofs.commands.solve_command.Goals as goal

pub returns-clause-app : goal.returns-clause-app
returns-clause-app c =
    let one = arg_app _ _ _ _ _ c.in_ok-arg.ensures c.solve_budget_option.ensures.local c.in_ok-solve_start.ensures.app c.solve_budget_option.ensures.rule in
    let two = arg_app _ _ _ _ _ c.in_ok-arg-2.ensures c.flag_option.ensures.local one c.flag_option.ensures.rule in
    IfOk-weaker c.arg-3.result _ _ (λ r h. arg_app _ _ r _ _ h c.flag_option-2.ensures.local two c.flag_option-2.ensures.rule) c.arg-3.ensures

pub returns-clause-local : goal.returns-clause-local
returns-clause-local c =
    let one = arg_local _ _ _ c.in_ok-arg.ensures c.solve_budget_option.ensures.local c.in_ok-solve_start.ensures.local in
    let two = arg_local _ _ _ c.in_ok-arg-2.ensures c.flag_option.ensures.local one in
    IfOk-weaker c.arg-3.result _ _ (λ r h. arg_local _ _ r h c.flag_option-2.ensures.local two) c.arg-3.ensures
