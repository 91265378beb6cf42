use Rattle.std.proofs.Common.{refl}
use Rattle.std.proofs.lemmas.Result.{IfOk-weaker}
use Rattle.tp_cli_args.proofs.CommandLemmas.{arg_app, arg_local}
use Rattle.tp_cli_args.proofs.commands.timed_command.Goals as goal

pub returns-clause-app : goal.returns-clause-app
returns-clause-app c =
    let one = arg_app _ _ _ _ _ c.in_ok-arg.ensures c.scale_option.ensures.local refl c.scale_option.ensures.rule in
    let two = arg_app _ _ _ _ _ c.in_ok-arg-2.ensures c.horizon_option.ensures.local one c.horizon_option.ensures.rule in
    IfOk-weaker c.arg-3.result _ _ (λ r h. arg_app _ _ r _ _ h c.explain_option.ensures.local two c.explain_option.ensures.rule) c.arg-3.ensures

pub returns-clause-local : goal.returns-clause-local
returns-clause-local c =
    let one = arg_local _ _ _ c.in_ok-arg.ensures c.scale_option.ensures.local c.requires in
    let two = arg_local _ _ _ c.in_ok-arg-2.ensures c.horizon_option.ensures.local one in
    IfOk-weaker c.arg-3.result _ _ (λ r h. arg_local _ _ r h c.explain_option.ensures.local two) c.arg-3.ensures
