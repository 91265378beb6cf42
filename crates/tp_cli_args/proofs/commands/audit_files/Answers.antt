use Rattle.std.proofs.Common.{refl}
use Rattle.std.proofs.lemmas.Result.{IfOk-weaker}
use Rattle.tp_cli_args.proofs.CommandLemmas.{arg_app, arg_local}
use Rattle.tp_cli_args.proofs.commands.audit_files.Goals as goal

pub returns-clause-app : goal.returns-clause-app
returns-clause-app c =
    let one = arg_app _ _ _ _ _ c.in_ok-arg.ensures c.other_argument.ensures.local refl c.other_argument.ensures.rule in
    let two = arg_app _ _ _ _ _ c.in_ok-arg-2.ensures c.other_argument-2.ensures.local one c.other_argument-2.ensures.rule in
    IfOk-weaker c.arg-3.result _ _ (λ r h. arg_app _ _ r _ _ h c.other_argument-3.ensures.local two c.other_argument-3.ensures.rule) c.arg-3.ensures

pub returns-clause-local : goal.returns-clause-local
returns-clause-local c =
    let one = arg_local _ _ _ c.in_ok-arg.ensures c.other_argument.ensures.local c.requires in
    let two = arg_local _ _ _ c.in_ok-arg-2.ensures c.other_argument-2.ensures.local one in
    IfOk-weaker c.arg-3.result _ _ (λ r h. arg_local _ _ r h c.other_argument-3.ensures.local two) c.arg-3.ensures
