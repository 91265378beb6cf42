use Rattle.std.proofs.Common.{refl}
use Rattle.std.proofs.lemmas.Result.{IfOk-weaker}
use Rattle.tp_cli_args.proofs.CommandLemmas.{arg_app, arg_local}
use Rattle.tp_cli_args.proofs.commands.journal_options.Goals as goal

pub returns-clause-app : goal.returns-clause-app
returns-clause-app c =
    let one = arg_app _ _ _ _ _ c.in_ok-arg.ensures c.journal_option.ensures.local refl c.journal_option.ensures.rule in
    IfOk-weaker c.arg-2.result _ _ (λ r h. arg_app _ _ r _ _ h c.resume_option.ensures.local one c.resume_option.ensures.rule) c.arg-2.ensures

pub returns-clause-local : goal.returns-clause-local
returns-clause-local c =
    let one = arg_local _ _ _ c.in_ok-arg.ensures c.journal_option.ensures.local c.requires in
    IfOk-weaker c.arg-2.result _ _ (λ r h. arg_local _ _ r h c.resume_option.ensures.local one) c.arg-2.ensures
