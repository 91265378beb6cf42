use Rattle.std.proofs.Common.{inl, inr, sym}
use Rattle.std.proofs.lemmas.Result.{IfOk-weaker}
use Rattle.tp_cli_args.proofs.arguments.without_matches.Goals as goal

pub returns-in-DisplayHelp-clause-help : goal.returns-in-DisplayHelp-clause-help
returns-in-DisplayHelp-clause-help c = IfOk-weaker c.text_of.result _ _ (λ r h. (h, inl (sym c.in-DisplayHelp.ensures))) c.text_of.ensures.help

pub returns-in-DisplayVersion-clause-help : goal.returns-in-DisplayVersion-clause-help
returns-in-DisplayVersion-clause-help c = IfOk-weaker c.text_of-in-DisplayVersion.result _ _ (λ r h. (h, inr (sym c.in-DisplayVersion.ensures))) c.text_of-in-DisplayVersion.ensures.help
