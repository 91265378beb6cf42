use Rattle.std.proofs.Common.{refl}
use Rattle.tp_cli_args.proofs.arguments.text_of.Goals as goal

pub returns-clause-help : goal.returns-clause-help
returns-clause-help c = (c.in_ok-format.field-0, refl)
