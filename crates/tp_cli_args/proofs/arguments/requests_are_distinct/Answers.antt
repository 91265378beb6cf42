use Rattle.tp_cli_args.proofs.ArgumentLemmas.{distinct}
use Rattle.tp_cli_args.proofs.arguments.requests_are_distinct.Goals as goal

pub returns : goal.returns
returns c = distinct
