use Rattle.tp_cli_args.proofs.ArgumentLemmas.{check_words}
use Rattle.tp_cli_args.proofs.arguments.check_calls.Goals as goal

pub returns : goal.returns
returns c = check_words
