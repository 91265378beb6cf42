use Rattle.tp_cli_args.proofs.ArgumentLemmas.{split_words}
use Rattle.tp_cli_args.proofs.arguments.split_calls.Goals as goal

pub returns : goal.returns
returns c = split_words
