use Rattle.tp_cli_args.proofs.ArgumentLemmas.{net_words}
use Rattle.tp_cli_args.proofs.arguments.net_calls.Goals as goal

pub returns : goal.returns
returns c = net_words
