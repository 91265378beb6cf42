use Rattle.tp_cli_args.proofs.ArgumentLemmas.{part_words}
use Rattle.tp_cli_args.proofs.arguments.part_calls.Goals as goal

pub returns : goal.returns
returns c = part_words
