use Rattle.tp_cli_args.proofs.ArgumentLemmas.{draw_words}
use Rattle.tp_cli_args.proofs.arguments.draw_calls.Goals as goal

pub returns : goal.returns
returns c = draw_words
