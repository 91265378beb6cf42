use Rattle.tp_cli_args.proofs.ArgumentLemmas.{bare_log_words}
use Rattle.tp_cli_args.proofs.arguments.bare_log_calls.Goals as goal

pub returns : goal.returns
returns c = bare_log_words
