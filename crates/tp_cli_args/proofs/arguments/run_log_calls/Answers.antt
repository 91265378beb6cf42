use Rattle.tp_cli_args.proofs.ArgumentLemmas.{run_log_words}
use Rattle.tp_cli_args.proofs.arguments.run_log_calls.Goals as goal

pub returns : goal.returns
returns c = run_log_words
