use Rattle.tp_cli_args.proofs.ArgumentLemmas.{plan_progress_words}
use Rattle.tp_cli_args.proofs.arguments.plan_progress_calls.Goals as goal

pub returns : goal.returns
returns c = plan_progress_words
