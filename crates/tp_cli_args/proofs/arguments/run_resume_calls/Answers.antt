use Rattle.tp_cli_args.proofs.ArgumentLemmas.{run_resume_words}
use Rattle.tp_cli_args.proofs.arguments.run_resume_calls.Goals as goal

pub returns : goal.returns
returns c = run_resume_words
