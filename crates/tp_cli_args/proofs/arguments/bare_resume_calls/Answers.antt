use Rattle.tp_cli_args.proofs.ArgumentLemmas.{bare_resume_words}
use Rattle.tp_cli_args.proofs.arguments.bare_resume_calls.Goals as goal

pub returns : goal.returns
returns c = bare_resume_words
