use Rattle.tp_cli_args.proofs.ArgumentLemmas.{bare_word, no_words}
use Rattle.tp_cli_args.proofs.arguments.bare_calls.Goals as goal

pub returns-clause-none : goal.returns-clause-none
returns-clause-none c = no_words

pub returns-clause-bare : goal.returns-clause-bare
returns-clause-bare c = bare_word
