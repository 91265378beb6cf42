use Rattle.tp_cli_args.proofs.ArgumentLemmas.{command_help_words, help_words, version_words}
use Rattle.tp_cli_args.proofs.arguments.help_calls.Goals as goal

pub returns-clause-help : goal.returns-clause-help
returns-clause-help c = help_words

pub returns-clause-version : goal.returns-clause-version
returns-clause-version c = version_words

pub returns-clause-command : goal.returns-clause-command
returns-clause-command c = command_help_words
