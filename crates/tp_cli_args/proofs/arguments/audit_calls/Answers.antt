use Rattle.tp_cli_args.proofs.ArgumentLemmas.{audit_words}
use Rattle.tp_cli_args.proofs.arguments.audit_calls.Goals as goal

pub returns : goal.returns
returns c = audit_words
