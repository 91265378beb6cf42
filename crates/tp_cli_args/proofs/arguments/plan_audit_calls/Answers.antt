use Rattle.tp_cli_args.proofs.ArgumentLemmas.{plan_audit_words}
use Rattle.tp_cli_args.proofs.arguments.plan_audit_calls.Goals as goal

pub returns : goal.returns
returns c = plan_audit_words
