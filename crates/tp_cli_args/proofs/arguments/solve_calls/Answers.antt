use Rattle.tp_cli_args.proofs.ArgumentLemmas.{solve_words}
use Rattle.tp_cli_args.proofs.arguments.solve_calls.Goals as goal

pub returns : goal.returns
returns c = solve_words
