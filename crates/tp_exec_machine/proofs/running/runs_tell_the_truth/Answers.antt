use Rattle.tp_exec_machine.proofs.Runs.{run_true}
use Rattle.tp_exec_machine.proofs.running.runs_tell_the_truth.Goals as goal

pub returns : goal.returns
returns c = λ old new commands answers. run_true commands answers old new
