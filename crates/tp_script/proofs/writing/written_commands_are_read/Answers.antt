use Rattle.tp_script.proofs.ReadBack.{read_again}
use Rattle.tp_script.proofs.writing.written_commands_are_read.Goals as goal

pub returns : goal.returns
returns c = read_again
