use Rattle.std.proofs.Common.{◌≡◌, ◌≤◌, take, length}
use Rattle.std.specs.Vec.{vec_len, vec_capacity}
use Rattle.tp_exec_machine.specs.Run.{Run}
use Rattle.tp_exec_machine.proofs.running.perform_all.Given as goal

abbrev pub invariant-loop-command : goal.invariant-loop-command
invariant-loop-command g l =
    record {
      run : Run l.fn.executive (take l.command-index l.commands) l.answers.items l.executive;
      room : length l.commands ≤ vec_capacity l.answers;
      count : vec_len l.answers ≡ l.command-index;
    }
