use Rattle.std.proofs.Common.{◌≡◌, ◌≤◌, take, length}
use Rattle.std.specs.Vec.{vec_len, vec_capacity}
use Rattle.tp_agents.specs.Interleaved.{RunsJointly}
use Rattle.tp_agents.proofs.interleaving.perform_known.Given as goal

abbrev pub invariant-loop-agent : goal.invariant-loop-agent
invariant-loop-agent g l =
    record {
      joint : RunsJointly l.fn.executives (take l.agent-index l.commands) l.answers.items l.executives;
      room : length l.commands ≤ vec_capacity l.answers;
      count : vec_len l.answers ≡ l.agent-index;
    }
