use Rattle.tp_agents.specs.Interleaved.{commands_of, answers_of}
use Rattle.tp_agents.proofs.Apart.{keeps_apart}
use Rattle.tp_exec_laws.proofs.joined.joint_runs_are_part_runs.Goals as goal

pub returns : goal.returns
returns c = λ reports h agent r there.
    record {
      start = h.start agent;
      begins = h.begins agent r there;
      commands = commands_of agent h.commands;
      answers = answers_of agent h.commands h.answers;
      last = h.last agent;
      run = keeps_apart h.start h.last h.commands h.answers h.run agent;
      report = h.report agent r there;
    }
