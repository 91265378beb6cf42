use Rattle.std.proofs.Common.{◌≡◌, ℕ, List, length, sym, ap, subst, rules, arith}
use Rattle.std.proofs.lemmas.List.{take_all, take_more}
use Rattle.tp_exec_machine.specs.declared.command.Command.{Command}
use Rattle.tp_exec_machine.specs.declared.command.Command.TheVariants.{Advance}
use Rattle.tp_agents.specs.Interleaved.{RunsJointly, states_of}
use Rattle.tp_agents.proofs.Apart.{agent_below, joint_more, keeps_apart}
use Rattle.tp_agents.proofs.interleaving.perform_known.Goals as goal

pub loop-agent-preserved : goal.loop-agent-preserved
loop-agent-preserved g c =
    record {
      joint = λ other. rw (take_more c.args.commands.now c.loop-agent.agent-index (0, Advance 0) c.loop-agent-test.true, c.in_ok-push.ensures.items)
          (joint_more _ _ _ _ _ _ _ _ (c.loop-agent.invariant.joint other) (c.perform_of.ensures.step other) (λ k ne. c.perform_of.ensures.others k other ne));
      room = omega (arith, c.in_ok-push.ensures.capacity);
      count = omega (arith, c.in_ok-push.ensures.len);
    }

pub returns-clause-alone : goal.returns-clause-alone
returns-clause-alone g c =
    let old = c.args.executives.now in
    let new = c.loop-agent.executives in
    let answers = c.loop-agent.answers.items in
    let commands = c.args.commands.now in
    let j : RunsJointly old commands answers new = subst (λ (cs : List (ℕ × Command)). RunsJointly old cs answers new) (take_all c.loop-agent.agent-index commands (omega (arith, c.loop-agent-test.false))) c.loop-agent.invariant.joint in
    λ other agent. keeps_apart (states_of old other) (states_of new other) commands answers (j other) agent

pub perform_of-requires : goal.perform_of-requires
perform_of-requires g c =
    omega (arith, agent_below (length c.args.executives.now) c.args.commands.now c.loop-agent.agent-index (0, Advance 0) c.requires c.loop-agent-test.true, c.loop-agent.auto.executives)
