use Rattle.std.proofs.Common.{arith}
use Rattle.std.proofs.lemmas.List.{take_more}
use Rattle.tp_exec_machine.specs.declared.command.Command.TheVariants.{Advance}
use Rattle.tp_exec_machine.proofs.Runs.{run_more}
use Rattle.tp_exec_machine.proofs.running.perform_all.Goals as goal

pub loop-command-preserved : goal.loop-command-preserved
loop-command-preserved g c =
    record {
      run = rw (take_more c.args.commands.now c.loop-command.command-index (Advance 0) c.loop-command-test.true, c.in_ok-push.ensures.items)
          (run_more _ _ _ _ _ _ _ c.loop-command.invariant.run c.perform.ensures);
      room = omega (arith, c.in_ok-push.ensures.capacity);
      count = omega (arith, c.in_ok-push.ensures.len);
    }
