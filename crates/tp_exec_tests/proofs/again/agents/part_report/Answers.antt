use Rattle.tp_exec_tests.proofs.again.agents.part_report.Goals as goal

pub returns-in_ok-run_of-in-Some : goal.returns-in_ok-run_of-in-Some
returns-in_ok-run_of-in-Some c =
    let h = c.in_ok-run_of-in-Some.ensures in
    record {
      start = c.in-Some.executive;
      begins = rw c.in-Some.is at c.in_ok-executive.ensures;
      commands = c.args.commands.now;
      answers = h.0;
      last = c.run_of.new.executive;
      run = h.1;
      report = h.2;
    }
