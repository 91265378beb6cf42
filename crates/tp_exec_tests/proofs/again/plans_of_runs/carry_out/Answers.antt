use Rattle.tp_exec_tests.proofs.again.plans_of_runs.carry_out.Goals as goal

pub returns : goal.returns
returns c =
    c.runs_keep_the_plan.ensures c.args.plan.now.task c.args.plan.now.steps c.args.executive.now c.perform_all.new.executive c.args.commands.now _ c.requires c.in_ok-answers.ensures.run
