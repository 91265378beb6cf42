use Rattle.tp_search.proofs.at_once.plan_at_once.Goals as goal

pub run-requires-clause-rows : goal.run-requires-clause-rows
run-requires-clause-rows c = c.in_ok-rows.ensures.rows c.args.task.now c.deref.result.now
