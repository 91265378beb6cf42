use Rattle.tp_plan_text.proofs.OnTaskWords.{found_within}
use Rattle.tp_plan_text.proofs.task_words.action_of.Goals as goal

pub returns-clause-known : goal.returns-clause-known
returns-clause-known c = found_within _ _ _ _ c.args.task.now.all_named c.action.ensures
