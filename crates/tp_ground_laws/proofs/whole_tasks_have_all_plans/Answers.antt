use Rattle.tp_ground_laws.specs.SamePlans.{some_of}
use Rattle.tp_ground_laws.proofs.OnSteps.{of_all, of_kept}
use Rattle.tp_ground_laws.proofs.OnTold.{all_told}
use Rattle.tp_ground_laws.proofs.OnWholeTasks.{same_plans}
use Rattle.tp_ground_laws.proofs.whole_tasks_have_all_plans.Goals as goal

pub returns : goal.returns
returns c = λ text other d p limits small scale t u spelled problem_spelled whole k.
    same_plans scale d p k.those k.has_useful t u (all_told text other d p scale spelled problem_spelled)
    (of_all limits scale d p t whole) (of_kept small scale d p (some_of d p k.those) u k.task)
