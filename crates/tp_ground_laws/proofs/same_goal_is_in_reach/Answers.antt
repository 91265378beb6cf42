use Rattle.tp_ground_laws.proofs.OnSteps.{of_all, of_kept}
use Rattle.tp_ground_laws.proofs.OnGoal.{goals_alike}
use Rattle.tp_ground_laws.proofs.same_goal_is_in_reach.Goals as goal

pub returns : goal.returns
returns c = λ d p limits small scale t u whole reached.
    goals_alike scale d p t u reached.kept reached.are_kept (of_all limits scale d p t whole) (of_kept small scale d p reached.kept u reached.task)
