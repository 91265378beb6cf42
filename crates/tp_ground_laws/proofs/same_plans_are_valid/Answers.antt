use Rattle.tp_ground_laws.proofs.OnSteps.{of_all, of_kept}
use Rattle.tp_ground_laws.proofs.OnSame.{have_same_plans}
use Rattle.tp_ground_laws.proofs.same_plans_are_valid.Goals as goal

pub returns : goal.returns
returns c = λ text other d p limits small scale t u h k whole reached.
    have_same_plans scale d p t u (c.actions_are_readable.ensures text other d p limits scale t h k whole) reached.kept reached.are_kept
    (of_all limits scale d p t whole) (of_kept small scale d p reached.kept u reached.task)
