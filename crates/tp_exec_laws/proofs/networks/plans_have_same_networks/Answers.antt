use Rattle.tp_ground.specs.Bindings.{universe_of}
use Rattle.tp_ground.specs.Reached.{instances}
use Rattle.tp_ground_laws.specs.SamePlans.{some_of}
use Rattle.tp_ground_laws.proofs.OnLists.{of_filter}
use Rattle.tp_ground_laws.proofs.OnSteps.{of_kept}
use Rattle.tp_ground_laws.proofs.OnTold.{all_told}
use Rattle.tp_exec_laws.proofs.OnNetworks.{have_same_network}
use Rattle.tp_exec_laws.proofs.networks.plans_have_same_networks.Goals as goal

pub returns : goal.returns
returns c = λ text other d p limits small scale these those t u spelled problem_spelled k l ms ns h g e.
    let all = instances (universe_of d p) d.actions in
    have_same_network scale d p (all_told text other d p scale spelled problem_spelled)
    (some_of d p these) (some_of d p those) (of_filter these all) (of_filter those all) t u
    (of_kept limits scale d p (some_of d p these) t k) (of_kept small scale d p (some_of d p those) u l) ms ns h g e
