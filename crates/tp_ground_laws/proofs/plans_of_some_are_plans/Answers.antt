use Rattle.tp_ground.specs.Bindings.{universe_of}
use Rattle.tp_ground.specs.Reached.{instances}
use Rattle.tp_ground_laws.specs.SamePlans.{some_of}
use Rattle.tp_ground_laws.proofs.OnLists.{of_filter}
use Rattle.tp_ground_laws.proofs.OnJudged.{same_validity}
use Rattle.tp_ground_laws.proofs.OnSame.{in_wider, same_texts}
use Rattle.tp_ground_laws.proofs.OnSteps.{of_all, of_kept}
use Rattle.tp_ground_laws.proofs.OnTold.{all_told}
use Rattle.tp_ground_laws.proofs.plans_of_some_are_plans.Goals as goal

pub returns : goal.returns
returns c = λ text other d p limits small scale those t u spelled problem_spelled whole k.
    let all = instances (universe_of d p) d.actions in
    let some = some_of d p those in
    let told = all_told text other d p scale spelled problem_spelled in
    let kt = of_all limits scale d p t whole in
    let ku = of_kept small scale d p some u k in
    let in_u = of_filter those all in
    record {
      same = λ ms ns h g e. same_validity scale d p told all some (λ x i. i) in_u t u kt ku ms ns h g e;
      wide = in_wider scale d p all some t u in_u kt ku;
      told = same_texts scale d p told all some (λ x i. i) in_u t u kt ku;
    }
