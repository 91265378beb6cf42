use Rattle.tp_ground.specs.Bindings.{universe_of}
use Rattle.tp_ground.specs.Reached.{instances}
use Rattle.tp_ground_laws.specs.SamePlans.{some_of}
use Rattle.tp_ground_laws.proofs.OnLists.{of_filter}
use Rattle.tp_ground_laws.proofs.OnJudged.{same_validity, same_first}
use Rattle.tp_ground_laws.proofs.OnSame.{flipped}
use Rattle.tp_ground_laws.proofs.OnSteps.{of_kept}
use Rattle.tp_ground_laws.proofs.OnTold.{all_told}
use Rattle.tp_ground_laws.proofs.plans_are_judged_alike.Goals as goal

pub returns : goal.returns
returns c = λ text other d p limits small scale these those t u spelled problem_spelled k l ms ns h g e.
    let all = instances (universe_of d p) d.actions in
    let told = all_told text other d p scale spelled problem_spelled in
    let kt = of_kept limits scale d p (some_of d p these) t k in
    let ku = of_kept small scale d p (some_of d p those) u l in
    let in_t = of_filter these all in
    let in_u = of_filter those all in
    record {
      valid = same_validity scale d p told (some_of d p these) (some_of d p those) in_t in_u t u kt ku ms ns h g e;
      first = λ tick why. (
        same_first scale d p told (some_of d p these) (some_of d p those) in_t in_u t u kt ku ms ns h g e tick why,
        same_first scale d p told (some_of d p those) (some_of d p these) in_u in_t u t ku kt ns ms g h (flipped t u ms ns e) tick why,
      );
    }
