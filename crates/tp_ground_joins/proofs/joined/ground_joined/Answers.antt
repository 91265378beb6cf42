use Rattle.std.proofs.Common.{List, Vec, Bor, Global, ℕ, map, subst}
use Rattle.tp_syntax_ast.specs.DomainViews.{domain_view, problem_view}
use Rattle.tp_task.specs.Words.{Words, has_words}
use Rattle.tp_ground_bindings.specs.Rows.{names_of}
use Rattle.tp_ground.specs.Reached.{IsTaskOf}
use Rattle.tp_ground_named.specs.Named.{chosen, words_of}
use Rattle.tp_ground_joins.proofs.joined.ground_joined.Goals as goal

pub returns : goal.returns
returns c =
    let d = domain_view c.args.domain.now in
    let p = problem_view c.args.problem.now in
    let asked : List Words = map names_of c.in_ok-useful.useful.words.items in
    let task : IsTaskOf c.args.limits.now c.args.scale d p (chosen d p asked) c.in_ok-task.task =
    subst (λ (ws : List (Vec (Bor (List ℕ)) Global)). IsTaskOf c.args.limits.now c.args.scale d p (chosen d p (map names_of ws)) c.in_ok-task.task) c.as_slice-asked.ensures.value c.in_ok-task.ensures.ok in
    record {
      some = record { asked = asked; task = task };
      whole = λ are. record { those = λ i. has_words asked (words_of i); has_useful = c.in_ok-useful.ensures are; task = task };
    }
