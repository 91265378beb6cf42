use Rattle.std.proofs.lemmas.Result.{IfErr-weaker, IfOk-weaker}
use Rattle.tp_syntax.specs.DomainViews.{domain_view, problem_view}
use Rattle.tp_cli_inputs.proofs.NamedLemmas.{back, explains_over, named_over, plan_over}
use Rattle.tp_cli_draw.proofs.named.plan_of_domain.Goals as goal

pub returns-clause-named : goal.returns-clause-named
returns-clause-named g c =
    let held = g.N.Files.held c.args.files.now in
    let later = g.N.Files.held c.problem_in.new.files in
    λ spelled.
    IfOk-weaker c.plan_with-plan.result _ _ (λ n h. plan_over later held c.args.words n.task n.plan c.problem_in.ensures.same h)
    (c.plan_with-plan.ensures.named
    (named_over held later c.args.words (domain_view c.args.domain.now) (problem_view c.in_ok-problem.problem) (back later held c.problem_in.ensures.same) (spelled, c.in_ok-problem.ensures.spelled)))

pub returns-clause-cause : goal.returns-clause-cause
returns-clause-cause g c =
    let held = g.N.Files.held c.args.files.now in
    let later = g.N.Files.held c.problem_in.new.files in
    λ spelled.
    IfErr-weaker c.plan_with-plan.result _ _ (λ fault h. explains_over later held c.args.words fault c.problem_in.ensures.same h)
    (c.plan_with-plan.ensures.cause
    (named_over held later c.args.words (domain_view c.args.domain.now) (problem_view c.in_ok-problem.problem) (back later held c.problem_in.ensures.same) (spelled, c.in_ok-problem.ensures.spelled)))
