use Rattle.std.proofs.Common.{sym, subst}
use Rattle.std.proofs.lemmas.Result.{IfErr-weaker, IfOk-weaker}
use Rattle.tp_syntax.specs.DomainViews.{domain_view, problem_view}
use Rattle.tp_cli_inputs.specs.Named.{IsTaskFor}
use Rattle.tp_cli_inputs.proofs.NamedLemmas.{refused_by}
use Rattle.tp_cli_inputs.proofs.judging.plan_of.Goals as goal

pub returns-in-Ok-clause-plan : goal.returns-in-Ok-clause-plan
returns-in-Ok-clause-plan c =
    IfOk-weaker c.plan_for.result _ _
    (λ n h. (subst (IsTaskFor c.args.words (domain_view c.args.domain.now) (problem_view c.args.problem.now) c.args.text.now) (sym h.0) c.in-Ok.ensures.task, h.1))
    c.plan_for.ensures.plan

pub returns-in-Ok-clause-cause : goal.returns-in-Ok-clause-cause
returns-in-Ok-clause-cause c =
    IfErr-weaker c.plan_for.result _ _
    (λ fault h. refused_by c.args.words (domain_view c.args.domain.now) (problem_view c.args.problem.now) c.args.text.now c.in-Ok.task fault c.in-Ok.ensures.task h)
    c.plan_for.ensures.cause
