use Rattle.std.proofs.Common.{sym, subst}
use Rattle.std.proofs.lemmas.Result.{IfErr-weaker, IfOk-weaker}
use Rattle.tp_cli_files.specs.Texts.{HoldsText}
use Rattle.tp_syntax.specs.DomainViews.{domain_view, problem_view}
use Rattle.tp_cli_inputs.proofs.NamedLemmas.{stopped}
use Rattle.tp_cli_inputs.proofs.judging.plan_from.Goals as goal

pub returns-in-Ok-clause-named : goal.returns-in-Ok-clause-named
returns-in-Ok-clause-named g c =
    λ are.
    IfOk-weaker c.plan_of.result _ _
    (λ n h. record {
      domain = domain_view c.args.domain.now;
      problem = problem_view c.args.problem.now;
      text = c.as_str.result.now;
      are_named = are;
      plan_in = subst (HoldsText (g.N.Files.held c.args.files.now c.args.words.plan.now)) (sym c.as_str.ensures.value) c.in-Ok.ensures.text;
      task_of = h.0;
      spelled = h.1;
    })
    c.plan_of.ensures.plan

pub returns-in-Ok-clause-cause : goal.returns-in-Ok-clause-cause
returns-in-Ok-clause-cause g c =
    let held = g.N.Files.held c.args.files.now in
    λ are.
    IfErr-weaker c.plan_of.result _ _
    (λ fault h. stopped held c.args.words (domain_view c.args.domain.now) (problem_view c.args.problem.now) c.as_str.result.now fault are
    (subst (HoldsText (held c.args.words.plan.now)) (sym c.as_str.ensures.value) c.in-Ok.ensures.text) h)
    c.plan_of.ensures.cause
