use Rattle.std.proofs.lemmas.Result.{IfErr-weaker, IfOk-weaker}
use Rattle.tp_syntax.specs.DomainViews.{domain_view}
use Rattle.tp_syntax.specs.Domains.{SpellsDomain}
use Rattle.tp_cli_inputs.proofs.NamedLemmas.{back, explains_over, in_over, plan_over}
use Rattle.tp_cli_draw.proofs.named.plan_and_names.Goals as goal

pub returns-clause-named : goal.returns-clause-named
returns-clause-named g c =
    let held = g.N.Files.held c.args.files.now in
    let later = g.N.Files.held c.domain_in.new.files in
    IfOk-weaker c.plan_of_domain-plan.result _ _ (λ n h. plan_over later held c.args.words n.task n.plan c.domain_in.ensures.same h)
    (c.plan_of_domain-plan.ensures.named
    (in_over held later c.args.words.domain.now (λ text. SpellsDomain text (domain_view c.in_ok-domain.domain)) (back later held c.domain_in.ensures.same) c.in_ok-domain.ensures.spelled))

pub returns-clause-cause : goal.returns-clause-cause
returns-clause-cause g c =
    let held = g.N.Files.held c.args.files.now in
    let later = g.N.Files.held c.domain_in.new.files in
    IfErr-weaker c.plan_of_domain-plan.result _ _ (λ fault h. explains_over later held c.args.words fault c.domain_in.ensures.same h)
    (c.plan_of_domain-plan.ensures.cause
    (in_over held later c.args.words.domain.now (λ text. SpellsDomain text (domain_view c.in_ok-domain.domain)) (back later held c.domain_in.ensures.same) c.in_ok-domain.ensures.spelled))
