use Rattle.std.proofs.lemmas.Result.{IfErr-weaker, IfOk-weaker}
use Rattle.tp_syntax.specs.DomainViews.{domain_view, problem_view}
use Rattle.tp_syntax.specs.Domains.{SpellsDomain}
use Rattle.tp_cli_inputs.proofs.NamedLemmas.{back, in_over, named_over}
use Rattle.tp_cli_plan.proofs.TaskLemmas.{task_explained}
use Rattle.tp_cli_plan.proofs.tasks.inputs_in.Goals as goal

pub returns-clause-named : goal.returns-clause-named
returns-clause-named g c =
    let held = g.N.Files.held c.args.files.now in
    let later = g.N.Files.held c.domain_in.new.files in
    IfOk-weaker c.inputs_of.result _ _ (λ inputs h. named_over later held c.args.words (domain_view inputs.domain) (problem_view inputs.problem) c.domain_in.ensures.same h)
    (c.inputs_of.ensures.named
    (in_over held later c.args.words.domain.now (λ text. SpellsDomain text (domain_view c.in_ok-domain.domain)) (back later held c.domain_in.ensures.same) c.in_ok-domain.ensures.spelled))

pub returns-clause-cause : goal.returns-clause-cause
returns-clause-cause g c =
    let held = g.N.Files.held c.args.files.now in
    let later = g.N.Files.held c.domain_in.new.files in
    IfErr-weaker c.inputs_of.result _ _ (λ fault h. task_explained later held c.args.words fault c.domain_in.ensures.same h)
    (c.inputs_of.ensures.cause
    (in_over held later c.args.words.domain.now (λ text. SpellsDomain text (domain_view c.in_ok-domain.domain)) (back later held c.domain_in.ensures.same) c.in_ok-domain.ensures.spelled))
