use Rattle.std.proofs.Common.{◌≡◌, ℕ, List, IfErr, IfOk, map, sym, ap, subst, ◌∙◌}
use Rattle.tp_bounds.specs.RunLimits.{RunLimits}
use Rattle.tp_ground_named.specs.Rows.{names_of}
use Rattle.tp_ground_named.specs.Reached.{IsTaskOf}
use Rattle.tp_happen.specs.tp_plan_text.PlanNames.{names_from, plan_names}
use Rattle.tp_happen.specs.tp_plan_text.PlanTexts.{lines_of}
use Rattle.tp_ground_named.specs.Named.{chosen, IsBegun, HasNoTaskOf}
use Rattle.tp_syntax.specs.DomainViews.{domain_view, problem_view}
use Rattle.tp_task.specs.Words.{Words}
use Rattle.tp_cli_inputs.proofs.judging.task_for.Goals as goal

pub ground_named-requires : goal.ground_named-requires
ground_named-requires c =
    subst (λ (l : RunLimits). IsBegun l (domain_view c.args.domain.now) (problem_view c.args.problem.now) c.args.begun) (sym c.greatest-limits.ensures) c.requires.begun

pub returns-clause-task : goal.returns-clause-task
returns-clause-task c =
    let d = domain_view c.args.domain.now in
    let p = problem_view c.args.problem.now in
    let named : map names_of c.as_slice-asked.result.now ≡ plan_names c.args.text.now =
    ap (map names_of) c.as_slice-asked.ensures.value ∙ c.in_ok-names.ensures ∙ ap (λ (t : List ℕ). names_from 0 (lines_of t)) (c.as_str.ensures.value ∙ c.in_ok-lowered.ensures.ok) in
    subst (λ (l : RunLimits). IfOk c.ground_named.result (IsTaskOf l c.args.words.scale d p (chosen d p (plan_names c.args.text.now)))) c.greatest-limits.ensures
    (subst (λ (ws : List Words). IfOk c.ground_named.result (IsTaskOf c.greatest-limits.result c.args.words.scale d p (chosen d p ws))) named c.ground_named.ensures.ok)

pub returns-clause-cause : goal.returns-clause-cause
returns-clause-cause c =
    let d = domain_view c.args.domain.now in
    let p = problem_view c.args.problem.now in
    let named : map names_of c.as_slice-asked.result.now ≡ plan_names c.args.text.now =
    ap (map names_of) c.as_slice-asked.ensures.value ∙ c.in_ok-names.ensures ∙ ap (λ (t : List ℕ). names_from 0 (lines_of t)) (c.as_str.ensures.value ∙ c.in_ok-lowered.ensures.ok) in
    subst (λ (l : RunLimits). IfErr c.ground_named.result (HasNoTaskOf l d p (chosen d p (plan_names c.args.text.now)))) c.greatest-limits.ensures
    (subst (λ (ws : List Words). IfErr c.ground_named.result (HasNoTaskOf c.greatest-limits.result d p (chosen d p ws))) named c.ground_named.ensures.err)
