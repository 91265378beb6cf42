use Rattle.std.proofs.Common.{ℕ, ◌≤◌, [], map, refl, sym, ap, subst, ◌∙◌}
use Rattle.std.proofs.lemmas.List.{length-map}
use Rattle.tp_syntax_ast.specs.DomainViews.{domain_view, problem_view}
use Rattle.tp_ground_bindings.specs.Bindings.{Universe}
use Rattle.tp_ground_bodies.specs.Lowered.{IsLowered}
use Rattle.tp_ground.specs.Instances.{instance_view, of_task_with, written_with}
use Rattle.tp_ground.specs.WrittenTasks.{named_task}
use Rattle.tp_task.specs.Tables.{with_actions}
use Rattle.tp_ground.proofs.OnTasks.{few_some, fits_some, named_some, is_task_of}
use Rattle.tp_ground.proofs.tasks.task_with.Goals as goal

pub task_of-requires-clause-few : goal.task_of-requires-clause-few
task_of-requires-clause-few c =
    few_some c.args.limits.now c.args.scale (domain_view c.args.domain.now) (problem_view c.args.problem.now) (map instance_view c.args.some.now) _ (with_actions c.prepare_with.new.numbering c.new-numbering.result.actions) c.prepare_with.new.numbering _ (c.new-numbering.ensures ∙ ap (λ (n : ℕ). record { atoms = []; fluents = []; actions = []; most = n }) c.atoms.ensures) (subst (λ (v : Universe). IsLowered named_task c.new-numbering.result (with_actions c.prepare_with.new.numbering c.new-numbering.result.actions) c.in_ok-lowered.lowered (written_with v (problem_view c.args.problem.now).initial (problem_view c.args.problem.now).goal (map instance_view c.args.some.now)) (of_task_with v (problem_view c.args.problem.now).initial (problem_view c.args.problem.now).goal (map instance_view c.args.some.now))) c.requires.of_problem c.in_ok-lowered.ensures.lowered) c.in_ok-lowered.ensures.names refl refl refl
    (subst (λ (n : ℕ). n ≤ 65_535) (sym (length-map c.args.some.now instance_view)) c.requires.few)

pub task_of-requires-clause-fits : goal.task_of-requires-clause-fits
task_of-requires-clause-fits c = fits_some c.args.limits.now c.args.scale (domain_view c.args.domain.now) (problem_view c.args.problem.now) (map instance_view c.args.some.now) _ (with_actions c.prepare_with.new.numbering c.new-numbering.result.actions) c.prepare_with.new.numbering _ (c.new-numbering.ensures ∙ ap (λ (n : ℕ). record { atoms = []; fluents = []; actions = []; most = n }) c.atoms.ensures) (subst (λ (v : Universe). IsLowered named_task c.new-numbering.result (with_actions c.prepare_with.new.numbering c.new-numbering.result.actions) c.in_ok-lowered.lowered (written_with v (problem_view c.args.problem.now).initial (problem_view c.args.problem.now).goal (map instance_view c.args.some.now)) (of_task_with v (problem_view c.args.problem.now).initial (problem_view c.args.problem.now).goal (map instance_view c.args.some.now))) c.requires.of_problem c.in_ok-lowered.ensures.lowered) c.in_ok-lowered.ensures.names refl refl refl

pub task_of-requires-clause-all_named : goal.task_of-requires-clause-all_named
task_of-requires-clause-all_named c = named_some c.args.limits.now c.args.scale (domain_view c.args.domain.now) (problem_view c.args.problem.now) (map instance_view c.args.some.now) _ (with_actions c.prepare_with.new.numbering c.new-numbering.result.actions) c.prepare_with.new.numbering _ (c.new-numbering.ensures ∙ ap (λ (n : ℕ). record { atoms = []; fluents = []; actions = []; most = n }) c.atoms.ensures) (subst (λ (v : Universe). IsLowered named_task c.new-numbering.result (with_actions c.prepare_with.new.numbering c.new-numbering.result.actions) c.in_ok-lowered.lowered (written_with v (problem_view c.args.problem.now).initial (problem_view c.args.problem.now).goal (map instance_view c.args.some.now)) (of_task_with v (problem_view c.args.problem.now).initial (problem_view c.args.problem.now).goal (map instance_view c.args.some.now))) c.requires.of_problem c.in_ok-lowered.ensures.lowered) c.in_ok-lowered.ensures.names refl refl refl

pub returns-clause-ok : goal.returns-clause-ok
returns-clause-ok c = is_task_of c.args.limits.now c.args.scale (domain_view c.args.domain.now) (problem_view c.args.problem.now) (map instance_view c.args.some.now) _ (with_actions c.prepare_with.new.numbering c.new-numbering.result.actions) c.prepare_with.new.numbering _ (c.new-numbering.ensures ∙ ap (λ (n : ℕ). record { atoms = []; fluents = []; actions = []; most = n }) c.atoms.ensures) (subst (λ (v : Universe). IsLowered named_task c.new-numbering.result (with_actions c.prepare_with.new.numbering c.new-numbering.result.actions) c.in_ok-lowered.lowered (written_with v (problem_view c.args.problem.now).initial (problem_view c.args.problem.now).goal (map instance_view c.args.some.now)) (of_task_with v (problem_view c.args.problem.now).initial (problem_view c.args.problem.now).goal (map instance_view c.args.some.now))) c.requires.of_problem c.in_ok-lowered.ensures.lowered) c.in_ok-lowered.ensures.names refl refl refl _ c.in_ok-task_of.ensures.made
