use Rattle.std.proofs.Common.{ℕ, ap₂, ◌∙◌}
use Rattle.std.specs.List.{list_all}
use Rattle.tp_task.specs.Fits.{body_fits}
use Rattle.tp_ground.proofs.tasks.task_of.Goals as goal

pub invariant_of-result : goal.invariant_of-result
invariant_of-result c = record {
  few_actions = c.requires.few;
  fits = ap₂ (λ (n m : ℕ). list_all (body_fits n m) c.args.lowered.actions.items) c.in_ok-beginning.ensures.atom_count c.in_ok-beginning.ensures.fluent_count ∙ c.requires.fits;
  all_named = c.requires.all_named;
}
