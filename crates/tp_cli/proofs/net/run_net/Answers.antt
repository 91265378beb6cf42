use Rattle.std.proofs.Common.{◌∙◌, ℕ, List}
use Rattle.tp_bounds.specs.RunLimits.{greatest_limits}
use Rattle.tp_task.specs.declared.task.Task.{Task}
use Rattle.tp_happen.specs.tp_plan_text.declared.plans.Step.{Step}
use Rattle.tp_cli.specs.Networks.{IsShownText, PassesNet}
use Rattle.tp_cli.proofs.PlanLemmas.{ends, ends_kept, ends_told, ends_within, part_then}
use Rattle.tp_cli.proofs.net.run_net.Goals as goal

pub returns-in-Err-clause-stopped : goal.returns-in-Err-clause-stopped
returns-in-Err-clause-stopped g c =
    λ two.
    ends (λ (task : Task) (steps : List Step) (text : List ℕ). IsShownText task steps (greatest_limits c.args.words.horizon) text) (PassesNet (greatest_limits c.args.words.horizon)) (g.N.Files.held c.args.files.now) c.args.words _ _ _ _ _ _ _ _ _ _ _ c.in-Err.stop _ c.in-Err.ensures.cause (c.complain.ensures.status ∙ c.stop_line.ensures.status) c.in-Err.ensures.failures c.in-Err.ensures.opened c.stop_line.ensures.text c.complain.ensures.told

pub returns-in-Err-clause-kept : goal.returns-in-Err-clause-kept
returns-in-Err-clause-kept g c =
    λ two.
    ends_kept (λ (task : Task) (steps : List Step) (text : List ℕ). IsShownText task steps (greatest_limits c.args.words.horizon) text) (PassesNet (greatest_limits c.args.words.horizon)) (g.N.Files.held c.args.files.now) c.args.words _ _ _ c.in-Err.stop c.in-Err.ensures.cause (c.complain.ensures.status ∙ c.stop_line.ensures.status) two

pub returns-in-Err-clause-part : goal.returns-in-Err-clause-part
returns-in-Err-clause-part g c =
    λ broken.
    part_then (λ (task : Task) (steps : List Step) (text : List ℕ). IsShownText task steps (greatest_limits c.args.words.horizon) text) (PassesNet (greatest_limits c.args.words.horizon)) (g.N.Files.held c.args.files.now) c.args.words _ _ c.in-Err.stop c.in-Err.ensures.cause

pub returns-in-Err-clause-told : goal.returns-in-Err-clause-told
returns-in-Err-clause-told g c =
    λ no.
    ends_told _ _ _ c.in-Err.stop (c.complain.ensures.status ∙ c.stop_line.ensures.status) c.in-Err.ensures.failures no

pub returns-in-Err-clause-within : goal.returns-in-Err-clause-within
returns-in-Err-clause-within g c = ends_within _ c.in-Err.stop (c.complain.ensures.status ∙ c.stop_line.ensures.status)
