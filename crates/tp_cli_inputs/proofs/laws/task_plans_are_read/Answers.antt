use Rattle.std.proofs.Common.{◌≡◌, length, sym, ap, ◌∙◌}
use Rattle.std.proofs.lemmas.List.{length-map}
use Rattle.tp_ground_named.specs.ReadBack.{named_body}
use Rattle.tp_ground_named.specs.Bindings.{universe_of}
use Rattle.tp_ground_named.specs.Reached.{Instance, action_of}
use Rattle.tp_ground_named.specs.Named.{chosen}
use Rattle.tp_happen.proofs.OnTaskPlans.{task_plans_read}
use Rattle.tp_cli_inputs.proofs.laws.task_plans_are_read.Goals as goal

pub returns : goal.returns
returns c = λ text other d p limits scale asked t steps h k is known ends.
    let all : length t.actions.items ≡ length t.numbering.actions =
    sym (length-map t.actions.items (named_body t.numbering))
    ∙ ap length is.bodies
    ∙ length-map (chosen d p asked) (λ (i : Instance). (action_of (universe_of d p) i).body)
    ∙ sym (length-map (chosen d p asked) (λ (i : Instance). (action_of (universe_of d p) i).words))
    ∙ sym (ap length is.names) in
    task_plans_read t (c.chosen_actions_are_readable.ensures text other d p limits scale asked t h k is) all c.plans_are_read.ensures steps known ends
