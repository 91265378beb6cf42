use Rattle.std.proofs.Common.{◌≡◌, ℕ, List, sym, ap, subst, ◌∙◌}
use Rattle.std.specs.List.{All, filter_map}
use Rattle.std.specs.Map.{values_of}
use Rattle.tp_bounds.specs.declared.Bound.{Bound}
use Rattle.tp_bounds.specs.Setting.{IsInRange}
use Rattle.tp_agents.specs.declared.crosses.CrossBound.{CrossBound}
use Rattle.tp_agents.specs.Crosses.{cross_of, crosses_of}
use Rattle.tp_agents.proofs.InForce.{all_among}
use Rattle.tp_agents.proofs.Decoupling.{known_weight}
use Rattle.tp_agents.proofs.splitting.split_by.Goals as goal

pub intervals-requires-clause-weights : goal.intervals-requires-clause-weights
intervals-requires-clause-weights c =
    let same : c.deref.result.now ≡ crosses_of c.args.setting.now c.args.owners.now =
    c.deref.ensures.value ∙ (c.in_ok-crosses.ensures ∙ ap (λ (es : List (ℕ × Bound)). filter_map (cross_of c.args.owners.now) (values_of es)) (sym c.in_force.ensures.entries)) in
    subst (All (λ (b : CrossBound). IsInRange b.w)) (sym same)
    (all_among (λ (b : CrossBound). IsInRange b.w) (crosses_of c.args.setting.now c.args.owners.now) (λ b a. known_weight c.args.setting.now c.args.owners.now b c.events-events.ensures.lawful a))
