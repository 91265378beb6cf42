use Rattle.std.proofs.Common.{◌≡◌, ℕ, List, ◌++◌, map, string_bytes, ap, ◌∙◌}
use Rattle.tp_bounds.specs.declared.Bound.{Bound}
use Rattle.tp_agents.specs.Owners.{events_of}
use Rattle.tp_agents.specs.Parts.{event_line, keeps_intervals, part_bounds}
use Rattle.tp_agents.proofs.PartNets.{part_is_net, texts_count, same_net}
use Rattle.tp_agents.proofs.parts.network.Goals as goal

pub invariant_of-result : goal.invariant_of-result
invariant_of-result c =
    let s = c.args.split.now.setting in
    let owners : List ℕ = c.args.split.now.owners.items in
    let es : List ℕ = events_of owners c.args.agent in
    let texts : map string_bytes c.in_ok-events.events.items ≡ map event_line es = c.in_ok-events.ensures ∙ ap (λ (o : List ℕ). map event_line (events_of o c.args.agent)) c.deref.ensures.value in
    let bounds : c.keep_intervals.new.bounds.items ≡ part_bounds s owners c.args.split.now.intervals.items c.args.agent =
    c.in_ok-keep_intervals.ensures ∙ ap (λ (l : List Bound). l ++ keeps_intervals c.args.split.now.intervals.items 0 es) c.in_ok-bounds.ensures in
    record {
      net = same_net _ _ _ _ _ _ (texts_count c.in_ok-events.events.items es texts) c.horizon.ensures bounds
          (part_is_net s owners c.args.split.now.least.items c.args.split.now.intervals.items c.args.split.now.split c.events-events.ensures.lawful c.args.agent);
    }
