use Rattle.std.proofs.Common.{◌≡◌, ap, ◌∙◌}
use Rattle.tp_bounds.specs.Setting.{Setting, event_count}
use Rattle.tp_bounds.specs.Changes.{fresh}
use Rattle.tp_agents.proofs.OnSettings.{least_as}
use Rattle.tp_agents.proofs.Gathered.{part_of_same, same_part_of}
use Rattle.tp_agents.proofs.gathering.least_moments.Goals as goal

pub returns-clause-ok : goal.returns-clause-ok
returns-clause-ok c =
    let s : Setting = c.args.setting.now in
    let first : c.in_ok-net.net.setting ≡ fresh (event_count s) s.horizon = c.in_ok-net.ensures.setting ∙ (ap (λ n. fresh n c.horizon.result) c.events.ensures.count ∙ ap (fresh (event_count s)) c.horizon.ensures) in
    let all : c.gather.new.net.setting ≡ record (fresh (event_count s) s.horizon) { bounds = s.bounds } = c.in_ok-gather.ensures.ok ∙ ap (λ (q : Setting). record q { bounds = s.bounds }) first in
    least_as c.gather.new.net.setting s (part_of_same s c.gather.new.net.setting c.requires all) (same_part_of s c.gather.new.net.setting c.requires all) c.in_ok-lows.field-0.items c.in_ok-lows.ensures
