use Rattle.std.proofs.Common.{◌∷◌, map, string_bytes, sym, ap, ◌∙◌}
use Rattle.std.specs.List.{position_from}
use Rattle.tp_task.specs.Words.{same_words}
use Rattle.tp_task.specs.Labels.{named}
use Rattle.tp_task.proofs.OnLookups.{same_position, no_position}
use Rattle.tp_task.proofs.lookup.find.Goals as goal

pub returns-in-Some : goal.returns-in-Some
returns-in-Some c =
    let N = map string_bytes c.args.names.now.keys in
    let h = c.in-Some.ensures in
    c.position.ensures
    ∙ sym (same_position N c.requires.distinct c.in-Some.label.items c.args.labels.now 0 h.1 c.requires.named)
    ∙ ap (λ ws. position_from (same_words ws) 0 (map (named N) c.args.labels.now)) h.0

pub returns-in-None : goal.returns-in-None
returns-in-None c =
    sym (no_position (map string_bytes c.args.names.now.keys) (c.args.name.now ∷ map (λ a. a.now) c.args.args.now) c.args.labels.now 0 c.in-None.ensures c.requires.named)
